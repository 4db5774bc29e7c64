-- Rows of items that are put or taken in one call, as steps of a pipe.
use Rattle.std.specs.Prelude.{◌≡◌, ℕ, ◌≤◌, Bool, false, List, [], ◌∷◌, ◌++◌, drop, length, take, map, if◌then◌else◌}
use Rattle.mwc_pipe.specs.declared.step.Step.TheVariants.{Put, Take}
use Rattle.mwc_pipe.specs.declared.step.Reply.TheVariants.{Accepted, Full, Item, Empty}
use Rattle.mwc_pipe.specs.History.{Event, history_after, has_close, items_in, items_out}

module _ {T : Type 0} where
  -- the put that a call stops at
  abbrev pub put_refused : List T → List (Event T)
  put_refused [] = []
  put_refused (x ∷ xs) = (Put x, Full) ∷ []

  -- the steps of a call that puts the first n of a row: n puts accepted, and if it stops short, one
  -- more that is answered Full
  abbrev pub puts_of : List T → ℕ → List (Event T)
  puts_of row n = map (λ x. (Put x, Accepted)) (take n row) ++ put_refused (drop n row)

  -- the take that a call stops at, where it stops short
  abbrev pub take_refused : Bool → List (Event T)
  take_refused short = if short then (Take, Empty) ∷ [] else []

  -- the steps of a call that takes these items: as many takes answered by an item, and if it stops
  -- short, one more that is answered Empty
  abbrev pub takes_of : List T → Bool → List (Event T)
  takes_of items short = map (λ x. (Take, Item x)) items ++ take_refused short

  -- a pipe of this capacity answers these steps after this past as they are answered here
  abbrev pub AreAnswered : ℕ → List (Event T) → List (Event T) → Type 0
  AreAnswered capacity past events = history_after capacity past (map (λ event. event.0) events) ≡ past ++ events

  -- a past that the end of a ring that items are put into can have seen: these were accepted, and
  -- `gone` of them were taken
  pub record IsSeenByIn (accepted : List T) (gone : ℕ) (past : List (Event T)) : Type 0 where
    pub came : items_in past ≡ accepted
    pub went : length (items_out past) ≡ gone
    pub few : gone ≤ length accepted
    pub unclosed : has_close past ≡ false

  -- a past that the end of a ring that items are taken from can have seen: these came, and these of
  -- them were taken
  pub record IsSeenByOut (given taken : List T) (past : List (Event T)) : Type 0 where
    pub came : items_in past ≡ given
    pub went : items_out past ≡ taken
    pub unclosed : has_close past ≡ false
