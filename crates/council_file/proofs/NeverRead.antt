-- No bytes have the fault Read: it is that of a reader.
use Rattle.std.proofs.lemmas.Result.{err_from_is_err_and}
use Rattle.std.proofs.Common.{◌+◌, ◌≢◌, ◌∷◌, [], ℕ, Bool, true, false, List, Option, Some, None, Result, Ok, Err, subst, length, not, IfErr}
use Rattle.std.proofs.Common.{ok_or, if◌then◌else◌, arith}
use Rattle.std.specs.{Option.option_map_or, Str.is_utf8}
use Rattle.toml.specs.{Data.Data, Data.Members, Data.as_str, Parse.parse_document}
use Rattle.council_game.specs.{Game.is_title, Game.made_game, Votes.RuleView, declared.fault.GameFault.GameFault}
use Rattle.council_game.specs.declared.fault.GameFault.TheVariants.{Read, Text, Title, Ways, Bracket}
use Rattle.council_game.specs.Fault.{◌>>=◌, refuse, refuse_at, Gives}
use Rattle.council_file.specs.Bracket.{counted_names, game_of_bracket, symbols, rule_of}
use Rattle.council_file.specs.File.{breaks_ways, game_of_tree, title_from, tree_of, ways_of}
use Rattle.council_game.specs.Ways.{one_way}

-- a fault of the bytes
abbrev pub IsOwn : GameFault → Type 0
IsOwn Read = ⊥
IsOwn fault = Unit {0}

abbrev IsOwnIn : {A : Type 0} → Result A GameFault → Type 0
IsOwnIn (Ok x) = Unit {0}
IsOwnIn (Err fault) = IsOwn fault

-- an answer is a value or a fault of the bytes
pub record NoRead {A : Type 0} (r : Result A GameFault) : Type 0 where
  pub own : IsOwnIn r

step : {A B : Type 0} (r : Result A GameFault) (f : A → Result B GameFault) → NoRead r → ((x : A) → NoRead (f x)) → NoRead (r >>= f)
step (Ok x) f first second = second x
step (Err fault) f first second = record { own = first.own }

no_read-refuse : (b : Bool) (fault : GameFault) → IsOwn fault → NoRead (refuse b fault)
no_read-refuse true fault own = record { own = own }
no_read-refuse false fault own = record { own = tt }

refused_at : (fault : ℕ → GameFault) (found : Option ℕ) → ((k : ℕ) → IsOwn (fault k)) → NoRead (refuse_at fault found)
refused_at fault None own = record { own = tt }
refused_at fault (Some k) own = record { own = own (k + 1) }

or : {A : Type 0} (o : Option A) (fault : GameFault) → IsOwn fault → NoRead (ok_or o fault)
or None fault own = record { own = own }
or (Some x) fault own = record { own = tt }

no_read-if : {A : Type 0} (b : Bool) (x y : Result A GameFault) → NoRead x → NoRead y → NoRead (if b then x else y)
no_read-if true x y first second = first
no_read-if false x y first second = second

made : (title : Option (List ℕ)) (names : List (List ℕ)) (rules : List RuleView) (ways : List (List ℕ))
    → NoRead (made_game title names rules ways)
unfolding made_game
made title names rules ways = grind (arith, step, no_read-refuse, refused_at)

text : (o : Option (List ℕ)) → NoRead (option_map_or (λ s. if is_title s then Ok (Some s) else Err Title) o (Err Title))
text None = record { own = tt }
text (Some s) = no_read-if (is_title s) (Ok (Some s)) (Err Title) (record { own = tt }) (record { own = tt })

titled : (o : Option Data) → NoRead (title_from o)
titled None = record { own = tt }
titled (Some d) = text (as_str d)

ways-read : (t : Members) → NoRead (ways_of t)
ways-read t = step _ _ (no_read-refuse (breaks_ways t) Ways tt) (λ _. record { own = tt })

pub of-tree : (t : Members) → NoRead (game_of_tree t)
unfolding game_of_tree
of-tree t = grind (arith, step, no_read-refuse, titled, ways-read, made)

pub to-tree : (bytes : List ℕ) → NoRead (tree_of bytes)
unfolding tree_of
to-tree bytes = step _ _ (no_read-refuse (not (is_utf8 bytes)) Text tt) (λ _. or (parse_document bytes) Text tt)

pub of-bracket : (bytes : List ℕ) → NoRead (game_of_bracket bytes)
unfolding game_of_bracket
of-bracket bytes = step _ _ (or (rule_of (symbols bytes)) Bracket tt) (λ r. made None (counted_names (length r.weights)) (r ∷ []) (one_way 1))

-- an answer to what has no fault Read
pub never-read : {X Y : Type 0} (view : X → Y) (answer : Result X GameFault) (wanted : Result Y GameFault) → NoRead wanted
    → Gives view answer wanted → IfErr answer (λ fault. fault ≢ Read)
never-read view (Ok x) wanted own h = tt
never-read view (Err Read) wanted own h = absurd (subst NoRead h own).own
never-read view (Err fault) wanted own h = λ e. absurd (cc)

-- what a parse rests on
pub ruleset unread = (never-read, of-bracket, of-tree, to-tree, err_from_is_err_and)
