-- What seeks of a walk come to.
use Rattle.std.specs.Prelude.{ℕ, ◌≡◌, ◌+◌, ◌-◌, ◌*◌, ◌^◌, [], ◌∷◌, ◌++◌, length}
use Rattle.mwc_walk.specs.declared.seek.Seek.{Seek}
use Rattle.mwc_walk.specs.declared.seek.Seek.TheVariants.{Found, End, NotYet}
use Rattle.mwc_walk.specs.WalkView.{WalkView, given}

-- a walk is asked for the next coalition within n visits: it is given; or none is left; or there
-- were n visits more, and the same was given and is to come
abbrev pub Seeks : ℕ → WalkView → Seek → WalkView → Type 0
Seeks n a (Found c) b = (a.to_come ≡ c ∷ b.to_come) × (given b ≡ given a ++ c ∷ [])
Seeks n a End b = (a.to_come ≡ []) × (b.to_come ≡ []) × (given b ≡ given a)
Seeks n a NotYet b = (b.visits ≡ a.visits + n) × (b.to_come ≡ a.to_come) × (given b ≡ given a)

-- a number that falls with each seek but those that come to the end
unfoldable pub seeks_left : WalkView → ℕ
seeks_left w = length w.to_come * (2 ^ 64 + 1) + (2 ^ 64 - w.visits)
