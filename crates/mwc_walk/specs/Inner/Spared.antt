-- The members of a prefix who can be spared.
use Rattle.std.specs.Prelude.{ℕ, ◌-◌, ◌*◌, ◌/◌, ◌^◌, ◌≡◌, ◌≤◌, ◌<◌, Bool, true, false, List, length, take, drop, slice_index}
use Rattle.council_game.specs.Votes.{Votes, meets_quota, rule_at, has, weight, minimal}
use Rattle.mwc_walk.specs.Inner.Places.{CanSpare, NothingBelow, SetPasses, wins_at}

-- number i of es is what the prefix weighs by rule i beyond its quota
abbrev pub ExcessIs : Votes → ℕ → ℕ → List ℕ → Type 0
ExcessIs v p x es = (i : ℕ) → i < length v.rules →
    slice_index es i ≡ weight (take p (rule_at v.rules i).weights) x - (rule_at v.rules i).quota

-- by rule i, each coalition that begins with the prefix and meets the rules of the set weighs at
-- least `need` from place p on
abbrev pub IsNeed : Votes → List Bool → ℕ → ℕ → ℕ → ℕ → Type 0
IsNeed v set p x i need = (c : ℕ) → c / 2 ^ (v.members - p) ≡ x → SetPasses (meets_quota c) v set
    → need ≤ weight (drop p (rule_at v.rules i).weights) c

-- no member of the prefix can be spared
abbrev pub NoneSpared : Votes → List Bool → ℕ → ℕ → List ℕ → Type 0
NoneSpared v set p x es = (q : ℕ) → q < v.members → has v.members q (x * 2 ^ (v.members - p)) ≡ true → CanSpare v set es q → ⊥

-- of the places of the prefix, those that are not in rest cannot be spared
pub record Tried (v : Votes) (set : List Bool) (p x : ℕ) (es : List ℕ) (rest : ℕ) : Type 0 where
  pub below : rest < 2 ^ v.members
  pub inside : (q : ℕ) → q < v.members → has v.members q rest ≡ true → has v.members q (x * 2 ^ (v.members - p)) ≡ true
  pub kept : (q : ℕ) → q < v.members → has v.members q (x * 2 ^ (v.members - p)) ≡ true → has v.members q rest ≡ false
      → CanSpare v set es q → ⊥

-- nothing below a prefix that is passed by is minimal; a winning one that is not passed by is
-- minimal
abbrev pub CanPassBy : Votes → ℕ → ℕ → Bool → Type 0
CanPassBy v p x passed = (passed ≡ true → NothingBelow v p x)
    × (passed ≡ false → wins_at v p x ≡ true → minimal v (x * 2 ^ (v.members - p)) ≡ true)
