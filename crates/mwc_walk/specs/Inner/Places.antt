-- A place of the walk: x is the number of the first p places.
use Rattle.std.specs.Prelude.{ℕ, ◌+◌, ◌-◌, ◌/◌, ◌^◌, ◌==◌, ◌≡◌, ◌≤◌, ◌<◌, Bool, true, false, nat_le, List, [], length, take, drop, slice_index, slice_index_or}
use Rattle.std.specs.List.{filter, sum, list_all, list_any}
use Rattle.mwc_walk.specs.declared.lane.Lane.{Lane}
use Rattle.mwc_walk.specs.Inner.Lanes.{lane_at}
use Rattle.council_game.specs.Votes.{Votes, RuleView, IsRule, meets_quota, rule_at, has, weight, minimal}
use Rattle.council_game.specs.Ways.{has_rule}
use Rattle.council_game.specs.Shared.Below.{minimal_below}

-- of a list of coalitions, those of slice j at k bits
unfoldable pub in_slice : Votes → ℕ → ℕ → List ℕ → List ℕ
in_slice v k j cs = filter (λ c. c / 2 ^ (v.members - k) == 2 ^ k - 1 - j) cs

-- what is left of slice j when the numbers below a bound are left
unfoldable pub slice_below : Votes → ℕ → ℕ → ℕ → List ℕ
slice_below v k j bound = in_slice v k j (minimal_below v bound)

-- with what may still come from place p on, the quota of a rule can be met
abbrev pub can_meet : ℕ → ℕ → RuleView → Bool
can_meet p x r = nat_le r.quota (weight (take p r.weights) x + sum (drop p r.weights))

-- the first p places meet it by themselves
abbrev pub meets_at : ℕ → ℕ → RuleView → Bool
meets_at p x r = nat_le r.quota (weight (take p r.weights) x)

-- some way can still be met
unfoldable pub reaches : Votes → ℕ → ℕ → Bool
reaches v p x = list_any (list_all (λ i. can_meet p x (rule_at v.rules i))) v.ways

-- the first p places win by themselves
unfoldable pub wins_at : Votes → ℕ → ℕ → Bool
wins_at v p x = list_any (list_all (λ i. meets_at p x (rule_at v.rules i))) v.ways

-- ---- sets of rules
-- rule i is in the set
abbrev pub in_set : List Bool → ℕ → Bool
in_set set i = slice_index_or set i false

-- the set has the rules of way k
abbrev pub IsWay : Votes → ℕ → List Bool → Type 0
IsWay v k set = (i : ℕ) → i < length v.rules → in_set set i ≡ has_rule (slice_index_or v.ways k []) i

pub record IsSomeWay (v : Votes) (set : List Bool) : Type 0 where
  pub way : ℕ
  pub there : way < length v.ways
  pub same : IsWay v way set

-- each rule of the set passes a test
abbrev pub SetPasses : (RuleView → Bool) → Votes → List Bool → Type 0
SetPasses test v set = (i : ℕ) → i < length v.rules → in_set set i ≡ true → test (rule_at v.rules i) ≡ true

-- each coalition that begins with the prefix and meets the rules of the set passes the quota of
-- rule i by e at least
abbrev pub IsExcess : Votes → List Bool → ℕ → ℕ → ℕ → ℕ → Type 0
IsExcess v set p x i e = (c : ℕ) → c / 2 ^ (v.members - p) ≡ x → SetPasses (meets_quota c) v set →
    (rule_at v.rules i).quota + e ≤ weight (rule_at v.rules i).weights c

abbrev pub AreExcesses : Votes → List Bool → ℕ → ℕ → List ℕ → Type 0
AreExcesses v set p x es = (i : ℕ) → i < length v.rules → in_set set i ≡ true → IsExcess v set p x i (slice_index es i)

-- each rule of the set can spare place q, if rule i passes its quota by number i of es
abbrev pub CanSpare : Votes → List Bool → List ℕ → ℕ → Type 0
CanSpare v set es q = (i : ℕ) → i < length v.rules → in_set set i ≡ true → slice_index (rule_at v.rules i).weights q ≤ slice_index es i

-- no coalition that begins with the prefix and meets the rules of the set is minimal
abbrev pub NothingMeets : Votes → List Bool → ℕ → ℕ → Type 0
NothingMeets v set p x = (c : ℕ) → c / 2 ^ (v.members - p) ≡ x → SetPasses (meets_quota c) v set → minimal v c ≡ false

-- no coalition that begins with the prefix is minimal
abbrev pub NothingBelow : Votes → ℕ → ℕ → Type 0
NothingBelow v p x = (c : ℕ) → c / 2 ^ (v.members - p) ≡ x → minimal v c ≡ false

-- lane l is that of rule r
pub record LaneIs (n : ℕ) (r : RuleView) (l : Lane) : Type 0 where
  pub rule : IsRule n r
  pub quota : l.quota ≡ r.quota
  pub weights : take n l.weights ≡ r.weights
  pub rest : (q : ℕ) → q ≤ n → slice_index l.rest q ≡ sum (drop q r.weights)
  pub weightless : (q : ℕ) → q < n → has n q l.weightless ≡ (slice_index r.weights q == 0)
  pub lightest : (p q : ℕ) → p < n → q ≤ p → slice_index r.weights q < slice_index l.lightest p → slice_index r.weights q ≡ 0

-- the first lanes are those of the rules
abbrev pub LanesStand : Votes → List Lane → Type 0
LanesStand v ls = (i : ℕ) → i < length v.rules → LaneIs v.members (rule_at v.rules i) (lane_at ls i)

-- with the members of the prefix in
unfoldable pub LanesAre : Votes → ℕ → ℕ → List Lane → Type 0
LanesAre v p x ls =
    LanesStand v ls × ((i : ℕ) → i < length v.rules → (lane_at ls i).sum ≡ weight (take p (rule_at v.rules i).weights) x)
