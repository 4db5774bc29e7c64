-- What a state leads to: how its need and its misses change once a member is decided.
use Rattle.std.specs.Prelude.{ℕ, ◌≡◌, ◌-◌, Bool, true, not, ◌&&◌, ◌||◌, min, nat_lt, List, ◌∷◌, slice_index, sum_by}
use Rattle.std.specs.Prelude.{if◌then◌else◌}
use Rattle.std.specs.List.{filter, list_all, list_any, range_with_len}
use Rattle.council_game.specs.declared.limits.TheConstants.{RULES}
use Rattle.mwc_states.specs.Inner.Sets.{MOST, weigh, meets}
use Rattle.mwc_states.specs.Inner.States.{misses_all}

-- the numbers under each rule add up to a row, as far as 64 bits go
abbrev pub IsTotal : List (List ℕ) → List ℕ → Type 0
IsTotal members total = (r : ℕ) → slice_index total r ≡ min (sum_by (λ member. slice_index member r) members) MOST

-- the member may be in a minimal set that meets the need and the row: without it, the others may
-- miss the need under some rule
unfoldable pub is_able : List ℕ → List ℕ → List ℕ → Bool
is_able need row member =
    list_any (λ r. nat_lt 0 (slice_index need r) && nat_lt (slice_index row r - slice_index need r) (slice_index member r)) (range_with_len 0 RULES)

-- so for each of some needs that the row meets
abbrev pub is_able_any : List (List ℕ) → List ℕ → List ℕ → Bool
is_able_any needs row member = list_all (λ need. not (meets (slice_index row) need) || is_able need row member) needs

-- what all members weigh that may be in such a set
abbrev pub weigh_able_any : List (List ℕ) → List ℕ → List (List ℕ) → ℕ → ℕ
weigh_able_any needs row members r = sum_by (λ member. if is_able_any needs row member then slice_index member r else 0) members

abbrev pub weigh_able : List ℕ → List ℕ → List (List ℕ) → ℕ → ℕ
weigh_able need row members r = sum_by (λ member. if is_able need row member then slice_index member r else 0) members

-- the needs of later members, once a member is decided, are missed where the old ones are
abbrev pub AreLeft : List (List ℕ) → List ℕ → Bool → List (List ℕ) → List (List ℕ) → Type 0
AreLeft members member taken old new =
    (set : List Bool) → misses_all (weigh members set) new ≡ misses_all (weigh (member ∷ members) (taken ∷ set)) old

-- the needs that meet no miss: who meets one of the others meets a miss
abbrev pub alive : List (List ℕ) → List (List ℕ) → List (List ℕ)
alive misses needs = filter (λ need. not (list_any (λ row. meets (slice_index need) row) misses)) needs

-- what they must miss then: the needs, if the member is taken and not to be spared, and the misses
abbrev pub misses_left_any : List (List ℕ) → List ℕ → Bool → List (List ℕ) → List (List ℕ) → List Bool → Bool
misses_left_any members member taken needs misses set =
    (if taken then misses_all (weigh members set) needs else true) && misses_all (weigh (member ∷ members) (taken ∷ set)) misses

-- so for one need
abbrev pub misses_left : List (List ℕ) → List ℕ → Bool → List ℕ → List (List ℕ) → List Bool → Bool
misses_left members member taken need misses set =
    (if taken then not (meets (weigh members set) need) else true) && misses_all (weigh (member ∷ members) (taken ∷ set)) misses
