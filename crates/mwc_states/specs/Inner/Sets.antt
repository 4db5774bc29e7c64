-- Sets of members, and what they weigh. A set is a list that says of each member whether it has it;
-- members past its end are not in it. A row has a number for each rule.
use Rattle.std.specs.Prelude.{ℕ, zero, suc, ◌+◌, ◌-◌, ◌^◌, Bool, true, false, nat_le, List, [], ◌∷◌, map, slice_index, slice_index_or}
use Rattle.std.specs.Prelude.{if◌then◌else◌}
use Rattle.std.specs.List.{list_all, range_with_len}
use Rattle.council_game.specs.declared.limits.TheConstants.{RULES}

-- the greatest number of 64 bits
abbrev pub MOST : ℕ
MOST = 2 ^ 64 - 1

-- what a set of these members weighs under rule r
unfoldable pub weigh : List (List ℕ) → List Bool → ℕ → ℕ
weigh [] set r = 0
weigh (member ∷ members) [] r = 0
weigh (member ∷ members) (true ∷ set) r = slice_index member r + weigh members set r
weigh (member ∷ members) (false ∷ set) r = weigh members set r

-- weights meet a row: they are at least as great under each rule
unfoldable pub meets : (ℕ → ℕ) → List ℕ → Bool
meets weights row = list_all (λ r. nat_le (slice_index row r) (weights r)) (range_with_len 0 RULES)

-- what is left of a set if one of its members leaves, for each of them
unfoldable pub without_one : List Bool → List (List Bool)
without_one [] = []
without_one (true ∷ set) = (false ∷ set) ∷ map (λ less. true ∷ less) (without_one set)
without_one (false ∷ set) = map (λ less. false ∷ less) (without_one set)

-- the set has member i
abbrev pub has : ℕ → List Bool → Bool
has i set = slice_index_or set i false

-- of the sets of n members, how many of s members pass a test
unfoldable pub count_sets : ℕ → (List Bool → Bool) → ℕ → ℕ
count_sets zero test zero = if test [] then 1 else 0
count_sets zero test (suc s) = 0
count_sets (suc n) test zero = count_sets n (λ set. test (false ∷ set)) zero
count_sets (suc n) test (suc s) = count_sets n (λ set. test (false ∷ set)) (suc s) + count_sets n (λ set. test (true ∷ set)) s
