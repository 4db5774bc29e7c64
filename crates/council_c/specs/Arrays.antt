-- The game that arrays hold: quotas, and weights rule by rule.
use Rattle.std.specs.Prelude.{ℕ, ◌+◌, ◌-◌, ◌*◌, ◌/◌, ◌%◌, ◌^◌, ◌==◌, ◌&&◌, nat_le, nat_lt, Bool, List, [], ◌∷◌, length, map, filter, slice_index, position, take, drop, None, Result, Err, if◌then◌else◌}
use Rattle.std.specs.List.{list_any, range_with_len}
use Rattle.std.specs.Option.{option_map_or}
use Rattle.council_game.specs.declared.limits.TheConstants.{RULES, WEIGHT}
use Rattle.council_file.specs.Bracket.{counted_names}
use Rattle.council_game.specs.Game.{GameView, has_bad_quota, made_game}
use Rattle.council_game.specs.Votes.{RuleView}
use Rattle.council_game.specs.declared.fault.GameFault.{GameFault}
use Rattle.council_game.specs.declared.fault.GameFault.TheVariants.{Name, QuotaRange, Rules, SameName, Weight}

-- rule r of n members
abbrev pub rule_of : List ℕ → List ℕ → ℕ → ℕ → RuleView
rule_of quotas weights n r = record { quota = slice_index quotas r; weights = take n (drop (r * n) weights) }

abbrev pub rules_of : List ℕ → List ℕ → ℕ → List RuleView
rules_of quotas weights n = map (rule_of quotas weights n) (range_with_len 0 (length quotas))

-- binary digit r of a mask is 1
unfoldable pub has_digit : ℕ → ℕ → Bool
has_digit mask r = mask / 2 ^ r % 2 == 1

-- the rules of a way, by the binary digits of a mask
abbrev pub rules_of_mask : ℕ → List ℕ
rules_of_mask mask = filter (has_digit mask) (range_with_len 0 64)

-- the masks of the ways: those that are not 0; if there are none, one with all n rules
abbrev pub masks_or_all : ℕ → List ℕ → List ℕ
masks_or_all n masks = if list_any (nat_lt 0) masks then filter (nat_lt 0) masks else (2 ^ n - 1) ∷ []

-- The game of n members, or its first fault: a coalition wins if it meets each of 1 to 4 rules, or
-- each rule of some way; the members are named 1, 2, ..
unfoldable pub game_of_arrays : List ℕ → List ℕ → ℕ → List ℕ → Result GameView GameFault
game_of_arrays quotas weights n ways =
    if nat_le 1 (length quotas) && nat_le (length quotas) RULES
    then made_game None (counted_names n) (rules_of quotas weights n) (map rules_of_mask (masks_or_all (length quotas) ways))
    else Err Rules

-- the first rule, from 1, that passes a test; 0 if none does
abbrev pub first_rule : (RuleView → Bool) → List RuleView → ℕ
first_rule p rules = option_map_or (λ r. r + 1) (position p rules) 0

-- the rule that a fault is of, from 1; 0 if it is of none
abbrev pub rule_of_fault : GameFault → List RuleView → ℕ
rule_of_fault (Weight member) rules = first_rule (λ r. nat_lt WEIGHT (slice_index r.weights (member - 1))) rules
rule_of_fault QuotaRange rules = first_rule has_bad_quota rules
rule_of_fault other rules = 0

-- the member that a fault is of, from 1; 0 if it is of none
abbrev pub member_of_fault : GameFault → ℕ
member_of_fault (Name member) = member
member_of_fault (SameName member) = member
member_of_fault (Weight member) = member
member_of_fault other = 0
