-- The rules of a tree that passed the checks fit a game.
use Rattle.std.proofs.Common.{◌≡◌, ℕ, ◌<◌, ◌≤◌, Bool, true, false, List, [], length, map, Option, Some, None, is_some, codes, refl, sym}
use Rattle.std.proofs.Common.{arith, All, inl, inr, String, Global, string_bytes}
use Rattle.std.specs.{List.range_with_len, Option.option_map_or}
use Rattle.std.proofs.lemmas.List.{length-map, Elements.All-nil, Elements.All-cons, Elements.All-map, FromFn.length-map-range_with_len}
use Rattle.std.proofs.lemmas.Bool.{cases_Bool, false≢true, Decides.nat_tests}
use Rattle.toml.specs.Data.{Data, Members}
use Rattle.council_game.specs.{Rules.rule_views, Votes.RuleView, declared.rule.Rule.Rule}
use Rattle.council_game.proofs.Shared.RuleLists.{held_full}
use Rattle.council_file.specs.File.{has_key, elements_at, are_quotas, breaks_rules, lacks_quota, member_list, only_rule, rule_from}
use Rattle.council_file.specs.File.{rules_of, name_from}

none_gives : (f : Data → Bool) (o : Option Data) (d : Bool) → is_some o ≡ false → option_map_or f o d ≡ d
none_gives f None d h = refl
none_gives f (Some x) d h = absurd (false≢true (sym h))

one_to_four : (ds : List Data) → are_quotas ds ≡ true → (0 < length ds) × (length ds ≤ 4)
one_to_four ds h = (grind (arith, nat_tests), grind (arith, nat_tests))

only_full : (t : Members) → length (only_rule t).weights ≡ length (member_list t)
unfolding only_rule
only_full t = length-map (member_list t) _

at_full : (t : Members) (n r : ℕ) → length (rule_from t n r).weights ≡ length (member_list t)
unfolding rule_from
at_full t n r = length-map (member_list t) _

pub rules_full : (t : Members) → All (λ r. length r.weights ≡ length (member_list t)) (rules_of t)
rules_full t =
    elim (cases_Bool (has_key (codes "quota") t)) [
      | inl lone ↦ rw lone
          (All-cons (λ (r : RuleView). length r.weights ≡ length (member_list t)) (only_rule t) [] (only_full t) (All-nil _))
      | inr many ↦
          let n = length (elements_at (codes "quotas") t) in
          rw many (All-map (λ (r : RuleView). length r.weights ≡ length (member_list t)) (rule_from t n) (range_with_len 0 n)
          (λ k r h. at_full t n _))
    ]

-- what the code holds
pub held_count : (rules : List Rule) (t : Members) → rule_views rules ≡ rules_of t → breaks_rules t ≡ false → lacks_quota t ≡ false
    → (0 < length rules) × (length rules ≤ 4)
held_count rules t same ok quota = grind (arith, nat_tests, length-map, cases_Bool, none_gives, length-map-range_with_len, one_to_four)

pub all_held : (rules : List Rule) (t : Members) (names : List (String Global)) (ds : List Data) → rule_views rules ≡ rules_of t
    → ds ≡ member_list t → map string_bytes names ≡ map name_from ds
    → All (λ r. length r.weights.items ≡ length names) rules
all_held rules t names ds same members named =
    let len : length (member_list t) ≡ length names = grind (arith, length-map) in
    held_full rules (length names) (rw (same, ← len) (rules_full t))

-- what the game of a tree rests on
pub ruleset held = (held_count, all_held)
