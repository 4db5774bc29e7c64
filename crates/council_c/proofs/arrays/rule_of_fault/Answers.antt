use Rattle.std.proofs.Common.{ℕ, ◌∙◌, ◌+◌, Bool, Option, ap, sym, position, nat_lt, slice_index, ◌-◌}
use Rattle.std.specs.Option.{option_map_or}
use Rattle.council_game.specs.declared.limits.TheConstants.{WEIGHT}
use Rattle.council_game.specs.{Game.has_bad_quota, Rules.rule_view, Votes.RuleView}
use Rattle.council_game.proofs.Shared.Lists.{position_map}
use Rattle.council_c.proofs.arrays.rule_of_fault.Goals as goal

-- the number of the place that was found
abbrev number : Option ℕ → ℕ
number place = option_map_or (λ r. r + 1) place 0

pub returns-in_ok-rules-in-Weight : goal.returns-in_ok-rules-in-Weight
returns-in_ok-rules-in-Weight c =
    let test : RuleView → Bool = λ r. nat_lt WEIGHT (slice_index r.weights (c.in-Weight.member - 1)) in
    rw c.in-Weight.is
    (c.number_of_place.ensures ∙ ap number (c.place_of_heavy.ensures.place ∙ ap (position (λ r. test (rule_view r))) c.deref-in-Weight.ensures.value
    ∙ sym (position_map test rule_view c.in_ok-rules-in-Weight.rules.items) ∙ ap (position test) c.in_ok-rules-in-Weight.ensures.rules))

pub returns-in_ok-rules-in-QuotaRange : goal.returns-in_ok-rules-in-QuotaRange
returns-in_ok-rules-in-QuotaRange c =
    rw c.in-QuotaRange.is
    (c.number_of_place-in-QuotaRange.ensures
    ∙ ap number (c.place_of_bad_quota.ensures.place ∙ ap (position (λ r. has_bad_quota (rule_view r))) c.deref-in-QuotaRange-2.ensures.value
    ∙ sym (position_map has_bad_quota rule_view c.in_ok-rules-in-QuotaRange.rules.items)
    ∙ ap (position has_bad_quota) c.in_ok-rules-in-QuotaRange.ensures.rules))
