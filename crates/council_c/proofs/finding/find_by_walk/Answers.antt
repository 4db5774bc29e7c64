use Rattle.std.proofs.Common.{◌∙◌}
use Rattle.council_c.proofs.finding.find_by_walk.Goals as goal

pub returns-then-call-clause-finds : goal.returns-then-call-clause-finds
returns-then-call-clause-finds c =
    rw c.if-call.true (λ lines same. c.count_by_walk.ensures.finds lines (same ∙ c.requires.bare c.if-call.true))

pub returns-else-call-clause-finds : goal.returns-else-call-clause-finds
returns-else-call-clause-finds c = rw c.if-call.false (λ lines same. c.list_by_walk.ensures.finds lines same)
