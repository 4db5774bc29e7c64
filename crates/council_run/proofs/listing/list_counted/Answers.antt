use Rattle.std.proofs.Common.{arith}
use Rattle.council_run.proofs.listing.list_counted.Goals as goal

pub returns : goal.returns
returns g c lines same = (
  omega (arith, c.in_ok-gathered.ensures.few, c.choose_game-walked.ensures.as_many),
  (c.choose_game-walked.ensures.counts c.in_ok-counts.counts.value c.in_ok-counts.ensures, c.in_ok-coalitions.ensures lines same),
)
