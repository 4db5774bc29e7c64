use Rattle.std.proofs.Common.{◌∙◌, eq-eqb, eqb-true, sym}
use Rattle.council_game.proofs.Common.{common-is-all, is-common}
use Rattle.council_game.proofs.coalition.Coalition.is_subset_of.Goals as goal

pub returns : goal.returns
returns c = λ n below other. (
  (λ is p lt. common-is-all n c.args.self c.args.other
      (sym c.intersection.ensures.mask ∙ eqb-true c.intersection.result c.args.self (sym c.eq.ensures ∙ is)) p),
  (λ subset. c.eq.ensures ∙ eq-eqb c.intersection.result c.args.self
      (c.intersection.ensures.mask ∙ is-common n c.args.self c.args.other below subset)),
)
