use Rattle.std.proofs.lemmas.Bool.Decides.{nat_tests}
use Rattle.std.proofs.{Common.arith, lemmas.Grind.common_steps}
use Rattle.council_file.specs.File.{rule_from}
use Rattle.council_file.proofs.Views.{at_place, along_places}
use Rattle.council_file.proofs.rules.rule_from.Goals as goal

pub returns : goal.returns
unfolding rule_from
returns c = grind (arith, nat_tests, at_place, common_steps, along_places)
