use Rattle.std.proofs.lemmas.Bool.Decides.{nat_tests}
use Rattle.std.proofs.{Common.arith, lemmas.Grind.common_steps}
use Rattle.council_file.specs.File.{only_rule}
use Rattle.council_file.proofs.Views.{at_place, along_places}
use Rattle.council_file.proofs.rules.lone_rule.Goals as goal

pub returns : goal.returns
unfolding only_rule
returns c = grind (arith, nat_tests, at_place, common_steps, along_places)
