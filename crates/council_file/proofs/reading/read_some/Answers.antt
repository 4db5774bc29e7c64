use Rattle.std.proofs.{Common.arith, lemmas.Grind.common_steps}
use Rattle.council_file.proofs.reading.read_some.Goals as goal

pub returns-in_ok-extend_from_slice-in-Ok : goal.returns-in_ok-extend_from_slice-in-Ok
returns-in_ok-extend_from_slice-in-Ok g c = grind (arith, common_steps)
