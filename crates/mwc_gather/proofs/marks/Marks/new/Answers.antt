use Rattle.mwc_gather.proofs.Imports.{None}
use Rattle.std.proofs.lemmas.List.{take-replicate}
use Rattle.mwc_gather.proofs.marks.Marks.new.Goals as goal

pub returns : goal.returns
returns c = take-replicate c.args.slices 1024 None c.requires.1
