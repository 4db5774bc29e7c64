use Rattle.mwc_gather.proofs.Imports.{List, arith, take_all, common_steps, Part}
use Rattle.mwc_gather.proofs.Wholes.{each_once}
use Rattle.mwc_gather.proofs.gathered.Gathered.piece.Goals as goal

pub unreachable-requires : goal.unreachable-requires
unreachable-requires c =
    let parts : List Part = c.args.self.now.parts.items in
    let once = each_once c.args.self.now.slices parts c.args.self.now.each_slice_once c.args.j c.requires in
    grind (arith, common_steps, take_all)
