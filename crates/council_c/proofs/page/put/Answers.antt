use Rattle.council_c.proofs.Buffers.{shows-copy}
use Rattle.council_c.proofs.page.put.Goals as goal

pub returns : goal.returns
returns c = shows-copy c.args.text.now c.args.room.now _ _ c.min-count.ensures c.copy_from_slice.ensures.after
