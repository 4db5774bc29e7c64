use Rattle.std.proofs.Common.{sym}
use Rattle.toml.proofs.Views.{view-Array}
use Rattle.council_file.proofs.Views.{elements_view}
use Rattle.council_file.proofs.tree.elements_of.Goals as goal

pub returns-in-Array : goal.returns-in-Array
returns-in-Array c = rw (c.in-Array.is, view-Array, c.as_slice.ensures.value) (sym (elements_view c.in-Array.items.items))
