use Rattle.council_report.proofs.Imports.{◌++◌, ℕ, List, sym, ap, ◌∙◌, subst, arith, common_steps, IsLabel}
use Rattle.council_report.proofs.SharedLines.{line-added, subtotal-more, no_subtotal, added-light, added-short}
use Rattle.council_report.proofs.shared_line.SharedLine.add.Goals as goal

pub with-subtotal-requires-clause-weights : goal.with-subtotal-requires-clause-weights
with-subtotal-requires-clause-weights c = grind (arith, common_steps, added-light, no_subtotal)

pub unreachable-requires : goal.unreachable-requires
unreachable-requires c = grind (arith, common_steps, added-short)

pub returns-clause-line : goal.returns-clause-line
returns-clause-line c =
    let is = subst (IsLabel c.args.game.now c.args.self.now.end) (sym c.index-label.ensures)
    (c.requires.line.labels.each c.args.self.now.end c.index-label.result.now c.requires.more) in
    line-added c.args.game.now c.args.self.now c.extend_from_slice.new.self c.with-subtotal.result c.index-label.result.now c.requires.line
    c.requires.more c.requires.inside is
    (subtotal-more c.args.game.now _ c.args.self.now.end _ c.with-subtotal.result c.index-label.result.now
    (c.requires.line.subtotals c.args.self.now.end no_subtotal
    (omega arith)) is c.with-subtotal.ensures.length c.with-subtotal.ensures.long c.with-subtotal.ensures.weights)
    (c.in-Ok.ensures.items ∙ ap (λ (t : List ℕ). c.args.self.now.names.items ++ t) c.deref.ensures.value) c.in-Ok.ensures.capacity
