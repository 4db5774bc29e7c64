use Rattle.mwc_states.proofs.Imports.{subst, sym, All, AreSums}
use Rattle.std.proofs.lemmas.List.Elements.{All-push}
use Rattle.mwc_states.specs.declared.sums.Sums.{Sums}
use Rattle.mwc_states.proofs.later.Later.new.Goals as goal

pub loop-rule-preserved : goal.loop-rule-preserved
loop-rule-preserved c =
    let P : Sums → Type 0 = λ list. AreSums list.rule c.args.members.now list.rows.items in
    subst (All P) (sym c.in_ok-push.ensures.items) (All-push P c.loop-rule.sums.items c.in_ok-new.field-0 c.loop-rule.invariant c.in_ok-new.ensures)
