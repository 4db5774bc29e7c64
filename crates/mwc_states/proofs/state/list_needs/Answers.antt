use Rattle.mwc_states.proofs.Imports.{◌≡◌, ◌∙◌, List, ℕ, true, false, ap, sym, arith, nat_tests, both_ways, false_from_ne_true, get_or, meets, misses_all, weigh}
use Rattle.std.specs.List.{list_any}
use Rattle.mwc_states.proofs.{Leaving.misses_all-implied, Ways.needs-more}
use Rattle.mwc_states.proofs.state.list_needs.Goals.{then-is_reachable+then-not-is_implied+in_ok-insert, else-is_reachable}
use Rattle.mwc_states.proofs.state.list_needs.Goals.{else-is_reachable-via-then-is_reachable+else-not-is_implied, else-is_reachable-via-else-is_reachable}
use Rattle.mwc_states.proofs.state.list_needs.Goals as goal

pub loop-need-preserved : goal.loop-need-preserved
loop-need-preserved c set =
    let members = c.args.later.now.members.now in
    let need : List ℕ = c.raise-need.result in
    let w : ℕ → ℕ = weigh members set in
    let before = c.loop-need.invariant set in
    let more = needs-more members c.args.member.now c.args.taken c.args.old.now c.reduce.result need set c.loop-need.need-index
    c.loop-need-test.true c.reduce.ensures c.raise-need.ensures in
    elim c.if-is_reachable.branch [
      | then-is_reachable+then-not-is_implied+in_ok-insert x ↦
          ap (λ needs. misses_all w needs.items) x.needs-is ∙ grind (arith, nat_tests, before, more, x.in_ok-insert.ensures w)
      | else-is_reachable x ↦
          ap (λ needs. misses_all w needs.items) x.needs-is
          ∙ elim x.else-is_reachable.branch [
            | else-is_reachable-via-then-is_reachable+else-not-is_implied y ↦
                let implied : list_any (λ row. meets (λ r. get_or need r 0) row) c.loop-need.needs.items ≡ true =
                rw y.deref.ensures.value at (sym y.is_implied.ensures ∙ y.if-not-is_implied.false) in
                grind (arith, nat_tests, before, more, misses_all-implied w need c.loop-need.needs.items implied)
            | else-is_reachable-via-else-is_reachable y ↦
                let unmet : meets w need ≡ false = false_from_ne_true _ (λ e. both_ways _ y.if-is_reachable.false (c.is_reachable.ensures set e)) in
                grind (arith, nat_tests, before, more, unmet)
          ]
    ]
