use Rattle.mwc_states.proofs.Imports.{ℕ, List, get_or, ltb, arith, rules, subst, sym, ◌∙◌, ap, AreSums}
use Rattle.std.proofs.lemmas.List.Sorted.{IsPartitionPoint-from_clause, IsPartitionedBy-ltb, IsNonDecreasingBy-from_default}
use Rattle.mwc_states.proofs.Merging.{meets-raised}
use Rattle.mwc_states.proofs.sums.Sums.raise.Goals as goal

pub returns-then-at-len-clause-met : goal.returns-then-at-len-clause-met
returns-then-at-len-clause-met c members set given met_row met_raised =
    let rows : List (List ℕ) = c.deref.result.now in
    let at : ℕ = c.partition_point-at.result in
    let entry : List ℕ → ℕ = λ row. get_or row c.args.self.now.rule 0 in
    let sums : AreSums c.args.self.now.rule members rows = subst (AreSums c.args.self.now.rule members) (sym c.deref.ensures.value) given in
    let parted = IsPartitionedBy-ltb entry rows (entry c.args.row.now) (IsNonDecreasingBy-from_default entry rows _ sums.ascending) in
    let point = IsPartitionPoint-from_clause (λ row. ltb (entry row) (entry c.args.row.now)) rows at c.partition_point-at.ensures.partitioned parted
    (λ a r q k. search rules) in
    meets-raised c.args.row.now c.args.raised.now c.index.result.now c.max.result at set (omega arith) sums (omega (arith, c.deref.ensures.len)) point.0
    (c.index.ensures ∙ ap (λ rows. get_or rows at c.index.result.now) (sym c.deref.ensures.value)) c.max.ensures (c.is_row.ensures c.args.self.now.rule) met_row met_raised
