use Rattle.mwc_states.proofs.Imports.{◌∙◌, ◌<◌, ◌+◌, ◌-◌, ℕ, nat_tests, arith, ap, sym, inl, inr, cases_eq, length, length-append, length-set, drop}
use Rattle.mwc_states.proofs.Imports.{accepts, count_sets, link_at, lists}
use Rattle.mwc_states.proofs.Worth.{complete-fits, complete-next, complete-past, count-here, count-last, count-more, count-other, count-past, level-at, level-rows}
use Rattle.mwc_states.proofs.set_counts.complete.Goals as goal

pub loop-size-init : goal.loop-size-init
loop-size-init c =
    let links = level-at c.args.levels.now c.args.level c.index-levels-level.result c.requires.level c.index-levels-level.is in
    grind (arith, nat_tests, length-append, count-more, count-last, count-past, complete-past c.requires.graph links)

pub complete_size-requires : goal.complete_size-requires
complete_size-requires c =
    let level = level-at c.args.levels.now c.args.level c.index-levels-level.result c.requires.level c.index-levels-level.is in
    let links = c.index-levels-level.result.items in
    let sizes = lists c.loop-size.sizes.items in
    let at : ℕ = c.loop-size.size - 1 in
    let without = rw c.deref.ensures.value at c.counts_of-without.ensures in
    let with = rw c.deref-in-loop-size.ensures.value at c.counts_of-with.ensures in
    let next = λ (k : ℕ). complete-next c.requires.graph level sizes k at
    (λ p t le lt. c.loop-size.invariant.same p t (omega (arith, le, c.loop-size-test.true)) ∙ c.requires.next.each p t lt) in record {
      fits = λ k. omega (arith, without (link_at links k 0), with (link_at links k 1), next k, complete-fits c.requires.graph level k at);
    }

pub loop-size-preserved : goal.loop-size-preserved
loop-size-preserved c =
    let level = level-at c.args.levels.now c.args.level c.index-levels-level.result c.requires.level c.index-levels-level.is in
    let links = c.index-levels-level.result.items in
    let sizes = c.loop-size.sizes.items in
    let counts = c.in_ok-sizes.field-0 in
    let at : ℕ = c.loop-size.size - 1 in
    let within : at < length sizes = omega (arith, c.loop-size-test.true, c.loop-size.invariant.long, c.loop-size.auto.size, c.len-size.ensures) in
    let without = rw c.deref.ensures.value at c.counts_of-without.ensures in
    let with = rw c.deref-in-loop-size.ensures.value at c.counts_of-with.ensures in
    let next = λ (k : ℕ). complete-next c.requires.graph level (lists sizes) k at
    (λ p t le lt. c.loop-size.invariant.same p t (omega (arith, le, c.loop-size-test.true)) ∙ c.requires.next.each p t lt) in record {
      long = length-set sizes at counts ∙ c.loop-size.invariant.long;
      same = λ k s lt. count-other sizes counts k at s (omega (arith, lt)) ∙ c.loop-size.invariant.same k s (omega (arith, lt));
      each = λ k s le lt. elim (cases_eq s at) [
        | inl same ↦
            count-here sizes counts k at s same within ∙ c.in_ok-sizes.ensures k (omega (arith, lt, level-rows c.requires.graph level))
            ∙ (λ t. without (link_at links k 0) t + with (link_at links k 1) t) ∙ next k
            ∙ ap (count_sets (length (lists c.args.levels.now) - c.args.level) (accepts (drop c.args.level (lists c.args.levels.now)) k)) (sym same)
        | inr other ↦ count-other sizes counts k at s other ∙ c.loop-size.invariant.each k s (omega (arith, le, other)) lt
      ];
    }
