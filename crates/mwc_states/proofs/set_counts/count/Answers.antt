use Rattle.mwc_states.proofs.Imports.{◌≡◌, ◌∙◌, ◌-◌, accepts, ap, arith, count_at, count_sets, length, lists}
use Rattle.mwc_states.proofs.Worth.{lead-root}
use Rattle.mwc_states.proofs.set_counts.count.Goals as goal

pub count_from-requires-clause-choices : goal.count_from-requires-clause-choices
count_from-requires-clause-choices c = lead-root (lists c.args.levels.now) c.requires.root

pub returns-clause-all : goal.returns-clause-all
returns-clause-all c = record {
  long = grind arith;
  each = λ s le.
      let all : length (lists c.args.levels.now) - 0 ≡ length (lists c.args.levels.now) = omega arith in
      c.sizes_of_root.ensures s (omega arith) ∙ ap (λ sizes. count_at (lists sizes) 0 s) c.deref.ensures.value
      ∙ c.in_ok-count_from.ensures.completing.each 0 s (omega (arith, c.requires.root)) ∙ (λ t. count_sets (all t) (accepts (lists c.args.levels.now) 0) s);
}

pub returns-clause-each : goal.returns-clause-each
returns-clause-each c = λ i lt. c.in_ok-count_from.ensures.each i (omega arith) lt
