use Rattle.mwc_states.proofs.Imports.{◌∙◌, ◌+◌, ◌<◌, arith, inl, inr, length, lists, refl, sym, worth, cases_lt, with_later, length-map}
use Rattle.std.proofs.lemmas.List.{get_or-replicate}
use Rattle.mwc_states.proofs.Worth.{level-at, with-fits, with-sum, worth-all, worth-more, worth-none}
use Rattle.mwc_states.proofs.set_counts.count_with.Goals as goal

pub loop-more-init : goal.loop-more-init
loop-more-init c = record {
  long = refl;
  each = λ s lt. get_or-replicate 41 s 0 0 lt ∙ sym (worth-none c.index-levels-level.result.items (lists c.args.completing.now) c.args.choices.now s);
}

pub add_with-requires-clause-fits : goal.add_with-requires-clause-fits
add_with-requires-clause-fits c = λ s lt.
    let links = level-at c.args.levels.now c.args.level c.index-levels-level.result c.requires.level c.index-levels-level.is in
    let below : c.loop-more.more < length c.args.completing.now = omega (arith, c.loop-more-test.true, c.min-more-end.ensures) in
    let own = (level-at c.args.completing.now c.loop-more.more c.index-completing-more.result below c.index-completing-more.is).is in
    rw (c.deref.ensures.value ∙ own, c.loop-more.invariant.each s lt)
    (with-fits c.requires.graph links c.requires.choices c.requires.completing c.loop-more.more s)

pub loop-more-preserved : goal.loop-more-preserved
loop-more-preserved c =
    let below : c.loop-more.more < length c.args.completing.now = omega (arith, c.loop-more-test.true, c.min-more-end.ensures) in
    let own = (level-at c.args.completing.now c.loop-more.more c.index-completing-more.result below c.index-completing-more.is).is in
    let at = c.deref.ensures.value ∙ own in
    let links = c.index-levels-level.result.items in
    record {
      long = grind (arith, c.loop-more.invariant.long);
      each = λ s lt.
          c.add_with.ensures s lt
          ∙ (λ t. c.loop-more.invariant.each s lt t + worth c.args.choices.now (with_later links (at t) c.loop-more.more s))
          ∙ sym (worth-more links (lists c.args.completing.now) c.args.choices.now s c.loop-more.more);
    }

pub returns : goal.returns
returns c =
    let links = level-at c.args.levels.now c.args.level c.index-levels-level.result c.requires.level c.index-levels-level.is in
    record {
      long = c.loop-more.invariant.long;
      each = λ s le.
          c.loop-more.invariant.each s (omega (arith, le))
          ∙ worth-all c.index-levels-level.result.items (lists c.args.completing.now) c.args.choices.now s c.loop-more.more (elim (cases_lt (length c.args.completing.now) 41) [
            | inl few ↦ inl (omega (arith, length-map c.args.completing.now (λ v. v.items), few, c.loop-more-test.false, c.min-more-end.ensures))
            | inr many ↦ inr (omega (arith, le, many, c.loop-more-test.false, c.min-more-end.ensures))
          ])
          ∙ with-sum c.requires.graph links c.requires.choices c.requires.completing s;
    }
