use Rattle.mwc_states.proofs.Imports.{sum_by_more, sum_by_more_le, ℕ, ◌*◌, ◌+◌, ap, arith, get_or, link_at, Choices}
use Rattle.mwc_states.proofs.choices.follow.Goals as goal

pub push-requires : goal.push-requires
push-requires c = record {
  fits = omega (
    arith,
    c.requires.fits,
    c.loop-some.invariant.adds (λ _ _. 1),
    sum_by_more_le (λ (some : Choices). some.count * 1) c.args.choices.now c.loop-some.some-index (record { size = 0; row = 0; count = 0 }) c.loop-some-test.true,
  );
}

pub loop-some-preserved : goal.loop-some-preserved
loop-some-preserved c =
    let i = c.loop-some.some-index in
    let some : Choices = get_or c.args.choices.now i (record { size = 0; row = 0; count = 0 }) in record {
      within = λ rows most linked small old. c.in_ok-push.ensures.within rows most (c.loop-some.invariant.within rows most linked small old) (record {
        row = omega (arith, c.link_at.ensures, linked (2 * some.row + c.args.choice));
        size = small i (record { size = 0; row = 0; count = 0 }) c.loop-some-test.true;
      });
      adds = λ value. omega (
        arith,
        c.in_ok-push.ensures.adds value,
        ap (λ (k : ℕ). some.count * value k (some.size + c.args.choice)) c.link_at.ensures,
        c.loop-some.invariant.adds value,
        sum_by_more (λ (some : Choices). some.count * value (link_at c.args.links.now.items some.row c.args.choice) (some.size + c.args.choice)) c.args.choices.now i
            (record { size = 0; row = 0; count = 0 }) c.loop-some-test.true,
      );
    }
