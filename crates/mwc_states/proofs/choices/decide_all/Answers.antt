use Rattle.mwc_states.proofs.Imports.{◌*◌, ◌+◌, ℕ, IsWithin, ap, arith, lists, rows_at, worth, Choices}
use Rattle.std.proofs.lemmas.List.Sorted.{All-permutation, sum_by-IsPermutation}
use Rattle.mwc_states.proofs.Worth.{lead-few, lead-next, level-at, level-small}
use Rattle.mwc_states.proofs.choices.decide_all.Goals as goal

pub follow-requires-clause-fits : goal.follow-requires-clause-fits
follow-requires-clause-fits c =
    let links = level-at c.args.levels.now c.args.level c.index-levels-level.result c.requires.level c.index-levels-level.is in
    omega (arith, ap (λ all. worth all (λ _ _. 1)) c.new-all.ensures.items, lead-few c.requires.graph links c.requires.choices)

pub follow-requires-2-clause-fits : goal.follow-requires-2-clause-fits
follow-requires-2-clause-fits c =
    let links = level-at c.args.levels.now c.args.level c.index-levels-level.result c.requires.level c.index-levels-level.is in omega (
      arith,
      ap (λ all. worth all (λ _ _. 1)) c.new-all.ensures.items,
      c.in_ok-follow.ensures.adds (λ _ _. 1),
      lead-few c.requires.graph links c.requires.choices,
    )

pub merge-requires : goal.merge-requires
merge-requires c =
    let links = level-at c.args.levels.now c.args.level c.index-levels-level.result c.requires.level c.index-levels-level.is in record {
      fits = omega (
        arith,
        ap (λ all. worth all (λ _ _. 1)) c.deref.ensures.value,
        sum_by-IsPermutation (λ (some : Choices). some.count * 1) _ _ c.in_ok-sort_by.ensures.permutation,
        c.in_ok-follow-2.ensures.adds (λ _ _. 1),
        c.in_ok-follow.ensures.adds (λ _ _. 1),
        ap (λ all. worth all (λ _ _. 1)) c.new-all.ensures.items,
        lead-few c.requires.graph links c.requires.choices,
      );
    }

pub returns : goal.returns
returns c =
    let links = level-at c.args.levels.now c.args.level c.index-levels-level.result c.requires.level c.index-levels-level.is in
    let rows : ℕ = rows_at (lists c.args.levels.now) (c.args.level + 1) in
    let small = level-small c.requires.graph links in record {
      within = c.in_ok-merge.ensures.within rows (c.args.level + 1) (rw c.deref.ensures.value
          (All-permutation (IsWithin rows (c.args.level + 1)) _ _ c.in_ok-sort_by.ensures.permutation
          (c.in_ok-follow-2.ensures.within rows (c.args.level + 1) small (λ k d lt. omega (arith, (c.requires.choices.within k d lt).size))
          (c.in_ok-follow.ensures.within rows (c.args.level + 1) small (λ k d lt. omega (arith, (c.requires.choices.within k d lt).size))
          (rw c.new-all.ensures.items (λ k d lt. absurd (omega arith)))))));
      sums = λ value. omega (
        arith,
        c.in_ok-merge.ensures.sums value,
        ap (λ all. worth all value) c.deref.ensures.value,
        sum_by-IsPermutation (λ (some : Choices). some.count * value some.row some.size) _ _ c.in_ok-sort_by.ensures.permutation,
        c.in_ok-follow-2.ensures.adds value,
        c.in_ok-follow.ensures.adds value,
        ap (λ all. worth all value) c.new-all.ensures.items,
        lead-next c.requires.graph links c.requires.choices value,
      );
    }
