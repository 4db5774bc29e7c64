-- The slices joined are the whole list.
use Rattle.std.proofs.lemmas.Bool.Decides.{nat_tests}
use Rattle.mwc_walk.proofs.Imports.{◌≡◌, ℕ, zero, suc, ◌+◌, ◌-◌, ◌*◌, ◌/◌, ◌^◌, ◌≤◌, Bool, eqb, sym, ap, ◌∙◌, arith, filter}
use Rattle.mwc_walk.proofs.Imports.{eq-eqb, pow-add, mul-le, Votes, minimal, down, minimal_coalitions, slice}
use Rattle.std.proofs.Common.{flat_map}
use Rattle.std.specs.List.{range_with_len}
use Rattle.mwc_walk.specs.Laws.{SlicesMakeTheWhole}
use Rattle.mwc_walk.proofs.Rest.{filter-filter_skip, filter-block, block-prefix, before-block, past-block}

-- the last slices joined, from number s on: the numbers whose first digits are below count
joined-from : (p : ℕ → Bool) (h whole s count : ℕ) → s + count ≡ whole
    → flat_map (λ j. filter (λ c. eqb (c / 2 ^ h) (whole - 1 - j)) (filter p (down (whole * 2 ^ h)))) (range_with_len s count) ≡ filter p
    (down (count * 2 ^ h))
joined-from p h whole s zero all = unfold down in (let e : 0 * 2 ^ h ≡ 0 = omega arith in sym (ap (λ (i : ℕ). filter p (down i)) e))
joined-from p h whole s (suc count) all =
    let q : ℕ → Bool = λ c. eqb (c / 2 ^ h) (whole - 1 - s) in
    let number : whole - 1 - s ≡ count = omega arith in
    let rest = joined-from p h whole (s + 1) count (omega arith) in
    let size : suc count * 2 ^ h ≡ count * 2 ^ h + 2 ^ h = omega arith in
    let le : suc count * 2 ^ h ≤ whole * 2 ^ h = mul-le (suc count) (2 ^ h) whole (2 ^ h) (omega arith) (omega arith) in
    let e : suc count * 2 ^ h + (whole * 2 ^ h - suc count * 2 ^ h) ≡ whole * 2 ^ h = omega arith in
    let skip = rw e at (filter-filter_skip q p (suc count * 2 ^ h) (whole * 2 ^ h - suc count * 2 ^ h)
    (λ c low high. rw number (past-block count h c (omega (arith, low))))) in
    let block = rw (← size) at (filter-block q p (count * 2 ^ h) (2 ^ h)
    (λ c low high. eq-eqb _ _ (block-prefix count h c low high ∙ sym number)) (λ c low. rw number (before-block count h c low))) in
    grind (arith, nat_tests, filter, down)

-- ---- the law
pub slices-joined : (v : Votes) → SlicesMakeTheWhole v
unfolding slice minimal_coalitions
slices-joined v k few le =
    let whole : 2 ^ v.members ≡ 2 ^ k * 2 ^ (v.members - k) = grind (arith, pow-add) in
    rw (← whole) at (joined-from (minimal v) (v.members - k) (2 ^ k) 0 (2 ^ k) (omega arith))
