-- No proper subset of a minimal coalition wins.
use Rattle.council_game.proofs.Imports.{arith, inl, inr, list_all, bit_at-lt, and_from, cases_Bool, not-false, eq-eqb, wins}
use Rattle.council_game.proofs.Imports.{cases_eq, false_from_ne_true, both_ways, nat_tests, Votes, IsVotes, has, without, rule_at}
use Rattle.council_game.proofs.Imports.{not, zero, suc, sym, ◌≡◌, ℕ, ◌-◌, ◌/◌, ◌%◌, ◌^◌, ◌<◌, ◌≤◌, true, refl, ap, ◌∙◌}
use Rattle.council_game.proofs.Imports.{minimal, places_of, digit-kept, has-none}
use Rattle.std.proofs.lemmas.Nat.Bits.{same_from_bits_below}
use Rattle.council_game.specs.Laws.{ProperSubsetsLose}
use Rattle.council_game.proofs.Shared.Digits.{has-kept, without-less}
use Rattle.council_game.proofs.{Monotone.weight-mono, Places.spare-place, Shared.Meanings.needs-each-member}
use Rattle.council_game.proofs.Shared.WinningByPlaces.{rule-is, wins-more}

-- if a set wins, each set wins that has all its places
pub wins-mono : (v : Votes) (a c : ℕ) → IsVotes v → ((i : ℕ) → i < v.members → a / 2 ^ i % 2 ≤ c / 2 ^ i % 2)
    → wins v a ≡ true → wins v c ≡ true
wins-mono v a c game sub won =
    wins-more v v a c refl (λ r lt met.
    let rule = rule-is v r game lt in
    let le = weight-mono (rule_at v.rules r).weights a c (λ i below. sub i (omega (arith, rule.full, below))) in
    grind (arith, nat_tests)) (omega arith) won

-- the digits of a subset are at most those of its set
pub digits-less : (n a c : ℕ) → ((p : ℕ) → p < n → has n p a ≡ true → has n p c ≡ true) → (i : ℕ) → i < n → a / 2 ^ i % 2 ≤ c / 2 ^ i % 2
unfolding has
digits-less n a c sub i below =
    let place : n - 1 - (n - 1 - i) ≡ i = omega arith in
    grind (arith, nat_tests, bit_at-lt a i, bit_at-lt c i)

-- a minimal coalition without a place loses: a subset that wins has each place of it
pub subsets-lose : (v : Votes) → IsVotes v → ProperSubsetsLose v
unfolding has without
subsets-lose v game a c la lc min sub =
    false_from_ne_true (wins v a) (λ (won : wins v a ≡ true).
    sub.1 (same_from_bits_below v.members a c la lc (λ i below.
    let less = digits-less v.members a c sub.0 in
    elim (cases_eq (a / 2 ^ i % 2) (c / 2 ^ i % 2)) [
      | inl same ↦ same
      | inr other ↦
          let here = less i below in
          let low : c / 2 ^ i % 2 < 2 = bit_at-lt c i in
          let inside : c / 2 ^ i % 2 ≡ 1 = omega (arith, here, low, other) in
          let place : v.members - 1 - (v.members - 1 - i) ≡ i = omega arith in
          let lost = rw place at (((needs-each-member v c).0 min).1 (v.members - 1 - i) (omega arith)) in
          absurd (both_ways _ (lost (eq-eqb _ _ inside)) (wins-mono v a (c - 2 ^ i) game
          (λ j lt. elim (cases_eq j i) [
            | inl same ↦ let out : a / 2 ^ j % 2 ≡ 0 = grind (arith) in omega (arith, out)
            | inr apart ↦
                let kept = digit-kept c i j inside apart in
                let l = less j lt in omega (arith, kept, l)
          ]) won))
    ])))

-- a winning coalition has a minimal subset
pub minimal-inside : (v : Votes) (fuel c : ℕ) → c < fuel → wins v c ≡ true
    → (m : ℕ) × (m ≤ c) × (minimal v m ≡ true) × ((p : ℕ) → p < v.members → has v.members p m ≡ true → has v.members p c ≡ true)
unfolding minimal
minimal-inside v zero c below won = absurd (omega arith)
minimal-inside v (suc fuel) c below won =
    elim (cases_Bool (list_all (λ p. not (wins v (without v.members p c))) (places_of v.members c))) [
      | inl needed ↦ (c, omega arith, and_from _ _ won needed, λ p lt inside. inside)
      | inr not_needed ↦
          let spare = spare-place (λ p. has v.members p c) (λ p. not (wins v (without v.members p c))) v.members not_needed in
          let inside = spare.2 in
          let some : 0 < c = grind (arith, nat_tests, has-none v.members spare.0) in
          let less : without v.members spare.0 c < c = without-less v.members spare.0 c some in
          let deeper = minimal-inside v fuel (without v.members spare.0 c) (omega arith) (not-false _ spare.3) in (
            deeper.0,
            omega (arith, deeper.1),
            deeper.2,
            λ p lt in'. (let kept = has-kept v.members p spare.0 c lt spare.1 in
                let here = deeper.3 p lt in' in
                elim (cases_eq p spare.0) [
                  | inl same ↦ ap (λ (k : ℕ). has v.members k c) same ∙ inside
                  | inr other ↦ sym (kept other inside) ∙ here
                ]),
          )
    ]
