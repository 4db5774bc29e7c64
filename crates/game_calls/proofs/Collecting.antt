-- Members are taken in that have something in common.
use Rattle.std.proofs.Common.{◌≡◌, ◌≢◌, ◌∙◌, ℕ, ◌+◌, ◌<◌, ◌≤◌, ◌^◌, ◌↔◌, true, false, length, get_or, sym, ap, arith, inl, inr, pow_pos, subst}
use Rattle.std.proofs.lemmas.Bool.{both_ways, cases_eq, cases_Bool}
use Rattle.council_game.proofs.Shared.Digits.{has-none}
use Rattle.council_game.specs.{Game.GameView, Game.votes_of, Members.IsSubsetOf, Members.contains, Votes.wins, Votes.has}
use Rattle.game_calls.specs.Winning.{IsVetoer}

-- coalition c has those of the first k members that P holds of
pub record Collects (g : GameView) (P : ℕ → Type 0) (k c : ℕ) : Type 0 where
  pub below : c < 2 ^ length g.names
  pub before : (i : ℕ) → i < k → (contains g i c ≡ true) ↔ P i
  pub after : (i : ℕ) → i < length g.names → k ≤ i → contains g i c ≡ false

pub collects-none : (g : GameView) (P : ℕ → Type 0) (c : ℕ) → c ≡ 0 → Collects g P 0 c
collects-none g P c none = record {
  below = (let pos = pow_pos (length g.names) in omega (arith, pos, none));
  before = λ i lt. absurd (omega arith);
  after = λ i lt from. ap (has (length g.names) (get_or g.ranks i 0)) none ∙ has-none _ _;
}

pub collects-more : (g : GameView) (P : ℕ → Type 0) (k a b : ℕ) → k < length g.names → Collects g P k a → P k → contains g k b ≡ true
    → ((i : ℕ) → i < length g.names → i ≢ k → contains g i b ≡ contains g i a)
    → (a < 2 ^ length g.names → b < 2 ^ length g.names) → Collects g P (k + 1) b
collects-more g P k a b lt is holds inside others room = record {
  below = room is.below;
  before = λ i below. elim (cases_eq i k) [
    | inl e ↦ (λ _. subst P (sym e) holds, λ _. ap (λ (m : ℕ). contains g m b) e ∙ inside)
    | inr other ↦
        let old = is.before i (omega (arith, below, other)) in
        let same = others i (omega (arith, below, lt)) other in (λ there. old.0 (sym same ∙ there), λ p. same ∙ old.1 p)
  ];
  after = λ i li from. (let other : i ≢ k = λ e. omega (arith, e, from) in others i li other ∙ is.after i li (omega (arith, from)));
}

pub collects-less : (g : GameView) (P : ℕ → Type 0) (k a : ℕ) → k < length g.names → Collects g P k a → (P k → ⊥) → Collects g P (k + 1) a
collects-less g P k a lt is fails = record {
  below = is.below;
  before = λ i below. elim (cases_eq i k) [
    | inl e ↦ (
      λ there. absurd (both_ways _ (ap (λ (m : ℕ). contains g m a) e ∙ is.after k lt (omega arith)) there),
      λ p. absurd (fails (subst P e p)),
    )
    | inr other ↦ is.before i (omega (arith, below, other))
  ];
  after = λ i li from. is.after i li (omega (arith, from));
}

-- if all others lose together, a member is a vetoer
pub needed : (g : GameView) (i all others : ℕ) → i < length g.names
    → ((a c : ℕ) → IsSubsetOf g a c → wins (votes_of g) a ≡ true → wins (votes_of g) c ≡ true)
    → ((k : ℕ) → k < length g.names → contains g k all ≡ true)
    → ((k : ℕ) → k < length g.names → k ≢ i → contains g k others ≡ contains g k all)
    → wins (votes_of g) others ≡ false → IsVetoer g i
needed g i all others li larger everyone kept lost c below won = elim (cases_Bool (contains g i c)) [
  | inl inside ↦ inside
  | inr out ↦
      absurd (both_ways _ lost (larger c others (λ k lk there.
      let other : k ≢ i = λ e. both_ways _ out (ap (λ (m : ℕ). contains g m c) (sym e) ∙ there) in kept k lk other ∙ everyone k lk) won))
]
