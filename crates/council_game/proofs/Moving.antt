-- The members of a coalition, one after the other, at their places in another game.
use Rattle.council_game.proofs.Imports.{◌≡◌, ◌≢◌, ◌∙◌, ℕ, ◌+◌, ◌^◌, ◌<◌, ◌≤◌, true, false, length, get_or, sym, ap, arith}
use Rattle.council_game.proofs.Imports.{cases_eq, nat_tests, GameView, IsGame, member_at, has, has-none, inl, inr, pow_pos}
use Rattle.std.proofs.Common.{◌&&◌, ltb}
use Rattle.council_game.specs.Members.{HaveSameMembers, contains}
use Rattle.council_game.proofs.Shared.{Making.ranks-are}

-- result has the members of c at the first k places
pub record Moves (g h : GameView) (c k result : ℕ) : Type 0 where
  pub below : result < 2 ^ length g.names
  pub done : (i : ℕ) → i < length g.names → contains h i result ≡ (contains g i c && ltb (get_or g.ranks i 0) k)

pub moves-none : (g h : GameView) (c : ℕ) → Moves g h c 0 0
moves-none g h c = record {
  below = pow_pos (length g.names);
  done = λ i lt. grind (arith, nat_tests, has-none (length h.names) (get_or h.ranks i 0));
}

-- a member is taken in
pub moves-on : (g h : GameView) (c k q result next : ℕ) → IsGame g → IsGame h → length h.names ≡ length g.names → k < length g.names
    → Moves g h c k result → has (length g.names) k c ≡ true → q ≡ get_or h.ranks (member_at g.ranks k) 0
    → has (length h.names) q next ≡ true
    → ((p : ℕ) → p < length h.names → p ≢ q → has (length h.names) p next ≡ has (length h.names) p result)
    → (result < 2 ^ length h.names → next < 2 ^ length h.names) → Moves g h c (k + 1) next
moves-on g h c k q result next is_g is_h count lk is here at inside others room =
    let are_g = ranks-are g is_g in
    let are_h = ranks-are h is_h in
    record {
      below = (let same = ap (λ (n : ℕ). 2 ^ n) count in omega (arith, same, room (omega (arith, same, is.below))));
      done = λ i lt. elim (cases_eq (get_or g.ranks i 0) k) [
        | inl same ↦
            let who : member_at g.ranks k ≡ i = ap (member_at g.ranks) (sym same) ∙ are_g.member_back i lt in
            let place : get_or h.ranks i 0 ≡ q = ap (λ (m : ℕ). get_or h.ranks m 0) (sym who) ∙ sym at in
            grind (arith, nat_tests, place, inside, here, same)
        | inr other ↦
            let who : get_or h.ranks i 0 ≢ q = λ e.
            other (ap (λ (m : ℕ). get_or g.ranks m 0) (sym (are_h.member_back i (omega (arith, count, lt))) ∙ ap (member_at h.ranks) (e ∙ at)
            ∙ are_h.member_back (member_at g.ranks k) (let b = are_g.member_below k lk in omega (arith, count, b))) ∙ are_g.place_back k lk) in
            let place = are_h.place_below i (omega (arith, count, lt)) in
            grind (arith, nat_tests, others (get_or h.ranks i 0) place who, is.done i lt, other)
      ];
    }

-- a place is not in
pub moves-past : (g h : GameView) (c k result : ℕ) → Moves g h c k result → has (length g.names) k c ≡ false → Moves g h c (k + 1) result
moves-past g h c k result is out = record {
  below = is.below;
  done = λ i lt. elim (cases_eq (get_or g.ranks i 0) k) [
    | inl same ↦ grind (arith, nat_tests, is.done i lt, same, out)
    | inr other ↦ grind (arith, nat_tests, is.done i lt, other)
  ];
}

-- all are in
pub moves-all : (g h : GameView) (c k result : ℕ) → IsGame g → Moves g h c k result → length g.names ≤ k → HaveSameMembers g h c result
moves-all g h c k result is_g is all i lt = let below = (ranks-are g is_g).place_below i lt in grind (arith, nat_tests, is.done i lt, below)
