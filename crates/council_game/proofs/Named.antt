-- Coalitions made of members, and the members of a coalition.
use Rattle.council_game.proofs.Imports.{arith, nat_tests, ◌≡◌, ◌≢◌, ℕ, ◌+◌, ◌<◌, ◌==◌, ◌||◌, Bool, true, false, List, [], ◌∷◌, ◌++◌, length}
use Rattle.council_game.proofs.Imports.{get_or, take, map, filter, sym, ap, ◌∙◌, inl, inr, list_any, range_with_len, cases_eq, eq-eqb}
use Rattle.council_game.proofs.Imports.{ne_eqb, cond-true, cond-false, append-nil, has, member_at, GameView, IsGame}
use Rattle.std.proofs.{Math.Bool.or-false, lemmas.Bool.or_right, lemmas.List.map-append, lemmas.List.Folds.list_any_more}
use Rattle.council_game.proofs.Shared.{Lists.filter_one_more, Making.ranks-are}

-- one more member is taken in
pub taken-in : (g : GameView) (ms : List ℕ) (k place a b : ℕ) → IsGame g → k < length ms → get_or ms k 0 < length g.names
    → place ≡ get_or g.ranks (get_or ms k 0) 0 → has (length g.names) place b ≡ true
    → ((p : ℕ) → p < length g.names → p ≢ place → has (length g.names) p b ≡ has (length g.names) p a)
    → ((i : ℕ) → i < length g.names → has (length g.names) (get_or g.ranks i 0) a ≡ list_any (λ j. j == i) (take k ms))
    → (i : ℕ) → i < length g.names → has (length g.names) (get_or g.ranks i 0) b ≡ list_any (λ j. j == i) (take (k + 1) ms)
taken-in g ms k place a b game lt member at inside kept before i below =
    let are = ranks-are g game in
    let more = list_any_more (λ j. j == i) ms k 0 lt in
    elim (cases_eq (get_or ms k 0) i) [
      | inl same ↦
          ap (λ (p : ℕ). has (length g.names) p b) (ap (λ (m : ℕ). get_or g.ranks m 0) (sym same) ∙ sym at)
          ∙ inside ∙ sym (more ∙ or_right _ _ (eq-eqb _ _ same))
      | inr apart ↦
          let other : get_or g.ranks i 0 ≢ place = λ e.
          apart (sym (are.member_back _ member) ∙ ap (member_at g.ranks) (sym at ∙ sym e) ∙ are.member_back i below) in
          kept (get_or g.ranks i 0) (are.place_below i below) other ∙ before i below
          ∙ sym (more ∙ ap (λ (t : Bool). list_any (λ j. j == i) (take k ms) || t) (ne_eqb _ _ apart) ∙ or-false _)
    ]

-- a place that is in, and one that is not
pub place-in : (ranks xs ys : List ℕ) (n c p m : ℕ) → has n p c ≡ true → m ≡ member_at ranks p → ys ≡ xs ++ m ∷ []
    → xs ≡ map (member_at ranks) (filter (λ q. has n q c) (range_with_len 0 p))
    → ys ≡ map (member_at ranks) (filter (λ q. has n q c) (range_with_len 0 (p + 1)))
place-in ranks xs ys n c p m in' is pushed before = grind (arith, nat_tests, filter_one_more, cond-true, map-append)

pub place-out : (ranks xs : List ℕ) (n c p : ℕ) → has n p c ≡ false
    → xs ≡ map (member_at ranks) (filter (λ q. has n q c) (range_with_len 0 p))
    → xs ≡ map (member_at ranks) (filter (λ q. has n q c) (range_with_len 0 (p + 1)))
place-out ranks xs n c p out before = grind (arith, nat_tests, filter_one_more, cond-false, append-nil)
