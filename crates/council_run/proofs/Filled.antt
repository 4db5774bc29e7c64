-- A list of what passes a test, filled from above.
use Rattle.std.proofs.Common.{◌≡◌, ℕ, ◌-◌, ◌<◌, ◌≤◌, Bool, true, false, List, [], ◌∷◌, ◌++◌, append-nil, append_assoc, arith, filter}
use Rattle.std.proofs.lemmas.Bool.{Decides.nat_tests, cond-false, cond-true}
unfoldable pub use Rattle.council_game.specs.Votes.{down}

pub more : (p : ℕ → Bool) (xs ys all : List ℕ) (m c : ℕ) → 0 < m → c ≡ m - 1 → p c ≡ true → ys ≡ xs ++ c ∷ []
    → xs ++ filter p (down m) ≡ all → ys ++ filter p (down (m - 1)) ≡ all
unfolding down
more p xs ys all m c pos is passes pushed h = grind (arith, nat_tests, cond-true, append_assoc)

pub less : (p : ℕ → Bool) (xs all : List ℕ) (m c : ℕ) → 0 < m → c ≡ m - 1 → p c ≡ false → xs ++ filter p (down m) ≡ all
    → xs ++ filter p (down (m - 1)) ≡ all
unfolding down
less p xs all m c pos is fails h = grind (arith, nat_tests, cond-false)

pub filled : (p : ℕ → Bool) (xs all : List ℕ) (m : ℕ) → m ≤ 0 → xs ++ filter p (down m) ≡ all → xs ≡ all
unfolding down
filled p xs all m le h = grind (arith, nat_tests, append-nil)
