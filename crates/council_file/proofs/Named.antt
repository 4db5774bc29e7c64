-- The game of a rule without names passes the checks of a game.
use Rattle.std.proofs.Common.{◌≡◌, ◌≢◌, ℕ, ◌+◌, ◌<◌, ◌≤◌, List, [], ◌∷◌, length, get_or, decimal, true, false, not, ◌&&◌, ◌==◌, nat_le}
use Rattle.std.proofs.Common.{nat_eq, None, inl, inr, refl, sym, arith, position}
use Rattle.std.specs.{Char.digit_value, Cmp.Lexicographic.pointwise, Cmp.Lexicographic.same_text, List.range_with_len, Str.Parse.AllDigits}
use Rattle.std.proofs.lemmas.List.FromFn.{length-map-range_with_len, get_or-map-range_with_len, take-map-range_with_len}
use Rattle.std.proofs.lemmas.{Fmt.decimal_is_IsNumeral, Fmt.length-decimal-le, Fmt.decimal_injective, List.Folds.list_any_none}
use Rattle.std.proofs.lemmas.Bool.{cases_Bool, Decides.nat_tests}
use Rattle.council_game.specs.Game.{is_plain, is_name, is_repeat}
use Rattle.council_game.proofs.Shared.Games.{nowhere_below}
use Rattle.council_file.specs.Bracket.{counted_names}

plain_digit : (b : ℕ) → digit_value b < 10 → (nat_le 32 b && not (b == 127)) ≡ true
plain_digit b h = grind (arith, nat_tests)

plain_digits : (ds : List ℕ) → AllDigits 10 ds → is_plain ds ≡ true
plain_digits [] h = refl
plain_digits (d ∷ ds) h = rw (plain_digit d h.0, plain_digits ds h.1) refl

name_test : (ds : List ℕ) → AllDigits 10 ds → 0 < length ds → length ds ≤ 64 → is_name ds ≡ true
name_test ds whole some few = rw (plain_digits ds whole) (grind (arith, nat_tests))

pub decimal_name : (k : ℕ) → k ≤ 40 → is_name (decimal k) ≡ true
decimal_name k few =
    let numeral = decimal_is_IsNumeral k (omega arith) in
    name_test (decimal k) numeral.0.1 numeral.0.0 (omega (arith, length-decimal-le 2 k (omega arith) (omega arith) (omega arith)))

pub name_at : (n i : ℕ) (d : List ℕ) → i < n → get_or (counted_names n) i d ≡ decimal (1 + i)
name_at n i d below = get_or-map-range_with_len decimal 1 n i (1 + i) d below refl

other_name : (j k : ℕ) → j ≤ 40 → k ≤ 40 → (j ≢ k) → pointwise nat_eq (decimal j) (decimal k) ≡ false
other_name j k small few other =
    elim (cases_Bool (pointwise nat_eq (decimal j) (decimal k))) [
      | inl same ↦ absurd (other (decimal_injective j k (omega arith) (omega arith) (same_text (decimal j) (decimal k) (sym same))))
      | inr differs ↦ differs
    ]

no_repeat : (n k : ℕ) → n ≤ 40 → k < n → is_repeat (counted_names n) k ≡ false
no_repeat n k few below = grind (arith, name_at, take-map-range_with_len, list_any_none, length-map-range_with_len, other_name)

pub repeats_pass : (n m : ℕ) → n ≤ 40 → m ≡ n → position (is_repeat (counted_names n)) (range_with_len 0 m) ≡ None
repeats_pass n m few same = nowhere_below (is_repeat (counted_names n)) m (λ i lt. no_repeat n i few (omega arith))
