-- The symbols of a text, from its front.
use Rattle.std.proofs.lemmas.{Int.Digits.digits_value_more, List.FromFn.map-range_with_len_more, List.FromFn.length-map-range_with_len}
use Rattle.std.proofs.lemmas.{Bool.false≢true, Bool.Decides.nat_tests, Grind.common_steps, List.length-map, List.map_push}
use Rattle.std.proofs.Common.{take_all, take-append-drop, String, Global, string_bytes, map, decimal, ◌≡◌, ℕ, ◌+◌, ◌-◌, ◌*◌, ◌^◌, ◌<◌, ◌≤◌}
use Rattle.std.proofs.Common.{zero, suc, List, [], ◌∷◌, ◌++◌, length, take, drop, get_or, Bool, true, false, refl, sym, ap, ◌∙◌, arith}
use Rattle.std.specs.{Char.is_ascii_digit, Char.digit_value, List.range_with_len, Str.Parse.AllDigits, Str.Parse.digits_value}
use Rattle.std.proofs.lemmas.Str.Parse.{digit_at, digits_value_short, digits_value-take-le, numerals_by_value, tells_digits}
use Rattle.council_file.specs.Bracket.{number, mark, symbols, is_blank, begins_with_digit, with_digit}
use Rattle.council_file.specs.Inner.Scan.{begins_with_blank}

digit_test : (c : ℕ) → digit_value c < 10 → is_ascii_digit c ≡ true
digit_test c h = grind (arith, nat_tests)

blank_no_digit : (b : ℕ) → is_blank b ≡ true → is_ascii_digit b ≡ false
blank_no_digit b h = grind (arith, nat_tests)

symbols-blank : (b : ℕ) (bs : List ℕ) → is_blank b ≡ true → symbols (b ∷ bs) ≡ symbols bs
unfolding symbols
symbols-blank b bs blank = rw (blank_no_digit b blank, blank) refl

symbols-mark : (b : ℕ) (bs : List ℕ) → is_ascii_digit b ≡ false → is_blank b ≡ false → symbols (b ∷ bs) ≡ mark b ∷ symbols bs
unfolding symbols
symbols-mark b bs other full = rw (other, full) refl

symbols-digit : (d : ℕ) (bs : List ℕ) → is_ascii_digit d ≡ true → symbols (d ∷ bs) ≡ with_digit d (begins_with_digit bs) (symbols bs)
unfolding symbols
symbols-digit d bs h = rw h refl

-- digits, and no digit after them, are one number
pub symbols-number : (d : ℕ) (ds rest : List ℕ) → AllDigits 10 (d ∷ ds) → begins_with_digit rest ≡ false
    → symbols ((d ∷ ds) ++ rest) ≡ number (d ∷ ds) ∷ symbols rest
symbols-number d [] rest whole stop = symbols-digit d rest (digit_test d whole.0) ∙ ap (λ (j : Bool). with_digit d j (symbols rest)) stop
symbols-number d (e ∷ ds) rest whole stop = grind (arith, symbols-number e ds rest whole.1 stop, symbols-digit, digit_test)

number_in_front : (b : ℕ) (bs : List ℕ) (n : ℕ) → is_ascii_digit b ≡ true → AllDigits 10 (take n (b ∷ bs))
    → begins_with_digit (drop n (b ∷ bs)) ≡ false → symbols (b ∷ bs) ≡ number (take n (b ∷ bs)) ∷ symbols (drop n (b ∷ bs))
number_in_front b bs zero digit whole stop = absurd (false≢true (sym stop ∙ digit))
number_in_front b bs (suc n) digit whole stop = ap (λ (t : List ℕ). symbols (b ∷ t)) (sym (take-append-drop n bs))
    ∙ symbols-number b (take n bs) (drop n bs) whole stop

pub digits_more : (ds : List ℕ) (i : ℕ) → AllDigits 10 ds → i < length ds
    → digits_value 10 (take (i + 1) ds) ≡ digits_value 10 (take i ds) * 10 + (get_or ds i 0 - 48)
digits_more ds i whole below = grind (arith, nat_tests, digits_value_more, digit_at)

pub digits_fit : (ds : List ℕ) (i : ℕ) → AllDigits 10 ds → length ds ≤ 18 → i < length ds
    → digits_value 10 (take i ds) * 10 + (get_or ds i 0 - 48) < 10 ^ 18
digits_fit ds i whole short below =
    let small = digits_value_short (numerals_by_value (AllDigits 10) tells_digits) ds 18 whole short in
    grind (arith, common_steps, nat_tests, digits_value-take-le, digits_more)

-- one name more
pub names_more : (names : List (String Global)) (name : String Global) (k : ℕ) → map string_bytes names ≡ map decimal (range_with_len 1 k)
    → string_bytes name ≡ decimal (k + 1) → map string_bytes (names ++ name ∷ []) ≡ map decimal (range_with_len 1 (k + 1))
names_more names name k before this =
    rw (map_push string_bytes names name, map-range_with_len_more decimal 1 k (k + 1) (omega arith), before, this) refl

rest_of : (b : ℕ) (bs : List ℕ) → take (length (b ∷ bs) - 1) (drop 1 (b ∷ bs)) ≡ bs
rest_of b bs = take_all (length (b ∷ bs) - 1) bs (omega arith)

pub symbols_end : (bs : List ℕ) → length bs < 1 → symbols bs ≡ []
unfolding symbols
symbols_end [] h = refl
symbols_end (b ∷ bs) h = absurd (omega arith)

pub symbols_behind_blank : (bs : List ℕ) → 1 ≤ length bs → is_blank (get_or bs 0 0) ≡ true
    → symbols bs ≡ symbols (take (length bs - 1) (drop 1 bs))
symbols_behind_blank [] some blank = absurd (omega arith)
symbols_behind_blank (b ∷ bs) some blank = symbols-blank b bs blank ∙ ap symbols (sym (rest_of b bs))

pub symbols_behind_mark : (bs : List ℕ) → 1 ≤ length bs → is_ascii_digit (get_or bs 0 0) ≡ false → begins_with_blank bs ≡ false
    → symbols bs ≡ mark (get_or bs 0 0) ∷ symbols (take (length bs - 1) (drop 1 bs))
symbols_behind_mark [] some other full = absurd (omega arith)
symbols_behind_mark (b ∷ bs) some other full = symbols-mark b bs other full ∙ ap (λ (t : List ℕ). mark b ∷ symbols t) (sym (rest_of b bs))

pub symbols_behind_number : (bs : List ℕ) (n : ℕ) → 1 ≤ length bs → is_ascii_digit (get_or bs 0 0) ≡ true → AllDigits 10 (take n bs)
    → begins_with_digit (drop n bs) ≡ false → symbols bs ≡ number (take n bs) ∷ symbols (drop n bs)
symbols_behind_number [] n some digit whole stop = absurd (omega arith)
symbols_behind_number (b ∷ bs) n some digit whole stop = number_in_front b bs n digit whole stop

pub names_count : (names : List (String Global)) (n : ℕ) → map string_bytes names ≡ map decimal (range_with_len 1 n) → n ≡ length names
names_count names n same = grind (arith, length-map-range_with_len, length-map)

-- what the scanner rests on
pub ruleset first_symbols = (symbols_end, symbols_behind_number, symbols_behind_mark)

pub ruleset values = (digits_fit, digit_at, digits_more)
