-- The notation of a rule is read as the game of this rule.
use Rattle.std.proofs.Common.{◌≡◌, ℕ, ◌+◌, ◌*◌, ◌^◌, ◌<◌, ◌≤◌, suc, List, [], ◌∷◌, ◌++◌, length, get_or, codes, decimal, true, false, ◌||◌}
use Rattle.std.proofs.Common.{nat_lt, Option, Some, None, option_map, ok_or, Ok, refl, ap, ◌∙◌, arith, append_assoc, length-append}
use Rattle.std.proofs.Common.{position, le-leb, le-ltb, ltb-false}
use Rattle.std.specs.{List.AllByRecursion, List.range_with_len, Str.Parse.AllDigits}
use Rattle.std.proofs.lemmas.{Fmt.decimal_is_IsNumeral, Fmt.length-decimal-le, Grind.common_steps, List.FromFn.length-map-range_with_len}
use Rattle.std.proofs.lemmas.Bool.{or_parts, Decides.nat_tests}
use Rattle.council_game.specs.{Fault.◌>>=◌, Votes.RuleView, Votes.rule_at, declared.fault.GameFault.TheVariants.Bracket}
use Rattle.council_game.specs.Game.{GameView, IsGame, made_game, is_heavy, has_bad_quota}
use Rattle.council_game.proofs.Shared.Games.{passed, none-any, light-weights, light-sum, position_nowhere, nowhere_below}
use Rattle.council_file.specs.Bracket.{Symbol, number, opening, closing, comma, semicolon, symbols, value_of, weights_of, rule_of}
use Rattle.council_file.specs.Bracket.{is_bracket, begins_bracket, begins_with_digit, game_of_bracket, nameless_game}
use Rattle.council_file.specs.{File.game_of, Laws.lone_game, Laws.NotationReadsBack}
use Rattle.council_game.specs.{Joined.joined_numbers, Notation.notation}
use Rattle.council_file.proofs.{Digits.symbols-number, Named.repeats_pass, Named.name_at, Named.decimal_name}
use Rattle.council_game.proofs.Shared.Joins.{one-number, next-numbers}

-- ---- numbers

symbols-digits : (ds rest : List ℕ) → 0 < length ds → AllDigits 10 ds → begins_with_digit rest ≡ false
    → symbols (ds ++ rest) ≡ number ds ∷ symbols rest
symbols-digits [] rest some whole stop = absurd (omega arith)
symbols-digits (d ∷ ds) rest some whole stop = symbols-number d ds rest whole stop

symbols-decimal : (n : ℕ) (rest : List ℕ) → n < 10 ^ 18 → begins_with_digit rest ≡ false
    → symbols (decimal n ++ rest) ≡ number (decimal n) ∷ symbols rest
symbols-decimal n rest small stop = grind (arith, decimal_is_IsNumeral, symbols-digits)

short : (n : ℕ) → n < 10 ^ 18 → length (decimal n) ≤ 18
short n small = length-decimal-le 18 n (omega arith) small (omega arith)

value_is : (n : ℕ) → n < 10 ^ 18 → value_of (decimal n) ≡ Some n
value_is n small = rw (le-leb (length (decimal n)) 18 (short n small)) (ap (λ (m : ℕ). Some m) ((decimal_is_IsNumeral n (omega arith)).1))

-- ---- the weights

last_is : (w : ℕ) → w < 10 ^ 18 → weights_of (number (decimal w) ∷ closing ∷ []) ≡ Some (w ∷ [])
unfolding weights_of
last_is w small = ap (λ (o : Option ℕ). option_map (λ v. v ∷ []) o) (value_is w small)

next_is : (w : ℕ) (ps : List Symbol) (ws : List ℕ) → w < 10 ^ 18 → weights_of ps ≡ Some ws
    → weights_of (number (decimal w) ∷ comma ∷ ps) ≡ Some (w ∷ ws)
unfolding weights_of
next_is w ps ws small rest = rw (value_is w small, rest) refl

weights_read : (w : ℕ) (ws : List ℕ) → AllByRecursion (λ v. v < 10 ^ 18) (w ∷ ws)
    → weights_of (symbols (joined_numbers (codes ", ") (w ∷ ws) ++ codes "]")) ≡ Some (w ∷ ws)
unfolding symbols
weights_read w [] small = grind (arith, nat_tests, common_steps, one-number, symbols-decimal, last_is)
weights_read w (v ∷ ws) small = grind (arith, common_steps, weights_read v ws small.1, next-numbers, append_assoc, symbols-decimal, next_is)

joined_short : (ws : List ℕ) → AllByRecursion (λ v. v < 10 ^ 18) ws → length (joined_numbers (codes ", ") ws) ≤ 20 * length ws
joined_short [] small = omega arith
joined_short (w ∷ []) small = grind (arith, nat_tests, common_steps, one-number, short)
joined_short (w ∷ v ∷ ws) small = grind (arith, nat_tests, common_steps, joined_short (v ∷ ws) small.1, length-append, next-numbers, short)

-- ---- the text

-- a rule as each game of at most 40 members has it
record Fits (n : ℕ) (r : RuleView) : Type 0 where
  some : 0 < n
  few : n ≤ 40
  full : length r.weights ≡ n
  light : (i : ℕ) → i < n → get_or r.weights i 0 ≤ 1000000000000
  quota : has_bad_quota r ≡ false

quota_small : (n : ℕ) (r : RuleView) → Fits n r → r.quota < 10 ^ 18
quota_small n r fits = grind (arith, light-sum, ltb-false, or_parts)

all_small : (ws : List ℕ) → ((i : ℕ) → i < length ws → get_or ws i 0 ≤ 1000000000000) → AllByRecursion (λ v. v < 10 ^ 18) ws
all_small [] h = tt
all_small (w ∷ ws) h = (omega (arith, h 0 (omega arith)), all_small ws (λ i lt. h (suc i) (omega arith)))

weights_small : (n : ℕ) (r : RuleView) → Fits n r → AllByRecursion (λ v. v < 10 ^ 18) r.weights
weights_small n r fits = all_small r.weights (λ i lt. fits.light i (omega (arith, fits.full)))

tail_of : RuleView → List ℕ
tail_of r = joined_numbers (codes ", ") r.weights ++ codes "]"

text_symbols : (r : RuleView) → r.quota < 10 ^ 18
    → symbols (notation r) ≡ opening ∷ number (decimal r.quota) ∷ semicolon ∷ symbols (tail_of r)
unfolding notation tail_of symbols
text_symbols r small = grind (arith, nat_tests, common_steps, symbols-decimal)

tail_weights : (ws : List ℕ) → 0 < length ws → AllByRecursion (λ v. v < 10 ^ 18) ws
    → weights_of (symbols (joined_numbers (codes ", ") ws ++ codes "]")) ≡ Some ws
tail_weights [] some small = absurd (omega arith)
tail_weights (w ∷ ws) some small = weights_read w ws small

tail_read : (n : ℕ) (r : RuleView) → Fits n r → weights_of (symbols (tail_of r)) ≡ Some r.weights
unfolding tail_of
tail_read n r fits = tail_weights r.weights (omega (arith, fits.full, fits.some)) (weights_small n r fits)

rule_symbols : (q : ℕ) (ps : List Symbol) (ws : List ℕ) → q < 10 ^ 18 → weights_of ps ≡ Some ws
    → rule_of (opening ∷ number (decimal q) ∷ semicolon ∷ ps) ≡ Some (record { quota = q; weights = ws })
unfolding rule_of
rule_symbols q ps ws small rest = rw (value_is q small, rest) refl

rule_read : (n : ℕ) (r : RuleView) → Fits n r → rule_of (symbols (notation r)) ≡ Some r
rule_read n r fits = ap rule_of (text_symbols r (quota_small n r fits))
    ∙ rule_symbols r.quota (symbols (tail_of r)) r.weights (quota_small n r fits) (tail_read n r fits)

lengths_of_five : (a b c d e : List ℕ) → length (a ++ b ++ c ++ d ++ e) ≡ length a + (length b + (length c + (length d + length e)))
lengths_of_five a b c d e = simp length-append (omega arith)

text_short : (n : ℕ) (r : RuleView) → Fits n r → length (notation r) ≤ 65536
unfolding notation
text_short n r fits = grind (arith, nat_tests, common_steps, lengths_of_five, short, quota_small, joined_short, weights_small)

-- ---- the game

count_passes : (n m : ℕ) → m ≡ n → 0 < n → n ≤ 40 → (nat_lt m 1 || nat_lt 40 m) ≡ false
count_passes n m same some few = rw (le-ltb m 1 (omega arith), le-ltb 40 m (omega arith)) refl

weights_pass : (n m : ℕ) (r : RuleView) → m ≡ n → Fits n r → position (is_heavy (r ∷ [])) (range_with_len 0 m) ≡ None
weights_pass n m r same fits = grind (arith, nowhere_below, le-ltb)

made : (n : ℕ) (r : RuleView) → Fits n r → nameless_game r ≡ Ok (lone_game r)
unfolding made_game
made n r fits =
    grind (arith, nat_tests, length-map-range_with_len, count_passes, repeats_pass, weights_pass, position_nowhere, name_at, decimal_name)

bracket_game : (text : List ℕ) (r : RuleView) → rule_of (symbols text) ≡ Some r → game_of_bracket text ≡ nameless_game r
unfolding game_of_bracket
bracket_game text r h = ap (λ (o : Option RuleView). ok_or o Bracket >>= nameless_game) h

file_game : (text : List ℕ) → length text ≤ 65536 → is_bracket text ≡ true → game_of text ≡ game_of_bracket text
unfolding game_of
file_game text few h = rw (le-ltb 65536 (length text) few, h) refl

rule_game : (n : ℕ) (r : RuleView) → Fits n r → game_of (notation r) ≡ Ok (lone_game r)
rule_game n r fits =
    file_game (notation r) (text_short n r fits) (ap begins_bracket (text_symbols r (quota_small n r fits)))
    ∙ bracket_game (notation r) r (rule_read n r fits)
    ∙ made n r fits

-- ---- each rule of a game

fits_at : (g : GameView) (k : ℕ) → IsGame g → k < length g.rules → Fits (length g.names) (rule_at g.rules k)
fits_at g k game below =
    let p = passed g game.made in grind (arith, nat_tests, common_steps, ltb-false, light-weights, none-any)

pub reads_back : (g : GameView) → IsGame g → NotationReadsBack g
reads_back g game k below = rule_game (length g.names) (rule_at g.rules k) (fits_at g k game below)
