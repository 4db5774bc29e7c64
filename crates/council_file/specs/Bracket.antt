-- The bracket text [q; w1, .., wn] of a game of one rule (Felsenthal and Machover 1998):
--
--     text    = "[" number ";" weights
--     weights = number "]" | number "," weights
--     number  = 1 to 18 decimal digits
--
-- with any blanks between two symbols, before the first and after the last.
use Rattle.std.specs.Prelude.{ℕ, Bool, true, false, ◌||◌, ◌==◌, nat_le, List, [], ◌∷◌, length, map, decimal, Option, Some, None, Result}
use Rattle.std.specs.Prelude.{option_map, option_and_then, ok_or, if◌then◌else◌}
use Rattle.std.specs.Char.{is_ascii_digit}
use Rattle.std.specs.List.{range_with_len}
use Rattle.std.specs.Str.Parse.{digits_value}
use Rattle.council_game.specs.declared.fault.GameFault.{GameFault}
use Rattle.council_game.specs.declared.fault.GameFault.TheVariants.{Bracket}
use Rattle.council_game.specs.Fault.{◌>>=◌}
use Rattle.council_game.specs.Votes.{RuleView}
use Rattle.council_game.specs.Ways.{one_way}
use Rattle.council_game.specs.Game.{GameView, made_game}

-- a symbol of the text: a number by its digits, a mark, or any other byte that is not blank
pub data Symbol : Type 0 where
  number : List ℕ → Symbol
  opening : Symbol
  closing : Symbol
  comma : Symbol
  semicolon : Symbol
  other : Symbol

-- space, TAB, LF, CR
abbrev pub is_blank : ℕ → Bool
is_blank b = b == 32 || b == 9 || b == 10 || b == 13

-- [ ] , ; or another byte
abbrev pub mark : ℕ → Symbol
mark b = if b == 91 then opening else (if b == 93 then closing else (if b == 44 then comma else (if b == 59 then semicolon else other)))

abbrev pub begins_with_digit : List ℕ → Bool
begins_with_digit [] = false
begins_with_digit (b ∷ bs) = is_ascii_digit b

-- A digit joins the number that begins directly after it, and else is a number by itself.
abbrev pub with_digit : ℕ → Bool → List Symbol → List Symbol
with_digit d true (number ds ∷ ps) = number (d ∷ ds) ∷ ps
with_digit d joins ps = number (d ∷ []) ∷ ps

-- the symbols of a text, without the blanks
unfoldable pub symbols : List ℕ → List Symbol
symbols [] = []
symbols (b ∷ bs) =
    if is_ascii_digit b then with_digit b (begins_with_digit bs) (symbols bs)
    else (if is_blank b then symbols bs else mark b ∷ symbols bs)

-- the value of 1 to 18 digits
abbrev pub value_of : List ℕ → Option ℕ
value_of digits = if nat_le (length digits) 18 then Some (digits_value 10 digits) else None

-- the weights up to the closing bracket, which is the last symbol
unfoldable pub weights_of : List Symbol → Option (List ℕ)
weights_of (number ds ∷ closing ∷ []) = option_map (λ w. w ∷ []) (value_of ds)
weights_of (number ds ∷ comma ∷ ps) = option_and_then (λ w. option_map (λ ws. w ∷ ws) (weights_of ps)) (value_of ds)
weights_of ps = None

unfoldable pub rule_of : List Symbol → Option RuleView
rule_of (opening ∷ number ds ∷ semicolon ∷ ps) = option_and_then (λ q. option_map (λ ws. record { quota = q; weights = ws }) (weights_of ps)) (value_of ds)
rule_of ps = None

-- It begins with [ and a digit, but for blanks.
abbrev pub begins_bracket : List Symbol → Bool
begins_bracket (opening ∷ number ds ∷ ps) = true
begins_bracket ps = false

abbrev pub is_bracket : List ℕ → Bool
is_bracket bytes = begins_bracket (symbols bytes)

-- the numbers 1 to n, in decimal
abbrev pub counted_names : ℕ → List (List ℕ)
counted_names n = map decimal (range_with_len 1 n)

-- the game of a rule without names: no title, and members 1 to n
abbrev pub nameless_game : RuleView → Result GameView GameFault
nameless_game r = made_game None (counted_names (length r.weights)) (r ∷ []) (one_way 1)

unfoldable pub game_of_bracket : List ℕ → Result GameView GameFault
game_of_bracket bytes = ok_or (rule_of (symbols bytes)) Bracket >>= nameless_game
