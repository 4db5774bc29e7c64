-- What the scanner of a bracket text gives.
use Rattle.std.specs.Prelude.{ℕ, Bool, true, false, List, [], ◌∷◌, Option, Some, None, option_map}
use Rattle.std.specs.Str.Parse.{AllDigits}
use Rattle.council_file.specs.declared.scanner.Token.{Token}
use Rattle.council_file.specs.declared.scanner.Token.TheVariants.{Number, Opening, Closing, Comma, Semicolon, Other}
use Rattle.council_file.specs.Bracket.{Symbol, number, opening, closing, comma, semicolon, other, is_blank, value_of}

abbrev pub symbol : Token → Symbol
symbol (Number digits) = number digits.now
symbol Opening = opening
symbol Closing = closing
symbol Comma = comma
symbol Semicolon = semicolon
symbol Other = other

abbrev pub begins_with_blank : List ℕ → Bool
begins_with_blank [] = false
begins_with_blank (b ∷ bs) = is_blank b

-- a number has digits
abbrev pub IsWhole : Token → Type 0
IsWhole (Number digits) = AllDigits 10 digits.now
IsWhole Opening = Unit {0}
IsWhole Closing = Unit {0}
IsWhole Comma = Unit {0}
IsWhole Semicolon = Unit {0}
IsWhole Other = Unit {0}

-- the number that stands first, and the symbols after it
abbrev pub first_number : List Symbol → Option (ℕ × List Symbol)
first_number (number ds ∷ ps) = option_map (λ n. (n, ps)) (value_of ds)
first_number ps = None

-- the symbols after a mark that is first
abbrev pub after_opening : List Symbol → Option (List Symbol)
after_opening (opening ∷ ps) = Some ps
after_opening ps = None

abbrev pub after_semicolon : List Symbol → Option (List Symbol)
after_semicolon (semicolon ∷ ps) = Some ps
after_semicolon ps = None

abbrev pub begins_with_number : List Symbol → Bool
begins_with_number (number ds ∷ ps) = true
begins_with_number ps = false
