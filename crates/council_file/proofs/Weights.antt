-- The weights of a bracket text, from its front.
use Rattle.std.proofs.Common.{◌≡◌, ℕ, List, [], ◌∷◌, ◌++◌, Option, Some, None, option_map, option_and_then, ◌≢◌, refl, sym, ap, ◌∙◌}
use Rattle.std.proofs.Common.{append_assoc, arith}
use Rattle.council_game.specs.Votes.{RuleView}
use Rattle.council_file.specs.declared.scanner.Token.{Token, TheVariants.Closing, TheVariants.Comma}
use Rattle.council_file.specs.Bracket.{Symbol, number, opening, closing, comma, semicolon, value_of, weights_of, rule_of}
use Rattle.council_file.specs.Inner.Scan.{symbol, first_number, after_opening, after_semicolon}

-- a weight, and the weights after it
abbrev pub behind : ℕ → List Symbol → Option (List ℕ)
behind n (closing ∷ []) = Some (n ∷ [])
behind n (comma ∷ ps) = option_map (λ ws. n ∷ ws) (weights_of ps)
behind n ps = None

abbrev from_number : Option (ℕ × List Symbol) → Option (List ℕ)
from_number None = None
from_number (Some f) = behind f.0 f.1

last_weight : (o : Option ℕ) → option_map (λ w. w ∷ []) o ≡ from_number (option_map (λ n. (n, closing ∷ [])) o)
last_weight None = refl
last_weight (Some n) = refl

one_weight : (o : Option ℕ) (ps : List Symbol)
    → option_and_then (λ w. option_map (λ ws. w ∷ ws) (weights_of ps)) o ≡ from_number (option_map (λ n. (n, comma ∷ ps)) o)
one_weight None ps = refl
one_weight (Some n) ps = refl

no_weight : (o : Option ℕ) (ps : List Symbol) → ((n : ℕ) → behind n ps ≡ None) → None ≡ from_number (option_map (λ n. (n, ps)) o)
no_weight None ps h = refl
no_weight (Some n) ps h = sym (h n)

by_number : (ps : List Symbol) → weights_of ps ≡ from_number (first_number ps)
unfolding weights_of
by_number (number ds ∷ closing ∷ []) = last_weight (value_of ds)
by_number (number ds ∷ comma ∷ ps) = one_weight (value_of ds) ps
by_number (number ds ∷ ps) = no_weight (value_of ds) ps (λ n. refl)
by_number ps = refl

joined_front : (front : List ℕ) (n : ℕ) (o : Option (List ℕ))
    → option_map (λ ws. front ++ ws) (option_map (λ ws. n ∷ ws) o) ≡ option_map (λ ws. (front ++ n ∷ []) ++ ws) o
joined_front front n None = refl
joined_front front n (Some ws) = ap (λ (vs : List ℕ). Some vs) (sym (append_assoc front (n ∷ []) ws))

-- front comes before the weights of the symbols that are left
abbrev pub Reads : List Symbol → List ℕ → List Symbol → Type 0
Reads text front left = weights_of text ≡ option_map (λ ws. front ++ ws) (weights_of left)

one_more : (text left ps : List Symbol) (front : List ℕ) (n : ℕ) → Reads text front left → first_number left ≡ Some (n, comma ∷ ps)
    → Reads text (front ++ n ∷ []) ps
one_more text left ps front n before now = grind (arith, by_number, joined_front)

pub no_number : (text left : List Symbol) (front : List ℕ) → Reads text front left → None ≡ first_number left → None ≡ weights_of text
no_number text left front before now = sym (before ∙ ap (option_map (λ ws. front ++ ws)) (by_number left ∙ ap from_number (sym now)))

no_more : (text left ps : List Symbol) (front : List ℕ) (n : ℕ) → Reads text front left → first_number left ≡ Some (n, ps)
    → behind n ps ≡ None → None ≡ weights_of text
no_more text left ps front n before now none = grind (arith, by_number)

-- any token but a comma and a closing bracket ends the reading
stray : (t : Token) (n : ℕ) (ps : List Symbol) → (t ≢ Comma) → (t ≢ Closing) → behind n (symbol t ∷ ps) ≡ None
stray Closing n ps no_comma no_closing = absurd (no_closing refl)
stray Comma n ps no_comma no_closing = absurd (no_comma refl)
stray t n ps no_comma no_closing = refl

-- what the token after a weight makes of the text
pub after_comma : (text left rest ps : List Symbol) (front : List ℕ) (n : ℕ) (t : Token) → Reads text front left
    → Some (n, rest) ≡ first_number left → rest ≡ symbol t ∷ ps → t ≡ Comma → Reads text (front ++ n ∷ []) ps
after_comma text left rest ps front n t before now is comma_is = grind (arith, one_more)

pub after_closing : (text left rest ps : List Symbol) (front : List ℕ) (n : ℕ) (t : Token) → Reads text front left
    → Some (n, rest) ≡ first_number left → rest ≡ symbol t ∷ ps → t ≡ Closing → ps ≡ [] → Some (front ++ n ∷ []) ≡ weights_of text
after_closing text left rest ps front n t before now is closing_is end = grind (arith, by_number)

pub after_closing_more : (text left rest ps us : List Symbol) (front : List ℕ) (n : ℕ) (t u : Token) → Reads text front left
    → Some (n, rest) ≡ first_number left → rest ≡ symbol t ∷ ps → t ≡ Closing → ps ≡ symbol u ∷ us → None ≡ weights_of text
after_closing_more text left rest ps us front n t u before now is closing_is more =
    no_more text left (closing ∷ symbol u ∷ us) front n before
    (sym now ∙ ap (λ (qs : List Symbol). Some (n, qs))
    (is ∙ ap (λ (v : Token). symbol v ∷ ps) closing_is ∙ ap (λ (qs : List Symbol). closing ∷ qs) more)) refl

pub after_nothing : (text left rest : List Symbol) (front : List ℕ) (n : ℕ) → Reads text front left → Some (n, rest) ≡ first_number left
    → rest ≡ [] → None ≡ weights_of text
after_nothing text left rest front n before now end =
    no_more text left [] front n before (sym now ∙ ap (λ (qs : List Symbol). Some (n, qs)) end) refl

pub after_stray : (text left rest ps : List Symbol) (front : List ℕ) (n : ℕ) (t : Token) → Reads text front left
    → Some (n, rest) ≡ first_number left → rest ≡ symbol t ∷ ps → (t ≢ Comma) → (t ≢ Closing) → None ≡ weights_of text
after_stray text left rest ps front n t before now is no_comma no_closing =
    no_more text left (symbol t ∷ ps) front n before (sym now ∙ ap (λ (qs : List Symbol). Some (n, qs)) is)
    (stray t n ps no_comma no_closing)

-- ---- the rule

abbrev with_weights : ℕ → Option (List ℕ) → Option RuleView
with_weights q weights = option_map (λ ws. record { quota = q; weights = ws }) weights

abbrev behind_quota : ℕ × List Symbol → Option RuleView
behind_quota f = option_and_then (λ ps. with_weights f.0 (weights_of ps)) (after_semicolon f.1)

abbrev behind_opening : List Symbol → Option RuleView
behind_opening ps = option_and_then behind_quota (first_number ps)

no_semicolon : (o : Option ℕ) (ps : List Symbol) → after_semicolon ps ≡ None
    → None ≡ option_and_then behind_quota (option_map (λ n. (n, ps)) o)
no_semicolon None ps h = refl
no_semicolon (Some n) ps h = sym (ap (option_and_then (λ qs. with_weights n (weights_of qs))) h)

one_quota : (o : Option ℕ) (ps : List Symbol)
    → option_and_then (λ q. with_weights q (weights_of ps)) o ≡ option_and_then behind_quota (option_map (λ n. (n, semicolon ∷ ps)) o)
one_quota None ps = refl
one_quota (Some n) ps = refl

pub rule_by_steps : (ps : List Symbol) → rule_of ps ≡ option_and_then behind_opening (after_opening ps)
unfolding rule_of
rule_by_steps (opening ∷ number ds ∷ semicolon ∷ ps) = one_quota (value_of ds) ps
rule_by_steps (opening ∷ number ds ∷ ps) = no_semicolon (value_of ds) ps refl
rule_by_steps ps = refl

pub rule_is : (ps qs rs ts : List Symbol) (q : ℕ) (weights : Option (List ℕ)) → after_opening ps ≡ Some qs → first_number qs ≡ Some (q, rs)
    → after_semicolon rs ≡ Some ts → weights ≡ weights_of ts → option_map (λ ws. record { quota = q; weights = ws }) weights ≡ rule_of ps
rule_is ps qs rs ts q weights h k l m = grind (arith, rule_by_steps)

-- what the weights of a bracket rest on
pub ruleset commas = (after_comma, after_nothing, after_closing, after_stray, no_number)
