-- The lines of a report, as bytes.
use Rattle.std.specs.Prelude.{ℕ, List, [], ◌∷◌, ◌++◌, ◌+◌, ◌==◌, if◌then◌else◌, map, length, codes, decimal, slice_index, slice_index_or}
use Rattle.std.specs.List.{flat_map, join_by}
use Rattle.std.specs.Option.{option_map_or}
use Rattle.council_game.specs.Votes.{RuleView, weight, places_of, size}
use Rattle.council_game.specs.Ranks.{member_at}
use Rattle.council_game.specs.Game.{GameView, votes_of, total}
use Rattle.power_index.specs.Counting.{members}
use Rattle.power_index.specs.Fractions.{decimals}
use Rattle.council_game.specs.Joined.{joined_numbers}
use Rattle.council_game.specs.Notation.{notation}

-- a field after a TAB
abbrev pub with_tab : List ℕ → List ℕ
with_tab field = 9 ∷ field

-- a word, each field after a TAB, and LF
abbrev pub line : List ℕ → List (List ℕ) → List ℕ
line word fields = word ++ flat_map with_tab fields ++ 10 ∷ []

-- a value for each rule, in decimal, joined by `/`
abbrev pub with_slashes : List ℕ → List ℕ
with_slashes values = joined_numbers (codes "/") values

abbrev pub quotas : GameView → List ℕ
quotas g = map (λ r. r.quota) g.rules

abbrev pub totals : GameView → List ℕ
totals g = map total g.rules

-- the weights of member i, one for each rule
abbrev pub weights_of_member : GameView → ℕ → List ℕ
weights_of_member g i = map (λ r. slice_index r.weights i) g.rules

-- the weights of coalition c, one for each rule
abbrev pub weights_of_coalition : GameView → ℕ → List ℕ
weights_of_coalition g c = map (λ r. weight r.weights c) (votes_of g).rules

abbrev pub name_of : GameView → ℕ → List ℕ
name_of g i = slice_index_or g.names i []

-- the names of the members of coalition c, in rank order
abbrev pub names_of : GameView → ℕ → List (List ℕ)
names_of g c = map (λ p. name_of g (member_at g.ranks p)) (places_of (length g.names) c)

unfoldable pub title_line : GameView → List ℕ
title_line g = option_map_or (λ title. line (codes "title") (title ∷ [])) g.title []

unfoldable pub members_line : GameView → List ℕ
members_line g = line (codes "members") (decimal (length g.names) ∷ [])

unfoldable pub quota_line : GameView → List ℕ
quota_line g = line (codes "quota") (with_slashes (quotas g) ∷ [])

unfoldable pub total_line : GameView → List ℕ
total_line g = line (codes "total") (with_slashes (totals g) ∷ [])

-- the rules of a way, counted from 1
abbrev pub rules_of_way : List ℕ → List ℕ
rules_of_way way = joined_numbers (codes ",") (map (λ r. r + 1) way)

-- the ways; no line if there is one
unfoldable pub ways_line : GameView → List ℕ
ways_line g = if length g.ways == 1 then [] else line (codes "ways") (join_by rules_of_way (codes " ") g.ways ∷ [])

-- the notation of a rule
unfoldable pub notation_line : RuleView → List ℕ
notation_line r = line (codes "notation") (notation r ∷ [])

unfoldable pub minimal_line : ℕ → List ℕ
minimal_line count = line (codes "minimal") (decimal count ∷ [])

unfoldable pub coalition_line : GameView → ℕ → List ℕ
coalition_line g c = line (codes "coalition") (decimal (size (length g.names) c) ∷ with_slashes (weights_of_coalition g c) ∷ names_of g c)

-- size s, how many coalitions have it, and for each member how many of those contain it; no line
-- if none has it
unfoldable pub size_line : GameView → ℕ → ℕ → (ℕ → ℕ) → List ℕ
size_line g s count count_of_member = if count == 0 then [] else line (codes "size") (decimal s ∷ decimal count ∷ map (λ i. decimal (count_of_member i)) (members g))

-- an index, as a fraction in lowest terms, and as one digit, a point and six digits, cut off
abbrev pub index_fields : ℕ × ℕ → List (List ℕ)
index_fields p = (decimal p.0 ++ 47 ∷ decimal p.1) ∷ decimals p ∷ []

-- member i: its name, its weights, and its other fields
unfoldable pub member_line : GameView → ℕ → List (List ℕ) → List ℕ
member_line g i fields = line (codes "member") (name_of g i ∷ with_slashes (weights_of_member g i) ∷ fields)
