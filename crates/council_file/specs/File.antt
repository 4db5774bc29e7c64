-- The game that a file is, or the first fault.
use Rattle.std.specs.Prelude.{codes, ℕ, ℤ, pos, negsuc, ◌^◌, ◌-◌, Bool, false, not, ◌&&◌, ◌||◌, ◌==◌, nat_lt, nat_le, nat_eq, List, [], ◌∷◌}
use Rattle.std.specs.Prelude.{length, map, slice_get, Option, Some, None, Result, Ok, Err, is_some, is_none, unwrap_or, option_and_then}
use Rattle.std.specs.Prelude.{ok_or, if◌then◌else◌}
use Rattle.std.specs.List.{list_any, list_all, range_with_len}
use Rattle.std.specs.Option.{option_map_or}
use Rattle.std.specs.Str.{is_utf8}
use Rattle.std.specs.Cmp.Lexicographic.{pointwise}
use Rattle.council_game.specs.declared.limits.TheConstants.{MEMBERS, RULES, FILE_BYTES}
use Rattle.toml.specs.Data.{Data, Items, no_items, item, Members, no_members, member, get_member, get, as_str, as_integer, as_array}
use Rattle.toml.specs.Data.{as_table}
use Rattle.toml.specs.Parse.{parse_document}
use Rattle.council_game.specs.declared.fault.GameFault.{GameFault}
use Rattle.council_game.specs.declared.fault.GameFault.TheVariants.{TooLong, Text, UnknownKey, Title, Quota, Rules, Ways, Members as NoMembers}
use Rattle.council_game.specs.Fault.{◌>>=◌, refuse}
use Rattle.council_game.specs.Votes.{RuleView}
use Rattle.council_game.specs.Ways.{are_ways, one_way}
use Rattle.council_game.specs.Game.{GameView, is_title, made_game}
use Rattle.council_file.specs.Bracket.{is_bracket, game_of_bracket}

-- the elements of an array, and the keys of a table
abbrev pub elements : Items → List Data
elements no_items = []
elements (item d ds) = d ∷ elements ds

abbrev pub keys : Members → List (List ℕ)
keys no_members = []
keys (member k d ms) = k ∷ keys ms

-- ---- what stands in the tree

abbrev pub top_keys : List (List ℕ)
top_keys = codes "title" ∷ codes "quota" ∷ codes "quotas" ∷ codes "ways" ∷ codes "member" ∷ []

abbrev pub member_keys : List (List ℕ)
member_keys = codes "name" ∷ codes "weight" ∷ codes "weights" ∷ []

abbrev pub has_other_key : List (List ℕ) → Members → Bool
has_other_key known t = list_any (λ k. not (list_any (pointwise nat_eq k) known)) (keys t)

-- the elements of an array, and none of any other value
abbrev pub elements_of : Data → List Data
elements_of d = option_map_or elements (as_array d) []

abbrev pub elements_at : List ℕ → Members → List Data
elements_at k t = option_map_or elements_of (get_member k t) []

abbrev pub member_list : Members → List Data
member_list t = elements_at (codes "member") t

-- some member has the key
abbrev pub some_member_has : List ℕ → Members → Bool
some_member_has k t = list_any (λ d. is_some (get k d)) (member_list t)

abbrev pub has_key : List ℕ → Members → Bool
has_key k t = is_some (get_member k t)

-- ---- the checks, in their order

abbrev pub has_unknown_key : Members → Bool
has_unknown_key t = has_other_key top_keys t || list_any (λ d. option_map_or (has_other_key member_keys) (as_table d) false) (member_list t)

-- no title, or one that is a title
abbrev pub title_from : Option Data → Result (Option (List ℕ)) GameFault
title_from None = Ok None
title_from (Some d) = option_map_or (λ s. if is_title s then Ok (Some s) else Err Title) (as_str d) (Err Title)

abbrev pub title_of : Members → Result (Option (List ℕ)) GameFault
title_of t = title_from (get_member (codes "title") t)

-- 1 to 4 integers
abbrev pub are_quotas : List Data → Bool
are_quotas ds = (nat_le 1 (length ds) && nat_le (length ds) RULES) && list_all (λ d. is_some (as_integer d)) ds

abbrev pub breaks_rules : Members → Bool
breaks_rules t = (has_key (codes "quota") t && has_key (codes "quotas") t)
    || (has_key (codes "quotas") t && not (are_quotas (elements_at (codes "quotas") t)))
    || (has_key (codes "quota") t && some_member_has (codes "weights") t)
    || (has_key (codes "quotas") t && some_member_has (codes "weight") t)

abbrev pub lacks_quota : Members → Bool
lacks_quota t = option_map_or (λ d. is_none (as_integer d)) (get_member (codes "quota") t) (not (has_key (codes "quotas") t))

-- 1 to 40 tables
abbrev pub are_members : List Data → Bool
are_members ds = (nat_le 1 (length ds) && nat_le (length ds) MEMBERS) && list_all (λ d. is_some (as_table d)) ds

-- ---- the values

-- the name of a member. One that is missing or no string is empty, and no name is empty.
unfoldable pub name_from : Data → List ℕ
name_from d = unwrap_or (option_and_then as_str (get (codes "name") d)) []

-- an integer of at least 0, or the number
abbrev pub whole_or : ℕ → ℤ → ℕ
whole_or other (pos n) = n
whole_or other (negsuc n) = other

-- An integer of at least 0, or the number, which is out of range: a quota of 0, or a weight above
-- the limit.
abbrev pub number_or : ℕ → Option Data → ℕ
number_or other d = option_map_or (whole_or other) (option_and_then as_integer d) other

-- the weight of a member in a game of one rule
unfoldable pub only_weight : Data → ℕ
only_weight d = number_or (2 ^ 64 - 1) (get (codes "weight") d)

-- the weight of a member under rule r of n
unfoldable pub weight_under : ℕ → ℕ → Data → ℕ
weight_under n r d = let ws = option_map_or elements_of (get (codes "weights") d) [] in
    if length ws == n then number_or (2 ^ 64 - 1) (slice_get ws r) else 2 ^ 64 - 1

unfoldable pub only_rule : Members → RuleView
only_rule t = record { quota = number_or 0 (get_member (codes "quota") t); weights = map only_weight (member_list t) }

-- rule r of n
unfoldable pub rule_from : Members → ℕ → ℕ → RuleView
rule_from t n r = record { quota = number_or 0 (slice_get (elements_at (codes "quotas") t) r); weights = map (weight_under n r) (member_list t) }

abbrev pub rules_of : Members → List RuleView
rules_of t = if has_key (codes "quota") t then only_rule t ∷ [] else (let n = length (elements_at (codes "quotas") t) in map (rule_from t n) (range_with_len 0 n))

-- ---- the ways

-- a rule, which counts from 1 in the file; what is no number of a rule is that of none
unfoldable pub rule_number : Data → ℕ
rule_number d = let n = number_or 0 (Some d) in if n == 0 then RULES else n - 1

unfoldable pub way_from : Data → List ℕ
way_from d = map rule_number (elements_of d)

abbrev pub named_ways : Members → List (List ℕ)
named_ways t = map way_from (elements_at (codes "ways") t)

-- the file names ways, and these are none by its quotas
abbrev pub breaks_ways : Members → Bool
breaks_ways t = has_key (codes "ways") t && not (has_key (codes "quotas") t && are_ways (length (elements_at (codes "quotas") t)) (named_ways t))

-- the ways that the file names, or else the one of all rules
abbrev pub ways_of : Members → Result (List (List ℕ)) GameFault
ways_of t = do
  _ ← refuse (breaks_ways t) Ways
  Ok (if has_key (codes "ways") t then named_ways t else one_way (length (rules_of t)))

-- ---- the whole

unfoldable pub tree_of : List ℕ → Result Members GameFault
tree_of bytes = do
  _ ← refuse (not (is_utf8 bytes)) Text
  ok_or (parse_document bytes) Text

unfoldable pub game_of_tree : Members → Result GameView GameFault
game_of_tree t = do
  _ ← refuse (has_unknown_key t) UnknownKey
  title ← title_of t
  _ ← refuse (breaks_rules t) Rules
  _ ← refuse (lacks_quota t) Quota
  ways ← ways_of t
  _ ← refuse (not (are_members (member_list t))) NoMembers
  made_game title (map name_from (member_list t)) (rules_of t) ways

-- a bracket text, or else a TOML document
unfoldable pub game_of : List ℕ → Result GameView GameFault
game_of bytes = do
  _ ← refuse (nat_lt FILE_BYTES (length bytes)) TooLong
  if is_bracket bytes then game_of_bracket bytes else (tree_of bytes >>= game_of_tree)
