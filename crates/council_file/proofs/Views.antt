-- The tree of a text, and its tables and arrays as lists.
use Rattle.std.proofs.Common.{◌≡◌, ℕ, List, [], ◌∷◌, ◌++◌, ◌+◌, map, String, Global, string_bytes, nat_eq, not, refl, ap, Some, Ok, Err}
use Rattle.std.proofs.Common.{inl, inr, arith, IsUtf8, get_or, length}
use Rattle.std.proofs.lemmas.{List.get_or-map, List.length-map, List.map_push, Str.IsUtf8-from_is_utf8, Str.is_utf8-from_IsUtf8}
use Rattle.std.proofs.lemmas.{Bool.Decides.nat_tests, List.Folds.list_all-map, List.Folds.list_all_at, List.FromFn.fill_by_all}
use Rattle.std.proofs.lemmas.Bool.{cases_Bool}
use Rattle.std.specs.{Cmp.Lexicographic.pointwise, List.list_any, List.range_with_len, Map.keys_of, Str.is_utf8}
use Rattle.toml.specs.{Parse.parse_document, View.view, View.items_view, View.members_view, declared.value.Value.Value}
use Rattle.toml.specs.Data.{Data, Members, no_members, table}
use Rattle.council_file.specs.File.{elements, keys, has_other_key, tree_of}
use Rattle.council_game.specs.{Rules.rule_view, Rules.rule_views, declared.fault.GameFault.TheVariants.Text, declared.rule.Rule.Rule}
use Rattle.council_game.specs.Votes.{RuleView}
use Rattle.council_game.proofs.Shared.Lists.{list_any_map, map_one_more}

pub elements_view : (vs : List Value) → elements (items_view vs) ≡ map view vs
elements_view [] = refl
elements_view (v ∷ vs) = ap (λ (ds : List Data). view v ∷ ds) (elements_view vs)

pub keys_view : (es : List (String Global × Value)) → keys (members_view es) ≡ map string_bytes (keys_of es)
keys_view [] = refl
keys_view (e ∷ es) = ap (λ (ks : List (List ℕ)). string_bytes e.0 ∷ ks) (keys_view es)

pub other_key : (known : List (List ℕ)) (es : List (String Global × Value))
    → list_any (λ k. not (list_any (pointwise nat_eq (string_bytes k)) known)) (keys_of es) ≡ has_other_key known (members_view es)
other_key known es = rw (keys_view es, list_any_map (λ k. not (list_any (pointwise nat_eq k) known)) string_bytes (keys_of es)) refl

pub rules_more : (f : ℕ → RuleView) (rules : List Rule) (rule : Rule) (r : ℕ) → rule_views rules ≡ map f (range_with_len 0 r)
    → rule_view rule ≡ f r → rule_views (rules ++ rule ∷ []) ≡ map f (range_with_len 0 (r + 1))
rules_more f rules rule r before this = rw (map_push rule_view rules rule, map_one_more f r, before, this) refl

-- a list that is made by place, along the members
abbrev pub at_place : (Data → ℕ) → List Value → ℕ → ℕ
at_place g vs i = g (get_or (map view vs) i (table no_members))

pub along_places : (g : Data → ℕ) (vs : List Value) → map (at_place g vs) (range_with_len 0 (length vs)) ≡ map g (map view vs)
along_places g vs = grind (arith, nat_tests, fill_by_all (at_place g vs) (map g (map view vs)) (length vs) 0, get_or-map, length-map)

pub not_text : (bytes : List ℕ) → ¬ (IsUtf8 bytes) → tree_of bytes ≡ Err Text
unfolding tree_of
not_text bytes bad =
    elim (cases_Bool (is_utf8 bytes)) [
      | inl valid ↦ absurd (bad (IsUtf8-from_is_utf8 bytes valid))
      | inr broken ↦ rw broken refl
    ]

pub is_text : (bytes text : List ℕ) (t : Members) → text ≡ bytes → IsUtf8 bytes → parse_document text ≡ Some t → tree_of bytes ≡ Ok t
unfolding tree_of
is_text bytes text t same good read = grind (arith, is_utf8-from_IsUtf8)

-- what reading a tree rests on
pub ruleset texts = (not_text, is_text)

-- what a loop over all of a list rests on
pub ruleset each = (list_all-map, list_all_at)
