-- Names and rules, one more at a time.
use Rattle.std.proofs.Common.{◌≡◌, ◌∙◌, ◌<◌, ◌≤◌, ◌+◌, ◌-◌, ◌^◌, ℕ, zero, suc, List, [], ◌∷◌, ◌++◌, length, map, filter, take, nat_lt, get_or, decimal, String, Global, string_bytes, refl, ap, sym, arith, true, false}
use Rattle.std.proofs.lemmas.{List.FromFn.map-range_with_len_more, List.FromFn.length-map-range_with_len, List.map_push, List.Elements.filter_more}
use Rattle.std.proofs.lemmas.{Bool.Decides.nat_tests, Grind.common_steps}
use Rattle.std.specs.List.{list_any, range_with_len}
use Rattle.std.proofs.Common.{Bool, Option, None, Result, Ok, Err, if◌then◌else◌}
use Rattle.council_game.proofs.Shared.Sums.{get_or-zeros}
use Rattle.council_file.specs.Bracket.{counted_names}
use Rattle.council_game.specs.{Fault.◌>>=◌, Fault.refuse, Fault.refuse_at, Game.GameView, Game.first_weights, Ranks.rank_places, Votes.RuleView}
unfoldable pub use Rattle.council_game.specs.Game.{made_game}
use Rattle.council_game.specs.Ways.{are_ways}
use Rattle.council_game.specs.declared.fault.GameFault.{GameFault}
use Rattle.council_game.specs.declared.fault.GameFault.TheVariants.{Title, Ways, Members, Name, SameName, Weight, QuotaRange, Rules}
use Rattle.council_game.specs.{Rules.rule_view, Rules.rule_views, Rules.way_view, Rules.way_views}
use Rattle.council_game.specs.declared.rule.Rule.{Rule}
use Rattle.council_game.specs.declared.way.Way.{Way}
use Rattle.council_c.specs.Arrays.{game_of_arrays, masks_or_all, rule_of, rules_of, rules_of_mask}

-- one name more
pub names_more : (names : List (String Global)) (name : String Global) (k : ℕ) → map string_bytes names ≡ map decimal (range_with_len 1 k)
    → string_bytes name ≡ decimal (k + 1) → map string_bytes (names ++ name ∷ []) ≡ map decimal (range_with_len 1 (k + 1))
names_more names name k before this =
    rw (map_push string_bytes names name, map-range_with_len_more decimal 1 k (k + 1) (omega arith), before, this) refl

-- one rule more
pub rules_more : (rules : List Rule) (rule : Rule) (q w : List ℕ) (n k : ℕ) → rule_views rules ≡ map (rule_of q w n) (range_with_len 0 k)
    → rule_view rule ≡ rule_of q w n k → rule_views (rules ++ rule ∷ []) ≡ map (rule_of q w n) (range_with_len 0 (k + 1))
rules_more rules rule q w n k before this =
    rw (map_push rule_view rules rule, map-range_with_len_more (rule_of q w n) 0 k k (omega arith), before, this) refl

-- one mask more
pub ways_more : (ways : List Way) (way : Way) (masks : List ℕ) (mask k : ℕ) → k < length masks → mask ≡ get_or masks k mask → nat_lt 0 mask ≡ true
    → way_views ways ≡ map rules_of_mask (filter (nat_lt 0) (take k masks)) → way_view way ≡ rules_of_mask mask
    → way_views (ways ++ way ∷ []) ≡ map rules_of_mask (filter (nat_lt 0) (take (k + 1) masks))
ways_more ways way masks mask k lt at some before this =
    rw (map_push way_view ways way, before, this, filter_more (nat_lt 0) masks k mask lt, sym at, some, map_push rules_of_mask (filter (nat_lt 0) (take k masks)) mask) refl

-- no mask has a rule, so there is one with all
pub all-rules : (n m : ℕ) (ms : List ℕ) → list_any (nat_lt 0) ms ≡ false → m ≡ 2 ^ n - 1 → 0 < m → filter (nat_lt 0) (m ∷ []) ≡ masks_or_all n ms
all-rules n m ms none is some = grind (arith, nat_tests, common_steps)

-- the ways of the arrays
abbrev ways_in : List ℕ → List ℕ → List (List ℕ)
ways_in q ms = map rules_of_mask (masks_or_all (length q) ms)

module _ (q w : List ℕ) (n : ℕ) (ms : List ℕ) (some : 1 ≤ length q) (few : length q ≤ 4) where
  ways : (b : Bool) → are_ways (length q) (ways_in q ms) ≡ b → are_ways (length (rules_of q w n)) (ways_in q ms) ≡ b
  ways b h = ap (λ (k : ℕ). are_ways k (ways_in q ms)) (length-map-range_with_len (rule_of q w n) 0 (length q)) ∙ h

  -- if the ways are wrong, they are the first fault
  pub wrong-ways : are_ways (length q) (ways_in q ms) ≡ false → game_of_arrays q w n ms ≡ Err Ways
  unfolding game_of_arrays made_game
  wrong-ways wrong = grind (arith, nat_tests, common_steps, ways false wrong)

  -- else a wrong number of members is
  pub no-member : are_ways (length q) (ways_in q ms) ≡ true → n < 1 → game_of_arrays q w n ms ≡ Err Members
  unfolding game_of_arrays made_game
  no-member right none = grind (arith, nat_tests, common_steps, length-map-range_with_len, ways true right)

  pub many-members : are_ways (length q) (ways_in q ms) ≡ true → 40 < n → game_of_arrays q w n ms ≡ Err Members
  unfolding game_of_arrays made_game
  many-members right many = grind (arith, nat_tests, common_steps, length-map-range_with_len, ways true right)

-- a game that is made has its names
checks-made : (title ways count : Bool) (name repeat weight : Option ℕ) (quota : Bool) (made g : GameView)
    → (refuse title Title >>= (λ _. refuse ways Ways >>= (λ _. refuse count Members >>= (λ _. refuse_at Name name >>=
    (λ _. refuse_at SameName repeat >>= (λ _. refuse_at Weight weight >>= (λ _. refuse quota QuotaRange >>= (λ _. Ok made)))))))) ≡ Ok g
    → g ≡ made
checks-made false false false None None None false made g h = cc
checks-made title ways count name repeat weight quota made g h = absurd (cc)

made-is : (title : Option (List ℕ)) (names : List (List ℕ)) (rules : List RuleView) (ways : List (List ℕ)) (g : GameView) → made_game title names rules ways ≡ Ok g
    → g ≡ record { title = title; names = names; rules = rules; ways = ways; ranks = rank_places (first_weights rules) }
unfolding made_game
made-is title names rules ways g h = checks-made _ _ _ _ _ _ _ _ g h

if-made : (b : Bool) (x : Result GameView GameFault) (g : GameView) → (if b then x else Err Rules) ≡ Ok g → x ≡ Ok g
if-made true x g h = h
if-made false x g h = absurd (cc)

-- the game of arrays has as many members as they say
pub members-of-arrays : (q w : List ℕ) (n : ℕ) (ms : List ℕ) (g : GameView) → game_of_arrays q w n ms ≡ Ok g → length g.names ≡ n
unfolding game_of_arrays
members-of-arrays q w n ms g h =
    ap (λ (v : GameView). length v.names) (made-is None (counted_names n) (rules_of q w n) (map rules_of_mask (masks_or_all (length q) ms)) g (if-made _ _ g h))
    ∙ length-map-range_with_len decimal 1 n

-- what a table that is filled rests on
pub ruleset zeros = (get_or-zeros)
