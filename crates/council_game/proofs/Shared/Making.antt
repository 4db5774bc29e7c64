-- The tables of a game that is made.
use Rattle.council_game.proofs.Imports.{recursion_from_All, or_parts, Rule, RuleView, IsVotes, votes, ◌≡◌, ℕ}
use Rattle.council_game.proofs.Imports.{rule_along, rule_view, rule_views, GameView, IsGame, made_game, first_weights, total, votes_of}
use Rattle.council_game.proofs.Imports.{Option, Ok, AllByRecursion, length-map, member_at, rank_places, members_by_rank, rule_by_rank}
use Rattle.council_game.proofs.Imports.{◌<◌, ◌≤◌, List, [], ◌∷◌, length, get_or, map, sum, sym, ap, ◌∙◌, subst, arith, All}
use Rattle.council_game.proofs.Imports.{string_bytes, get_or_default, Way, way_views, rule_at}
use Rattle.council_game.specs.Inner.Parts.{game_of_parts}
use Rattle.std.proofs.Common.{String, Global, option_map, ltb-false}
use Rattle.std.proofs.lemmas.List.Elements.{All-map}
use Rattle.council_game.specs.Ranks.{AreOfRanking}
use Rattle.council_game.proofs.Shared.Rankings.{early, length-early, length-rank_places, of-ranking}
use Rattle.council_game.proofs.Shared.{Rankings.length-by_rank, Rankings.by_rank-at, RuleLists.held_full, WinningByPlaces.rule-is, WinningByPlaces.rule-at}
use Rattle.council_game.proofs.Shared.Games.{passed, votes-are, light-weights, light-sum}
pub use Rattle.council_game.proofs.Shared.Rankings.{RanksAre, ranks-of, ranked-falls, order-below}

pub first-length : (rules : List Rule) (n : ℕ) → 0 < length rules → All (λ r. length r.weights.items ≡ n) rules
    → length (first_weights (rule_views rules)) ≡ n
first-length [] n some full = absurd (omega arith)
first-length (r ∷ rs) n some full = full 0 r (omega arith)

-- what the first rule ranks by
pub first-ranks : (rules : List Rule) (r : Rule) (ws ks : List ℕ) → 0 < length rules → r ≡ get_or rules 0 r → ws ≡ r.weights.items
    → ks ≡ rank_places ws → ks ≡ rank_places (first_weights (rule_views rules))
first-ranks [] r ws ks some at is h = absurd (omega arith)
first-ranks (first ∷ rules) r ws ks some at is h = h ∙ ap rank_places is ∙ ap (λ (x : Rule). rank_places x.weights.items) at

-- each rule weighs the members that some numbers rank
pub order-fits : (rules : List Rule) (n : ℕ) (os ws : List ℕ) → length ws ≡ n → All (λ r. length r.weights.items ≡ n) rules
    → os ≡ members_by_rank (rank_places ws) → All (λ r. All (λ i. i < length r.weights.items) os) rules
order-fits rules n os ws len full e k d lt j i below =
    let here = full k d lt in
    let h = order-below ws os e j i below in
    omega (arith, len, here, h)

-- no total is too great
light-sums : (n : ℕ) (rs : List RuleView) → n ≤ 40 → AllByRecursion (λ r. length r.weights ≡ n) rs
    → AllByRecursion (λ r. (i : ℕ) → i < n → get_or r.weights i 0 ≤ 1000000000000) rs → AllByRecursion (λ r. total r ≤ 40000000000000) rs
light-sums n [] few full light = tt
light-sums n (r ∷ rs) few full light = (light-sum n r.weights full.0 few light.0, light-sums n rs few full.1 light.1)

pub sums-fit : (g : GameView) → IsGame g → AllByRecursion (λ r. total r ≤ 40000000000000) g.rules
sums-fit g game =
    let p = passed g game.made in
    let few : length g.names ≤ 40 = ltb-false _ _ (or_parts _ _ p.members).1 in
    light-sums (length g.names) g.rules few (recursion_from_All (λ (r : RuleView). length r.weights ≡ length g.names) g.rules game.full)
    (light-weights g game)

pub ranked-are : (rs xs : List RuleView) (ks os : List ℕ) → os ≡ members_by_rank ks → xs ≡ map (rule_along os) rs
    → xs ≡ map (rule_by_rank ks) rs
ranked-are rs xs ks os e h = h ∙ ap (λ (l : List ℕ). map (rule_along l) rs) e

pub made-game : (title : Option (String Global)) (names ns : List (String Global)) (rules rs : List Rule) (ways ws : List Way) (ks : List ℕ)
    → ns ≡ names → rs ≡ rules → ws ≡ ways → ks ≡ rank_places (first_weights (rule_views rules))
    → made_game (option_map string_bytes title) (map string_bytes ns) (rule_views rs) (way_views ws) ≡ Ok
    (record {
      title = option_map string_bytes title;
      names = map string_bytes ns;
      rules = rule_views rs;
      ways = way_views ws;
      ranks = rank_places (first_weights (rule_views rs));
    })
    → made_game (option_map string_bytes title) (map string_bytes names) (rule_views rules) (way_views ways)
    ≡ Ok (game_of_parts title names rules ways ks)
made-game title names ns rules rs ways ws ks en er ew ek h = rw (ek, ← en, ← er, ← ew) h

pub is-game : (title : Option (String Global)) (names : List (String Global)) (rules : List Rule) (ways : List Way) (ks : List ℕ) → 0 < length rules
    → length rules ≤ 4 → All (λ r. length r.weights.items ≡ length names) rules
    → ks ≡ rank_places (first_weights (rule_views rules))
    → made_game (option_map string_bytes title) (map string_bytes names) (rule_views rules) (way_views ways)
    ≡ Ok (game_of_parts title names rules ways ks)
    → IsGame (game_of_parts title names rules ways ks)
is-game title names rules ways ks some few full ranks made =
    let count = length-map rules rule_view in
    let size = length-map names string_bytes in
    record {
      made = made ∙ ap (λ (l : List ℕ). Ok (game_of_parts title names rules ways l)) ranks;
      each_member =
          ap (λ (l : List ℕ). length l) ranks ∙ length-rank_places (first_weights (rule_views rules))
          ∙ first-length rules (length names) some full ∙ sym size;
      ranked = subst AreOfRanking (sym ranks) (of-ranking (first_weights (rule_views rules)));
      by_weight = λ one. ranks;
      has_rule = omega (arith, count);
      few_rules = omega (arith, count);
      full = rw size (All-map (λ r. length r.weights ≡ length names) rule_view rules full);
    }

-- in each game the ranks are a permutation, and `member_at` goes back
pub ranks-are : (g : GameView) → IsGame g → RanksAre (length g.names) g.ranks
ranks-are g game =
    let long = length-early g.ranks ∙ game.each_member in
    subst (λ (n : ℕ). RanksAre n g.ranks) long (subst (RanksAre (length (early g.ranks))) (sym game.ranked) (ranks-of (early g.ranks)))

pub held-votes : (g : GameView) (n : ℕ) (ranked : List Rule) (ways : List Way) → IsGame g → n ≡ length g.names
    → rule_views ranked ≡ (votes_of g).rules → way_views ways ≡ g.ways → IsVotes (votes n ranked ways)
held-votes g n ranked ways game count same alike = rw (count, same, alike) (votes-are g game)

-- the members by rank, as a table
pub order-at : (g : GameView) (os : List ℕ) (p : ℕ) → RanksAre (length g.names) g.ranks → os ≡ members_by_rank g.ranks → p < length g.names
    → (length os ≡ length g.names) × (get_or os p 0 ≡ member_at g.ranks p)
order-at g os p are e lt = let count = are.count in (grind (arith, length-by_rank), grind (arith, by_rank-at))

pub names-count : (names : List (String Global)) (n : ℕ) → n ≡ length names → n ≡ length (map string_bytes names)
names-count names n e = e ∙ sym (length-map names string_bytes)

-- a rule by rank, as the code holds it, is short and light
pub held-weights : (g : GameView) (ranked : List Rule) (i : ℕ) (x : Rule) → IsGame g → rule_views ranked ≡ (votes_of g).rules
    → i < length g.rules → x ≡ get_or ranked i x → (length x.weights.items ≤ 40) × (sum x.weights.items ≤ 40000000000000)
held-weights g ranked i x game same lt at =
    let v = votes-are g game in
    let count : length (votes_of g).rules ≡ length g.rules = length-map g.rules (rule_by_rank g.ranks) in
    let long : length ranked ≡ length g.rules = grind (arith, length-map) in
    let is = rule-is (votes_of g) i v (omega (arith, count, lt)) in
    let here : rule_at (votes_of g).rules i ≡ rule_view x = ap (λ (l : List RuleView). rule_at l i) (sym same) ∙ rule-at ranked i x (omega (arith, long, lt)) at in
    let full = ap (λ (r : RuleView). length r.weights) here in
    let all = ap (λ (r : RuleView). sum r.weights) here in
    (omega (arith, is.full, v.few, full), omega (arith, is.light, all))

pub file-full : (g : GameView) (rules : List Rule) (i : ℕ) (x : Rule) → IsGame g → g.rules ≡ rule_views rules → i < length g.rules
    → x ≡ get_or rules i x → length x.weights.items ≡ length g.names
file-full g rules i x game same lt at =
    let full = subst (λ (l : List RuleView). All (λ r. length r.weights ≡ length g.names) l) same game.full in
    let here = held_full rules (length g.names) full i x (omega (arith, ap length same, length-map rules rule_view)) in
    ap (λ (r : Rule). length r.weights.items) at ∙ here

pub all-full : (g : GameView) (rules : List Rule) → IsGame g → g.rules ≡ rule_views rules
    → All (λ r. length r.weights.items ≡ length g.names) rules
all-full g rules game same k d lt =
    file-full g rules k (get_or rules k d) game same (let count = ap length same ∙ length-map rules rule_view in omega (arith, count, lt))
    (get_or_default rules k d (get_or rules k d) lt)

-- the same game with its places in another order
pub is-reordered : (g : GameView) (ws : List ℕ) → IsGame g → 1 < length g.rules → length ws ≡ length g.names
    → IsGame (record g { ranks = rank_places ws })
is-reordered g ws game several long = record {
  made = game.made;
  each_member = length-rank_places ws ∙ long;
  ranked = of-ranking ws;
  by_weight = λ one. absurd (omega (arith, several, one));
  has_rule = game.has_rule;
  few_rules = game.few_rules;
  full = game.full;
}

pub reordered-parts : (g : GameView) (title : Option (String Global)) (names : List (String Global)) (rules : List Rule) (ways : List Way)
    (ks ws : List ℕ) → option_map string_bytes title ≡ g.title → map string_bytes names ≡ g.names → rule_views rules ≡ g.rules
    → way_views ways ≡ g.ways → ks ≡ rank_places ws
    → IsGame g → 1 < length g.rules → length ws ≡ length g.names → IsGame (game_of_parts title names rules ways ks)
reordered-parts g title names rules ways ks ws a b c d e game several long = rw (a, b, c, d, e) (is-reordered g ws game several long)
