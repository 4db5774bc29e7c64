-- The votes of a game.
use Rattle.council_game.proofs.Imports.{rank_places, rule_by_rank, GameView, IsGame, made_game, first_weights, ranked_by_first, ◌≡◌, ℕ, suc, ◌*◌, ◌<◌, ◌≤◌}
use Rattle.council_game.proofs.Imports.{Bool, false, not, ◌||◌, List, [], ◌∷◌, length, get_or, map, sum, refl, position, position_or_len}
use Rattle.council_game.proofs.Imports.{nat_tests, cases_lt, or_parts, cond-true, RuleView, IsRule, IsVotes, places, sym, ap, ◌∙◌, subst}
use Rattle.council_game.proofs.Imports.{length-range_with_len, length-map, get_or_default, recursion_from_All, fails_before_first, arith}
use Rattle.council_game.proofs.Imports.{inl, inr, Option, Ok, AllByRecursion, list_any, range_with_len, votes_of, is_name, has_bad_quota}
use Rattle.council_game.proofs.Imports.{is_repeat, is_heavy, are_ways, not-false, true}
use Rattle.std.proofs.Common.{None, ltb, lt-ltb, le-ltb}
use Rattle.std.proofs.lemmas.List.{get_or_past, Sums.sum_by-le}
use Rattle.std.specs.Option.{option_map_or}
use Rattle.council_game.specs.declared.fault.GameFault.TheVariants.{Title, Ways, Members, Name, SameName, Weight, QuotaRange}
use Rattle.council_game.specs.{Fault.◌>>=◌, Fault.refuse, Fault.refuse_at, Game.is_title, Votes.IsRanked}
use Rattle.council_game.proofs.Shared.Rankings.{ranking-sum, ranked-falls, length-weights_by_rank, length-rank_places, places-at}
use Rattle.council_game.proofs.Shared.Rankings.{weights-at, early, length-early}

-- ---- what a game that was made has passed
checks-passed : (title ways count : Bool) (name repeat weight : Option ℕ) (quota : Bool) (made g : GameView)
    → (refuse title Title >>= (λ _. refuse ways Ways >>= (λ _. refuse count Members >>= (λ _. refuse_at Name name >>=
    (λ _. refuse_at SameName repeat >>= (λ _. refuse_at Weight weight >>= (λ _. refuse quota QuotaRange >>= (λ _. Ok made)))))))) ≡ Ok g
    → (title ≡ false) × (ways ≡ false) × (count ≡ false) × (name ≡ None) × (repeat ≡ None) × (weight ≡ None) × (quota ≡ false)
checks-passed false false false None None None false made g h = (refl, refl, refl, refl, refl, refl, refl)
checks-passed title ways count name repeat weight quota made g h = absurd (cc)

pub record Passed (g : GameView) : Type 0 where
  pub title : option_map_or (λ t. not (is_title t)) g.title false ≡ false
  pub ways : are_ways (length g.rules) g.ways ≡ true
  pub members : (ltb (length g.names) 1 || ltb 40 (length g.names)) ≡ false
  pub names : position (λ name. not (is_name name)) g.names ≡ None
  pub repeats : position (is_repeat g.names) (places g.names) ≡ None
  pub weights : position (is_heavy g.rules) (range_with_len 0 (length g.names)) ≡ None
  pub quotas : list_any has_bad_quota g.rules ≡ false

pub passed : (g : GameView) → made_game g.title g.names g.rules g.ways ≡ Ok (ranked_by_first g) → Passed g
unfolding made_game
passed g h = grind (arith, nat_tests, checks-passed, not-false)

-- what passes the checks is made
pub makes : (title : Option (List ℕ)) (names : List (List ℕ)) (rules : List RuleView) (ways : List (List ℕ))
    → option_map_or (λ t. not (is_title t)) title false ≡ false
    → are_ways (length rules) ways ≡ true → (ltb (length names) 1 || ltb 40 (length names)) ≡ false → position (λ name. not (is_name name)) names ≡ None
    → position (is_repeat names) (places names) ≡ None → position (is_heavy rules) (range_with_len 0 (length names)) ≡ None
    → list_any has_bad_quota rules ≡ false
    → made_game title names rules ways ≡ Ok (record { title = title; names = names; rules = rules; ways = ways; ranks = rank_places (first_weights rules) })
unfolding made_game
makes title names rules ways a w b c d e f = grind (arith, nat_tests)

-- ---- no weight is above the limit
-- a test that finds no entry was tried on all
pub none-found : {X : Type 0} (f : X → Bool) (xs : List X) → position f xs ≡ None → length xs ≤ position_or_len f xs
none-found f xs none = grind (arith, nat_tests, cases_lt, cond-true, lt-ltb)

pub position-none : (f : ℕ → Bool) (n : ℕ) → position f (range_with_len 0 n) ≡ None → (i : ℕ) → i < n → f i ≡ false
position-none f n none i lt =
    let len = length-range_with_len 0 n in
    let all = none-found f (range_with_len 0 n) none in
    ap f (sym (places-at n i 0 lt)) ∙ fails_before_first f (range_with_len 0 n) i 0 (omega (arith, len, all, lt))

-- a test that no entry passes finds none
stops_nowhere : {X : Type 0} (p : X → Bool) (xs : List X) → ((i : ℕ) (d : X) → i < length xs → p (get_or xs i d) ≡ false)
    → position_or_len p xs ≡ length xs
stops_nowhere p [] h = refl
stops_nowhere p (x ∷ xs) h = rw (h 0 x (omega arith), stops_nowhere p xs (λ i d lt. h (suc i) d (omega arith))) (omega arith)

pub position_nowhere : {X : Type 0} (p : X → Bool) (xs : List X) → ((i : ℕ) (d : X) → i < length xs → p (get_or xs i d) ≡ false)
    → position p xs ≡ None
position_nowhere p xs h = rw (stops_nowhere p xs h, le-ltb (length xs) (length xs) (omega arith)) refl

pub nowhere_below : (p : ℕ → Bool) (m : ℕ) → ((i : ℕ) → i < m → p i ≡ false) → position p (range_with_len 0 m) ≡ None
nowhere_below p m h = grind (arith, nat_tests, position_nowhere, length-range_with_len, places-at)

-- there are at most 40 members
pub few-members : (g : GameView) → IsGame g → length g.names ≤ 40
few-members g game = let p = passed g game.made in grind (arith, nat_tests)

-- no name is longer than 64 bytes
name-fits : (name : List ℕ) → not (is_name name) ≡ false → length name ≤ 64
name-fits name h = grind (arith, nat_tests)

pub names-fit : (g : GameView) → IsGame g → (i : ℕ) → length (get_or g.names i []) ≤ 64
names-fit g game i = elim (cases_lt i (length g.names)) [
  | inl lt ↦
      let found = none-found (λ name. not (is_name name)) g.names (passed g game.made).names in
      name-fits (get_or g.names i []) (fails_before_first (λ name. not (is_name name)) g.names i [] (omega (arith, found, lt)))
  | inr past ↦
      let none = ap (λ (name : List ℕ). length name) (get_or_past g.names i [] past) in
      omega (arith, none)
]

pub none-any : {X : Type 0} (f : X → Bool) (xs : List X) → list_any f xs ≡ false → AllByRecursion (λ x. f x ≡ false) xs
none-any f [] h = tt
none-any f (x ∷ xs) h = let parts = or_parts (f x) (list_any f xs) h in (parts.0, none-any f xs parts.1)

-- the weights of each rule are in range
light-rules : (n : ℕ) (rs : List RuleView) → ((i : ℕ) → i < n → is_heavy rs i ≡ false)
    → AllByRecursion (λ r. (i : ℕ) → i < n → get_or r.weights i 0 ≤ 1000000000000) rs
light-rules n [] h = tt
light-rules n (r ∷ rs) h = grind (arith, light-rules n rs (λ i lt. (grind (arith, nat_tests))), nat_tests)

pub light-weights : (g : GameView)
    → IsGame g → AllByRecursion (λ r. (i : ℕ) → i < length g.names → get_or r.weights i 0 ≤ 1000000000000) g.rules
light-weights g game = light-rules (length g.names) g.rules (position-none (is_heavy g.rules) (length g.names) (passed g game.made).weights)

pub light-sum : (n : ℕ) (ws : List ℕ) → length ws ≡ n → n ≤ 40 → ((i : ℕ) → i < n → get_or ws i 0 ≤ 1000000000000) → sum ws ≤ 40000000000000
light-sum n ws len few light =
    let most : sum ws ≤ length ws * 1000000000000 =
    sum_by-le (λ x. x) 1000000000000 ws
    (λ k d lt. let e : get_or ws k d ≡ get_or ws k 0 = get_or_default ws k d 0 lt in omega (arith, light k (omega arith))) in
    omega arith

-- ---- the rules by rank
pub rule-votes : (n : ℕ) (first : List ℕ) (r : RuleView) → n ≤ 40 → length first ≡ n → length r.weights ≡ n
    → ((i : ℕ) → i < n → get_or r.weights i 0 ≤ 1000000000000) → has_bad_quota r ≡ false → IsRule n (rule_by_rank (rank_places first) r)
rule-votes n first r few len len2 light quota =
    let same = ranking-sum first r.weights (omega arith) in
    let bound = light-sum n r.weights len2 few light in grind (arith, length-weights_by_rank, length-rank_places, nat_tests)

rules-votes : (n : ℕ) (first : List ℕ) (rs : List RuleView) → n ≤ 40 → length first ≡ n → AllByRecursion (λ r. length r.weights ≡ n) rs
    → AllByRecursion (λ r. (i : ℕ) → i < n → get_or r.weights i 0 ≤ 1000000000000) rs → AllByRecursion (λ r. has_bad_quota r ≡ false) rs
    → AllByRecursion (IsRule n) (map (rule_by_rank (rank_places first)) rs)
rules-votes n first [] few len full light quotas = tt
rules-votes n first (r ∷ rs) few len full light quotas =
    (rule-votes n first r few len full.0 light.0 quotas.0, rules-votes n first rs few len full.1 light.1 quotas.1)

rules-ranked : (rs : List RuleView) → IsRanked (map (rule_by_rank (rank_places (first_weights rs))) rs)
rules-ranked [] = tt
rules-ranked (r ∷ rs) = λ a b le lt.
    let len = length-weights_by_rank (rank_places r.weights) r.weights ∙ length-rank_places r.weights in
    let inside : b < length r.weights = omega (arith, len, lt) in
    omega (arith, ranked-falls r.weights a b le inside, weights-at r.weights a (omega (arith, le, inside)), weights-at r.weights b inside)

pub first-full : (n : ℕ) (rs : List RuleView) → 0 < length rs → AllByRecursion (λ r. length r.weights ≡ n) rs
    → length (first_weights rs) ≡ n
first-full n [] some full = absurd (omega arith)
first-full n (r ∷ rs) some full = full.0

-- the votes of each game
pub votes-are : (g : GameView) → IsGame g → IsVotes (votes_of g)
votes-are g game =
    let p = passed g game.made in
    let few : length g.names ≤ 40 = grind (arith, nat_tests) in
    let full = recursion_from_All (λ (r : RuleView). length r.weights ≡ length g.names) g.rules game.full in
    let light = light-weights g game in
    let quotas = none-any has_bad_quota g.rules p.quotas in
    let count : length (map (rule_by_rank g.ranks) g.rules) ≡ length g.rules = length-map g.rules (rule_by_rank g.ranks) in
    let all : AllByRecursion (IsRule (length g.names)) (map (rule_by_rank g.ranks) g.rules) =
    subst (λ (ranks : List ℕ). AllByRecursion (IsRule (length g.names)) (map (rule_by_rank ranks) g.rules)) (sym game.ranked)
    (rules-votes (length g.names) (early g.ranks) g.rules few (length-early g.ranks ∙ game.each_member) full light quotas) in
    let ways : are_ways (length (map (rule_by_rank g.ranks) g.rules)) g.ways ≡ true = rw count p.ways in
    let up : length g.rules ≡ 1 → IsRanked (map (rule_by_rank g.ranks) g.rules) =
    λ one. subst (λ (ranks : List ℕ). IsRanked (map (rule_by_rank ranks) g.rules))
    (sym (game.by_weight one)) (rules-ranked g.rules) in
    grind (arith, nat_tests)
