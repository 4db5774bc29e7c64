-- The first rule of a game at another quota.
use Rattle.std.proofs.lemmas.Bool.Decides.{nat_tests}
use Rattle.std.proofs.Common.{◌≡◌, ℕ, ◌<◌, ◌≤◌, false, ◌||◌, ltb, List, [], ◌∷◌, length, get_or, sum, refl, ap, arith}
use Rattle.std.proofs.Common.{◌∙◌, ◌+◌, ◌++◌, All, Err, le-ltb, length-append, map, sym}
use Rattle.std.proofs.lemmas.{List.map-append, List.Elements.All-push}
use Rattle.council_game.proofs.Shared.Lists.{map_one_more}
use Rattle.std.proofs.lemmas.{Bool.or_parts, Grind.common_steps, List.Elements.recursion_from_All}
use Rattle.std.specs.List.{list_any, range_with_len}
use Rattle.council_game.specs.{Fault.Answers, declared.fault.GameFault.GameFault, declared.fault.GameFault.TheVariants.Memory}
use Rattle.council_game.specs.Votes.{RuleView, rule_at, wins}
use Rattle.council_game.specs.Game.{GameView, IsGame, made_game, total, is_heavy, has_bad_quota}
use Rattle.council_game.specs.Ways.{one_way}
use Rattle.council_game.proofs.Shared.Games.{passed, makes, first-full, nowhere_below, position-none}
use Rattle.council_game.proofs.Shared.Rankings.{length-rank_places, of-ranking}
use Rattle.game_calls.specs.{Quotas.at_quota, Quotas.at_quota_of, Winning.IsVetoer}
use Rattle.council_game.specs.{Rules.rule_view, Rules.rule_views, declared.rule.Rule.Rule}

first-light : (rs : List RuleView) (q i : ℕ) → 0 < length rs → is_heavy rs i ≡ false
    → is_heavy (record { quota = q; weights = (rule_at rs 0).weights } ∷ []) i ≡ false
first-light [] q i some h = absurd (omega arith)
first-light (r ∷ rs) q i some h = ap (λ b. b || false) (or_parts (ltb 1000000000000 (get_or r.weights i 0)) (is_heavy rs i) h).0

good-quota : (q : ℕ) (ws : List ℕ) → 1 ≤ q → q ≤ sum ws → list_any has_bad_quota (record { quota = q; weights = ws } ∷ []) ≡ false
good-quota q ws some met = rw (le-ltb q 1 some, le-ltb (sum ws) q met) refl

pub another_quota : (g : GameView) → IsGame g → (q : ℕ) → 1 ≤ q → q ≤ total (rule_at g.rules 0) → IsGame (at_quota g q)
another_quota g game q some met =
    let p = passed g game.made in
    let rs : List RuleView = record { quota = q; weights = (rule_at g.rules 0).weights } ∷ [] in
    let ws : List ℕ = (rule_at g.rules 0).weights in
    let full = recursion_from_All (λ (r : RuleView). length r.weights ≡ length g.names) g.rules game.full in
    let count : length (rule_at g.rules 0).weights ≡ length g.names = grind (arith, first-full) in
    let light = nowhere_below (is_heavy rs) (length g.names)
    (λ i lt. first-light g.rules q i game.has_rule (position-none (is_heavy g.rules) (length g.names) p.weights i lt)) in
    grind (arith, nat_tests, makes, good-quota, length-rank_places, of-ranking)

-- the only fault that is answered is out of memory
pub only-memory : (g : GameView) (q : ℕ) (fault : GameFault) → IsGame g → 1 ≤ q → q ≤ total (rule_at g.rules 0)
    → Answers (Err fault) (made_game g.title g.names (record { quota = q; weights = (rule_at g.rules 0).weights } ∷ []) (one_way 1)) → fault ≡ Memory
only-memory g q fault game some met gives = grind (arith, common_steps, another_quota)

-- who wins at a higher quota wins at a lower one
pub vetoes_stay : (g : GameView) (i q r : ℕ) → q ≤ r → IsVetoer (at_quota g q) i → IsVetoer (at_quota g r) i
unfolding wins
vetoes_stay g i q r le needed c below won = needed c below (grind (arith, nat_tests, won))

-- the first k rules are copied, rule r at quota q
pub record AreCopied (g : GameView) (r q k : ℕ) (rules : List Rule) : Type 0 where
  pub same : rule_views rules ≡ map (at_quota_of g r q) (range_with_len 0 k)
  pub full : All (λ rule. length rule.weights.items ≡ length g.names) rules
  pub count : length rules ≡ k

pub copied-more : (g : GameView) (r q k : ℕ) (rules : List Rule) (rule : Rule) → AreCopied g r q k rules → rule_view rule ≡ at_quota_of g r q k
    → length rule.weights.items ≡ length g.names → AreCopied g r q (k + 1) (rules ++ rule ∷ [])
copied-more g r q k rules rule before same full = record {
  same = map-append rule_view rules (rule ∷ []) ∙ (λ i. before.same i ++ same i ∷ []) ∙ sym (map_one_more (at_quota_of g r q) k);
  full = All-push (λ (x : Rule). length x.weights.items ≡ length g.names) rules rule before.full full;
  count = omega (arith, length-append rules (rule ∷ []), before.count);
}
