-- Whether a coalition wins, and is minimal, place by place and rule by rule.
use Rattle.council_game.proofs.Imports.{common_steps, ◌≡◌, ℕ, ◌+◌, ◌-◌, ◌*◌, ◌/◌, ◌%◌, ◌^◌, ◌<◌, true, false, List, [], length, take, get_or}
use Rattle.council_game.proofs.Imports.{sym, ap, ◌∙◌, arith, All-from_recursion, RuleView, Votes, IsRule, IsVotes, rule_at, has, without}
use Rattle.council_game.proofs.Imports.{weight, length-map, get_or-map, nat_tests, Rule, rule_view, rule_views, votes, Way, wins, get_or_past, cases_lt, inl, inr, ◌≤◌, meets_quota}
use Rattle.std.proofs.Common.{shr-shr, le-leb}
use Rattle.council_game.proofs.Shared.{Weights.weight-more, Weights.weight-without, Ways.ways-more}

-- the digits above a place, and above the next
pub fixed-half : (x k p : ℕ) → p < k → x / 2 ^ (k - p) ≡ x / 2 ^ (k - (p + 1)) / 2
fixed-half x k p below =
    let e : k - p ≡ (k - (p + 1)) + 1 = omega arith in
    ap (λ (i : ℕ). x / 2 ^ i) e ∙ sym (shr-shr x (k - (p + 1)) 1)

pub weight-next : (ws : List ℕ) (n m c p : ℕ) → m ≡ n → length ws ≡ n → p < n
    → weight (take (p + 1) ws) (c / 2 ^ (m - (p + 1))) ≡ weight (take p ws) (c / 2 ^ (m - p)) + c / 2 ^ (m - 1 - p) % 2 * get_or ws p 0
weight-next ws n m c p e long below = grind (arith, nat_tests, fixed-half, weight-more)

pub weight-out : (ws : List ℕ) (n m c p s t : ℕ) → m ≡ n → length ws ≡ n → p < n → s ≡ weight (take p ws) (c / 2 ^ (m - p))
    → has m p c ≡ false → t ≡ s → t ≡ weight (take (p + 1) ws) (c / 2 ^ (m - (p + 1)))
unfolding has
weight-out ws n m c p s t e long below is outside sums = grind (arith, nat_tests, weight-next ws n m c p e long below)

pub rule-is : (v : Votes) (i : ℕ) → IsVotes v → i < length v.rules → IsRule v.members (rule_at v.rules i)
rule-is v i game below = All-from_recursion (IsRule v.members) v.rules game.rules i _ below

-- ---- rules as the code holds them
pub rule-at : (rules : List Rule) (i : ℕ) (x : Rule) → i < length rules → x ≡ get_or rules i x → rule_at (rule_views rules) i ≡ rule_view x
rule-at rules i x below at = get_or-map rule_view rules i x _ below ∙ ap rule_view (sym at)

pub count-rules : (rules : List Rule) → length (rule_views rules) ≡ length rules
count-rules rules = length-map rules rule_view

pub held-rule : (n : ℕ) (rules : List Rule) (ways : List Way) (i : ℕ) (x : Rule) → IsVotes (votes n rules ways) → i < length rules → x ≡ get_or rules i x
    → IsRule n (rule_view x)
held-rule n rules ways i x game below at = grind (arith, nat_tests, common_steps, rule-at, rule-is, count-rules)

-- a rule's weight of a coalition without one of its places
pub sum-without : (n : ℕ) (r : RuleView) (c p s : ℕ) → IsRule n r → p < n → has n p c ≡ true → s ≡ weight r.weights c
    → s - get_or r.weights p 0 ≡ weight r.weights (without n p c)
unfolding has without
sum-without n r c p s is below inside sums = grind (arith, nat_tests, weight-without)

-- ---- who meets more rules wins
-- beyond the rules, each number is met
pub met-past : (rules : List RuleView) (r c : ℕ) → length rules ≤ r → meets_quota c (rule_at rules r) ≡ true
met-past rules r c past = rw (get_or_past rules r (record { quota = 0; weights = [] }) past) (le-leb 0 _ (omega arith))

pub wins-more : (v w : Votes) (a c : ℕ) → w.ways ≡ v.ways
    → ((r : ℕ) → r < length v.rules → meets_quota a (rule_at v.rules r) ≡ true → meets_quota c (rule_at w.rules r) ≡ true)
    → length w.rules ≤ length v.rules → wins v a ≡ true → wins w c ≡ true
unfolding wins
wins-more v w a c same more few won =
    rw same (ways-more (λ r. meets_quota a (rule_at v.rules r)) (λ r. meets_quota c (rule_at w.rules r))
    (λ r met. elim (cases_lt r (length v.rules)) [ inl lt ↦ more r lt met | inr past ↦ met-past w.rules r c (omega (arith, past, few)) ]) v.ways won)
