-- Who wins by some way: under only its rules, and with rules and ways in another order.
use Rattle.std.proofs.Common.{◌≡◌, ◌∙◌, ℕ, ◌<◌, Bool, true, List, [], ◌∷◌, length, get_or, map, sym, ap, refl, IsPermutation}
use Rattle.std.specs.{List.list_all, List.list_any, List.range_with_len, Cmp.both_ways as same_test}
use Rattle.std.proofs.lemmas.List.{get_or-map, length-map, FromFn.fill_by_all, Folds.list_all-map, Folds.list_any_at, Sorted.All-permutation, Sorted.IsPermutation-sym}
use Rattle.std.proofs.lemmas.List.Sums.{AllPass-from_list_all, list_all-from_AllPass}
use Rattle.std.proofs.Math.Bool.{or-false}
use Rattle.council_game.specs.{Game.GameView, Game.IsGame, Game.votes_of, Ranks.rule_by_rank, Ways.covers, Ways.has_rule}
use Rattle.council_game.specs.Votes.{RuleView, Votes, meets_quota, rule_at, wins}
use Rattle.council_game.specs.Renaming.{AreInverse, HaveRenamedMembers, IsRenaming}
use Rattle.council_game.proofs.Shared.{Games.passed, Renamed.met-alike}
use Rattle.council_game.proofs.Shared.Ways.{each-passes, one-way-passes, own-rule, some-passes, way-passes}
use Rattle.game_calls.specs.Winning.{HaveSameWays, by_way}

-- a test of all rules by their numbers
rules-pass : (test : RuleView → Bool) (rs : List RuleView) (n : ℕ) → length rs ≡ n → list_all (λ r. test (rule_at rs r)) (range_with_len 0 n) ≡ list_all test rs
rules-pass test rs n long =
    sym (list_all-map test (rule_at rs) (range_with_len 0 n))
    ∙ sym (ap (list_all test) (fill_by_all (rule_at rs) rs n (record { quota = 0; weights = [] }) long (λ k lt. refl)))

-- ---- each way by itself
pub by_ways : (v : Votes) (c : ℕ) → wins v c ≡ list_any (λ way. wins (by_way v way) c) v.ways
unfolding wins
by_ways v c =
    let own : (way : List ℕ) → list_all (λ r. meets_quota c (rule_at v.rules r)) way ≡ wins (by_way v way) c = λ way.
    sym (or-false _ ∙ rules-pass (meets_quota c) (map (rule_at v.rules) way) (length way) (length-map way (rule_at v.rules))
    ∙ list_all-map (meets_quota c) (rule_at v.rules) way) in
    λ k. list_any (λ way. own way k) v.ways

-- ---- rules and ways in another order
module _ (g h : GameView) (is_g : IsGame g) (is_h : IsGame h) (count : length h.names ≡ length g.names) where
  abbrev same : ℕ → ℕ
  same i = i

  inverse : AreInverse (length g.names) same same
  inverse = record { to_below = λ i lt. lt; from_below = λ i lt. lt; back = λ i lt. refl; forth = λ i lt. refl }

  module _ (c d : ℕ) (members : HaveRenamedMembers same g h c d) where
    abbrev meets-g : RuleView → Bool
    meets-g r = meets_quota c (rule_by_rank g.ranks r)

    abbrev meets-h : RuleView → Bool
    meets-h r = meets_quota d (rule_by_rank h.ranks r)

    alike : (r : RuleView) → meets-g r ≡ meets-h r
    alike r = met-alike same same g h is_g is_h count inverse c d members (r ∷ []) (r ∷ []) (record { quota = refl; weights = λ i lt. refl }, tt) 0

    abbrev test-g : ℕ → Bool
    test-g r = meets_quota c (rule_at (votes_of g).rules r)

    abbrev test-h : ℕ → Bool
    test-h r = meets_quota d (rule_at (votes_of h).rules r)

    -- rules under other numbers
    module _ (to : ℕ → ℕ) (ways : HaveSameWays to g h) where
      met : (r : ℕ) → r < length g.rules → test-g r ≡ test-h (to r)
      met r lt =
          ap (meets_quota c) (get_or-map (rule_by_rank g.ranks) g.rules r _ _ lt)
          ∙ alike (rule_at g.rules r)
          ∙ ap meets-h (sym (ways.rules r lt))
          ∙ sym (ap (meets_quota d) (get_or-map (rule_by_rank h.ranks) h.rules (to r) _ _ (ways.below r lt)))

      rule-below : (k r : ℕ) → k < length g.ways → has_rule (get_or g.ways k []) r ≡ true → r < length g.rules
      rule-below k r = own-rule (length g.rules) g.ways k r (passed g is_g.made).ways

      wins-too : wins (votes_of g) c ≡ true → wins (votes_of h) d ≡ true
      unfolding wins
      wins-too won =
          let found = some-passes (list_all test-g) g.ways [] won in
          let way : List ℕ = get_or g.ways found.0 [] in
          let other = some-passes (covers (map to way)) h.ways []
          (AllPass-from_list_all (λ way. list_any (covers (map to way)) h.ways) g.ways ways.enough found.0 [] found.1) in
          let moved : list_all test-h (map to way) ≡ true =
          list_all-map test-h to way ∙ way-passes (λ r. test-h (to r)) way
          (λ r has. sym (met r (rule-below found.0 r found.1 has)) ∙ each-passes test-g way r found.2 has) in
          list_any_at (list_all test-h) h.ways other.0 [] other.1 (way-passes test-h (get_or h.ways other.0 [])
          (λ r has. each-passes test-h (map to way) r moved (each-passes (has_rule (map to way)) (get_or h.ways other.0 []) r other.2 has)))

      won-too : wins (votes_of h) d ≡ true → wins (votes_of g) c ≡ true
      unfolding wins
      won-too won =
          let found = some-passes (list_all test-h) h.ways [] won in
          let way : List ℕ = get_or h.ways found.0 [] in
          let other = some-passes (λ other. covers way (map to other)) g.ways []
          (AllPass-from_list_all (λ way. list_any (λ other. covers way (map to other)) g.ways) h.ways ways.needed found.0 [] found.1) in
          let own : List ℕ = get_or g.ways other.0 [] in
          let inside : list_all (λ r. has_rule way (to r)) own ≡ true = sym (list_all-map (has_rule way) to own) ∙ other.2 in
          list_any_at (list_all test-g) g.ways other.0 [] other.1 (way-passes test-g own
          (λ r has. met r (rule-below other.0 r other.1 has)
          ∙ each-passes test-h way (to r) found.2 (each-passes (λ r. has_rule way (to r)) own r inside has)))

    -- one way of all rules
    all-met : length g.ways ≡ 1 → wins (votes_of g) c ≡ list_all meets-g g.rules
    unfolding wins
    all-met one =
        one-way-passes (length g.rules) g.ways test-g (passed g is_g.made).ways one
        ∙ rules-pass (meets_quota c) (votes_of g).rules (length g.rules) (length-map g.rules (rule_by_rank g.ranks))
        ∙ list_all-map (meets_quota c) (rule_by_rank g.ranks) g.rules

    met-all : length h.ways ≡ 1 → wins (votes_of h) d ≡ list_all meets-h h.rules
    unfolding wins
    met-all one =
        one-way-passes (length h.rules) h.ways test-h (passed h is_h.made).ways one
        ∙ rules-pass (meets_quota d) (votes_of h).rules (length h.rules) (length-map h.rules (rule_by_rank h.ranks))
        ∙ list_all-map (meets_quota d) (rule_by_rank h.ranks) h.rules

  permuted-pass : (test : RuleView → Bool) (rs ts : List RuleView) → IsPermutation rs ts → list_all test rs ≡ true → list_all test ts ≡ true
  permuted-pass test rs ts perm all = list_all-from_AllPass test ts (All-permutation (λ r. test r ≡ true) rs ts perm (AllPass-from_list_all test rs all))

  pub permuted : length g.ways ≡ 1 → length h.ways ≡ 1 → IsPermutation g.rules h.rules → IsRenaming same same g h
  permuted one-g one-h perm = record {
    count = count;
    inverse = inverse;
    win = λ c d members. all-met c d members one-g
        ∙ (λ k. list_all (λ r. alike c d members r k) g.rules)
        ∙ same_test _ _ (permuted-pass (meets-h c d members) g.rules h.rules perm)
        (permuted-pass (meets-h c d members) h.rules g.rules (IsPermutation-sym _ _ perm))
        ∙ sym (met-all c d members one-h);
  }

pub reordered : (to : ℕ → ℕ) (g h : GameView) → IsGame g → IsGame h → length h.names ≡ length g.names → HaveSameWays to g h
    → IsRenaming (λ i. i) (λ i. i) g h
reordered to g h is_g is_h count ways = record {
  count = count;
  inverse = inverse g h is_g is_h count;
  win = λ c d members. same_test _ _ (wins-too g h is_g is_h count c d members to ways) (won-too g h is_g is_h count c d members to ways);
}
