-- Tables that hold the tallies of a list hold its counts, and what holds of counts.
use Rattle.power_index.proofs.Imports.{length-filter, nat_tests, ◌≡◌, ◌∙◌, ◌==◌, ◌&&◌, ℕ, ◌+◌, ◌^◌, ◌<◌, ◌≤◌, List, [], ◌∷◌, ◌++◌, length}
use Rattle.power_index.proofs.Imports.{get_or, replicate, cond, Bool, true, sym, ap, arith, subst, length-append, contains}
use Rattle.power_index.proofs.Imports.{filter, has, size, GameView, IsGame, AreNonemptyCoalitions, votes-are, ranks-are, total_of_sizes}
use Rattle.power_index.proofs.Imports.{size_of, Tables, AreSizeCounts, AreTallies, AreOfOneGame, AreCounts, AreSound, All, table_total}
use Rattle.power_index.proofs.Imports.{AreAdded, with_one}
use Rattle.std.proofs.lemmas.List.{get_or-replicate, Elements.All-append, Elements.All-cons, Elements.All-nil, Elements.filter-append, Sums.sum_by_push}
use Rattle.std.proofs.Common.{length-set}
use Rattle.power_index.specs.Inner.Tables.{AreOfSomeList, AreKept}
use Rattle.council_game.proofs.Shared.Sums.{bumped, filter-all}
use Rattle.power_index.proofs.{Sizes.sizes-total, Sizes.sizes-few, Weights.weight-light, Weights.memberships-are}
use Rattle.power_index.proofs.Shared.Sums.{length-filter-le}
use Rattle.power_index.proofs.Shared.Members.{few-members, memberships, sizes-some, size-le}

-- the numbers of a member's coalitions
member-sizes : (g : GameView) (list : List ℕ) (t : Tables) (i : ℕ) → i < t.members → AreTallies g list t
    → AreSizeCounts (length g.names) (contains g i) list (get_or t.each (get_or t.ranks i 0) [])
member-sizes g list t i lt h =
    subst (λ (p : ℕ). AreSizeCounts (length g.names) (contains g i) list (get_or t.each p [])) (sym (h.of_game.ranks i lt))
    (h.tallies.each (get_or g.ranks i 0) ((ranks-are g h.of_game.is_game).place_below i (omega (arith, h.of_game.members))))

-- how many were counted
pub total-is : (g : GameView) (list : List ℕ) (t : Tables) → AreTallies g list t → table_total t ≡ length list
total-is g list t h =
    let few = few-members g h.of_game.is_game in
    ap (λ (n : ℕ). total_of_sizes n t.all) h.of_game.members
    ∙ (sizes-total (length g.names) (λ c. true) list t.all few h.tallies.all ∙ filter-all list)

pub tallies-are_counts : (g : GameView) (list : List ℕ) (t : Tables) → AreTallies g list t → AreCounts g list t
tallies-are_counts g list t h =
    let few = few-members g h.of_game.is_game in
    record {
      members = h.of_game.members;
      total = total-is g list t h;
      of_size = λ s le. h.tallies.all.each s (omega (arith, h.of_game.members));
      of_member = λ i lt. ap (λ (n : ℕ). total_of_sizes n (get_or t.each (get_or t.ranks i 0) [])) h.of_game.members
          ∙ sizes-total (length g.names) (contains g i) list _ few (member-sizes g list t i lt h);
      of_member_size = λ i s lt le. (member-sizes g list t i lt h).each s (omega (arith, h.of_game.members));
    }

-- what holds of the tables of some list
pub some-sound : (t : Tables) → AreOfSomeList t → AreSound t
some-sound t h =
    let game = h.tallies.of_game.is_game in
    let counts = tallies-are_counts h.game h.list t h.tallies in
    let few : (p : ℕ → Bool) → length (filter p h.list) ≤ table_total t = λ p. omega (arith, length-filter-le p h.list, counts.total) in
    record {
      some_members = omega (arith, counts.members, (votes-are h.game game).some);
      few_members = omega (arith, counts.members, few-members h.game game);
      few = omega (arith, counts.total, h.few);
      few_of_size = λ s le. omega (arith, counts.of_size s le, few (λ c. size_of h.game c == s));
      few_of_member = λ i lt. omega (arith, counts.of_member i lt, few (contains h.game i));
      few_of_member_size =
          λ i s lt le. omega (arith, counts.of_member_size i s lt le, few (λ c. contains h.game i c && (size_of h.game c == s)));
      memberships =
          grind (arith, counts.total, memberships-are h.game h.list t counts, memberships h.game h.list game, sizes-some, few-members);
      light = λ i lt. weight-light h.game h.list t i lt counts;
    }

pub kept : {t : Tables} → AreOfSomeList t → AreKept t
kept {t} h = record {
  of_some = h;
  sound = some-sound t h;
  places = λ i lt. (let below = (ranks-are h.game h.tallies.of_game.is_game).place_below i (omega (arith, h.tallies.of_game.members)) in
      omega (arith, below, h.tallies.of_game.ranks i lt, h.tallies.of_game.members));
  all_few = λ s le. omega (arith, sizes-few (length h.game.names) (λ c. true) h.list t.all s le h.tallies.tallies.all, h.few);
  each_few = λ p s lt le. (let few = sizes-few (length h.game.names) (has (length h.game.names) p) h.list (get_or t.each p []) s le
      (h.tallies.tallies.each p (omega (arith, h.tallies.of_game.members))) in
      omega (arith, few, h.few));
}

-- no coalition is counted
pub none-hold : (g : GameView) (m : ℕ) (ranks : List ℕ) (none : List ℕ) → IsGame g → m ≡ length g.names
    → ((i : ℕ) → i < m → get_or ranks i 0 ≡ get_or g.ranks i 0) → length none ≡ 41 → ((s : ℕ) → get_or none s 0 ≡ 0)
    → AreTallies g [] (record { members = m; ranks = ranks; all = none; each = replicate 40 none })
none-hold g m ranks none game m-is same long sizes = record {
  of_game = record { is_game = game; members = m-is; ranks = same };
  tallies = record {
    all = record { long = long; each = λ s _. sizes s };
    each = λ p lt. rw (get_or-replicate 40 p none [] (omega (arith, lt, few-members g game))) (record { long = long; each = λ s _. sizes s });
  };
}

pub none-some : (g : GameView) (t : Tables) → AreTallies g [] t → AreOfSomeList t
none-some g t h = record { game = g; list = []; coalitions = λ k d lt. absurd (omega arith); few = omega arith; tallies = h }

-- one coalition more
pub more-hold : (g : GameView) (list : List ℕ) (t : Tables) (c s : ℕ) (all : List ℕ) (each : List (List ℕ)) → s ≡ size t.members c
    → all ≡ with_one t.all s
    → ((p : ℕ) → p < t.members
    → get_or each p [] ≡ cond (has t.members p c) (with_one (get_or t.each p []) s) (get_or t.each p []))
    → AreTallies g list t → AreTallies g (list ++ c ∷ []) (record { members = t.members; ranks = t.ranks; all = all; each = each })
more-hold g list t c s all each s-is all-is each-is h =
    grind (arith, nat_tests, few-members, size-le, bumped, length-set, length-filter, sum_by_push)

pub more-kept : (t u : Tables) (c : ℕ) → AreKept t → 0 < c → c < 2 ^ t.members → table_total t < 2 ^ 40
    → ((g : GameView) (list : List ℕ) → AreTallies g list t → AreTallies g (list ++ c ∷ []) u)
    → AreKept u × (table_total u ≡ table_total t + 1)
more-kept t u c old some below room more =
    let own = old.of_some in
    let tallies = more own.game own.list own.tallies in
    let long = length-append own.list (c ∷ []) in
    let first = total-is own.game own.list t own.tallies in
    let second = total-is own.game (own.list ++ c ∷ []) u tallies in
    let one : AreNonemptyCoalitions own.game (c ∷ []) =
    All-cons (λ c. (0 < c) × (c < 2 ^ length own.game.names)) c []
    (some, subst (λ (n : ℕ). c < 2 ^ n) own.tallies.of_game.members below) (All-nil (λ c. (0 < c) × (c < 2 ^ length own.game.names))) in (
      kept (record {
        game = own.game;
        list = own.list ++ c ∷ [];
        coalitions = All-append (λ c. (0 < c) × (c < 2 ^ length own.game.names)) own.list (c ∷ []) own.coalitions one;
        few = omega (arith, first, second, long, room);
        tallies = tallies;
      }),
      omega (arith, first, second, long),
    )

-- two lists, one after the other
pub join-hold : (g : GameView) (first second : List ℕ) (s t : Tables) (all : List ℕ) (each : List (List ℕ)) → AreAdded s.all t.all all
    → ((p : ℕ) → p < s.members → AreAdded (get_or s.each p []) (get_or t.each p []) (get_or each p []))
    → AreTallies g first s
    → AreTallies g second t → AreTallies g (first ++ second) (record { members = s.members; ranks = s.ranks; all = all; each = each })
join-hold g first second s t all each all-is each-is a b = grind (arith, filter-append, length-append)

-- the tables of a list of a game are those of the list in another game with the same rank places
pub of-first : (s t : Tables) (g g' : GameView) (first second : List ℕ) → AreOfOneGame s t → AreTallies g first s → AreTallies g' second t
    → AreTallies g second t
of-first s t g g' first second one a b = grind arith

pub join-kept : (s t u : Tables) → AreKept s → AreKept t → AreOfOneGame s t → table_total s + table_total t ≤ 2 ^ 40
    → ((g : GameView) (first second : List ℕ) → AreTallies g first s → AreTallies g second t → AreTallies g (first ++ second) u)
    → AreKept u × (table_total u ≡ table_total s + table_total t)
join-kept s t u kept-s kept-t one room made =
    let a = kept-s.of_some in
    let b = kept-t.of_some in
    let all = made a.game a.list b.list a.tallies (of-first s t a.game b.game a.list b.list one a.tallies b.tallies) in
    let names : length b.game.names ≡ length a.game.names =
    omega (arith, a.tallies.of_game.members, b.tallies.of_game.members, one.members) in
    let others : AreNonemptyCoalitions a.game b.list = subst (λ (n : ℕ). All (λ c. (0 < c) × (c < 2 ^ n)) b.list) names b.coalitions in
    let long = length-append a.list b.list in
    let first = total-is a.game a.list s a.tallies in
    let second = total-is b.game b.list t b.tallies in (
      kept (record {
        game = a.game;
        list = a.list ++ b.list;
        coalitions = All-append (λ c. (0 < c) × (c < 2 ^ length a.game.names)) a.list b.list a.coalitions others;
        few = omega (arith, first, second, long, room);
        tallies = all;
      }),
      omega (arith, first, second, long, total-is a.game (a.list ++ b.list) u all),
    )
