-- Coalitions counted one by one, as a walk gives them.
use Rattle.std.proofs.Common.{◌≡◌, ◌∙◌, ◌<◌, ◌≤◌, ◌+◌, ◌-◌, ◌*◌, ◌^◌, ℕ, List, [], ◌∷◌, ◌++◌, All, Option, Some, None, length, sym, ap, refl, arith, subst, append_assoc, append-nil, length-append}
use Rattle.std.proofs.Math.Nat.{mul-le-mul_left}
use Rattle.std.proofs.lemmas.List.{get_or_at, length-map}
use Rattle.std.specs.Option.{MatchOption, unwrap_or}
use Rattle.council_game.specs.{Contribution.by_contribution, Game.AreNonemptyCoalitions, Game.GameView, Game.IsGame, Game.votes_of, Ranks.rule_by_rank}
use Rattle.council_game.specs.Votes.{IsVotes, Votes, minimal_coalitions}
use Rattle.mwc_walk.specs.{Listed.ListsAll, Slices.slice, WalkView.WalkView, WalkView.given_count}
use Rattle.power_index.specs.Tables.{Tables, AreTallies, table_total}
use Rattle.power_index.proofs.Shared.{Minimal.minimal-are-coalitions, Minimal.minimal-some, Sound.total-is}
use Rattle.council_c.specs.Bounded.{IsTooLong}
use Rattle.council_c.specs.Inner.Calls.{IsListed}
use Rattle.council_c.specs.declared.bounded.Listed.{Listed}
use Rattle.council_c.specs.declared.bounded.Listed.TheVariants as listed
use Rattle.council_run.specs.Run.{count_of}

-- a walk over the whole of a game
module _ (g : GameView) (w : WalkView) (law : (v : Votes) → IsVotes v → slice v 0 0 ≡ minimal_coalitions v) (are : IsVotes (votes_of g))
    (votes : w.votes ≡ votes_of g) (bits : w.bits ≡ 0) (number : w.number ≡ 0) where
  -- is over all coalitions
  pub over-all : slice w.votes w.bits w.number ≡ minimal_coalitions (votes_of g)
  over-all = ap (λ (v : Votes). slice v w.bits w.number) votes ∙ ap (λ (k : ℕ). slice (votes_of g) k w.number) bits
      ∙ ap (λ (k : ℕ). slice (votes_of g) 0 k) number ∙ law (votes_of g) are

  -- makes at most as many visits as there are members for each set of them
  pub visits-end : (visits : ℕ) → visits ≤ w.bits + w.votes.members * 2 ^ w.votes.members → visits ≤ length g.names * 2 ^ length g.names
  visits-end visits most =
      let each : w.votes.members ≡ length g.names = ap (λ (v : Votes). v.members) votes in
      omega (arith, subst (λ (n : ℕ). visits ≤ w.bits + n * 2 ^ n) each most, bits)

  -- under one rule makes few visits
  pub few-visits : (visits : ℕ) → (length w.votes.rules ≡ 1 → visits ≤ w.bits + (w.votes.members - w.bits) * given_count w)
      → length g.rules ≡ 1 → visits ≤ length g.names * count_of g
  few-visits visits most one =
      let rules : length w.votes.rules ≡ 1 = ap (λ (v : Votes). length v.rules) votes ∙ length-map g.rules (rule_by_rank g.ranks) ∙ one in
      let each : w.votes.members ≡ length g.names = ap (λ (v : Votes). v.members) votes in
      let members : w.votes.members - w.bits ≡ length g.names = omega (arith, each, bits) in
      let all : length (slice w.votes w.bits w.number) ≡ count_of g = ap (λ (l : List ℕ). length l) over-all in
      let given : given_count w ≤ count_of g = omega (arith, all) in
      let bound : visits ≤ w.bits + length g.names * given_count w = subst (λ (k : ℕ). visits ≤ w.bits + k * given_count w) members (most rules) in
      let more : length g.names * given_count w ≤ length g.names * count_of g = mul-le-mul_left (length g.names) given in
      omega (arith, bound, more, bits)

  -- if it made so many visits, it is too long
  pub long-walk : (visits made : ℕ) → (length w.votes.rules ≡ 1 → made ≤ w.bits + (w.votes.members - w.bits) * given_count w)
      → made ≤ w.bits + w.votes.members * 2 ^ w.votes.members → visits ≤ w.visits → made ≡ w.visits → IsTooLong visits g
  long-walk visits made most ever long is =
      let all = visits-end made ever in (
        omega (arith, all, long, is),
        λ one. let few = few-visits made most one in omega (arith, few, long, is),
      )

-- c comes after those before it
module _ (g : GameView) (before after to_come : List ℕ) (c : ℕ) (is_game : IsGame g) (one : after ≡ before ++ c ∷ [])
    (whole : after ++ to_come ≡ minimal_coalitions (votes_of g)) where
  joined : before ++ c ∷ to_come ≡ minimal_coalitions (votes_of g)
  joined = sym (append_assoc before (c ∷ []) to_come) ∙ ap (λ (l : List ℕ). l ++ to_come) (sym one) ∙ whole

  -- it is a coalition of the game
  pub next-is : (0 < c) × (c < 2 ^ length g.names)
  next-is =
      let own : ℕ → Type 0 = λ c. (0 < c) × (c < 2 ^ length g.names) in
      let all = subst (All own) (sym joined) (minimal-are-coalitions g is_game) in
      let here = all (length before) c (omega (arith, length-append before (c ∷ to_come))) in
      rw (get_or_at before c to_come c (length before) refl) at here

  -- and there is room to count it
  pub next-room : (t : Tables) → count_of g ≤ 2 ^ 40 → AreTallies g before t → table_total t < 2 ^ 40
  next-room t few h = grind (arith, length-append, joined, total-is)

  -- there is one more than before it
  pub one-more : length before < count_of g
  one-more = grind (arith, length-append, joined)

-- the list of all of them
pub lists : (g : GameView) (most : ℕ) (list : List ℕ) → IsGame g → list ≡ minimal_coalitions (votes_of g) → length list ≤ most → ListsAll g most list
lists g most list is_game all few = record {
  all = all;
  some = subst (λ (l : List ℕ). 1 ≤ length l) (sym all) (minimal-some g is_game);
  few = few;
  coalitions = subst (AreNonemptyCoalitions g) (sym all) (minimal-are-coalitions g is_game);
}

-- what is listed stays so, if what is too long is too long in another sense
pub listed-so : (g : GameView) (most : ℕ) (Long Other : Type 0) → (Long → Other) → (l : Listed) → IsListed g most Long l → IsListed g most Other l
listed-so g most Long Other so (listed.All list) h = h
listed-so g most Long Other so listed.TooMany h = h
listed-so g most Long Other so listed.TooLong h = so h

-- at the end a walk gave all of them
pub ended : (whole front before to_come : List ℕ) → front ++ to_come ≡ whole → to_come ≡ [] → front ≡ before → before ≡ whole
ended whole front before to_come all none same = sym same ∙ sym (append-nil front) ∙ ap (λ (l : List ℕ). front ++ l) (sym none) ∙ all

-- the game in the order of contribution has the same members and rules
pub same-parts : (g : GameView) (o : Option GameView) (N : Type 0) → MatchOption o N (λ h. h ≡ by_contribution g)
    → ((unwrap_or o g).names ≡ g.names) × ((unwrap_or o g).rules ≡ g.rules)
same-parts g None N h = (refl, refl)
same-parts g (Some k) N h = (ap (λ (v : GameView). v.names) h, ap (λ (v : GameView). v.rules) h)

-- it is too long too
pub too-long : (g h : GameView) (visits : ℕ) → (h.names ≡ g.names) × (h.rules ≡ g.rules) → count_of h ≡ count_of g
    → IsTooLong visits h → IsTooLong visits g
too-long g h visits same count long =
    let members : length h.names ≡ length g.names = ap length same.0 in (
      subst (λ (n : ℕ). visits ≤ n * 2 ^ n) members long.0,
      λ one. subst (λ (n : ℕ). visits ≤ length g.names * n) count (subst (λ (n : ℕ). visits ≤ n * count_of h) members (long.1 (ap length same.1 ∙ one))),
    )
