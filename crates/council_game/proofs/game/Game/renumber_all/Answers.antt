use Rattle.std.proofs.Common.{rules, ◌≡◌, ◌-◌, ◌<◌, ◌^◌, length, get_or, ap, sym, ◌∙◌, arith, subst, pow_mono, IsPermutation, map, List, ℕ, ◌≤◌}
use Rattle.std.proofs.lemmas.List.{get_or-map, get_or_default, length-map, same_lists, Sorted.IsNonDecreasingBy-from_sort_by_key, Sorted.All-permutation}
use Rattle.council_game.specs.{Game.votes_of, Votes.minimal_coalitions}
use Rattle.council_game.proofs.{Resorted.resorted, Resorted.moved, Resorted.moved-is}
use Rattle.council_game.proofs.Shared.{Games.few-members, Listing.listing-is}
use Rattle.council_game.proofs.game.Game.renumber_all.Goals as goal

pub loop-place-init : goal.loop-place-init
loop-place-init c =
    let all = minimal_coalitions (votes_of c.args.self.now) in
    let listing = listing-is (votes_of c.args.self.now) c.was_checked.ensures.votes in
    let long = ap (λ (l : List ℕ). length l) c.requires.all in
    record {
      long = long;
      moved = λ k lt. absurd (omega arith);
      below = λ k lt. (let at = ap (λ (l : List ℕ). get_or l k 0) c.requires.all in
          let room = listing.below k 0 (omega (arith, long, lt)) in
          omega (arith, at, room));
      left = λ k from lt. ap (λ (l : List ℕ). get_or l k 0) c.requires.all;
    }

pub returns : goal.returns
returns c =
    let h = c.args.self.now in
    let g = c.args.other.now in
    let all = minimal_coalitions (votes_of h) in
    let is_h = c.was_checked.ensures.game in
    let is_g = c.was_checked-2.ensures.game in
    let go = moved h g is_h is_g c.requires.names c.requires.rules c.requires.ways in
    let loop = c.loop-place.invariant in
    let same : c.loop-place.list ≡ map go all =
    same_lists c.loop-place.list (map go all) (loop.long ∙ sym (length-map all go))
    (λ k d lt.
    get_or_default c.loop-place.list k d 0 lt
    ∙ sym (moved-is h g is_h is_g c.requires.names c.requires.rules c.requires.ways (get_or all k 0) (get_or c.loop-place.list k 0) (loop.below k lt)
    (loop.moved k (omega (arith, c.loop-place-test.false, lt))))
    ∙ sym (get_or-map go all k 0 d (omega (arith, loop.long, lt)))) in
    let falls = IsNonDecreasingBy-from_sort_by_key (λ m. 2 ^ 64 - 1 - m) _ c.sort_unstable_by_key.ensures.sorted (λ a r q k. search rules) in
    resorted h g is_h is_g c.requires.names c.requires.rules c.requires.ways c.sort_unstable_by_key.new.self
    (subst (λ (l : List ℕ). IsPermutation l c.sort_unstable_by_key.new.self) same c.sort_unstable_by_key.ensures.permutation)
    (λ i j le lt.
    let room : 2 ^ length h.names ≤ 2 ^ 40 = pow_mono (few-members h is_h) in
    let below = All-permutation (λ m. m < 2 ^ length h.names) c.loop-place.list c.sort_unstable_by_key.new.self
    c.sort_unstable_by_key.ensures.permutation
    (λ k d lk. let same = get_or_default c.loop-place.list k d 0 lk in omega (arith, same, loop.below k lk)) i 0 (omega (arith, le, lt)) in
    omega (arith, room, below, falls i j 0 le lt))
