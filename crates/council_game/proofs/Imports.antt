-- The words of other libraries and of the definitions that two or more files of these proofs take.
pub use Rattle.council_game.proofs.Shared.Digits.{digit-kept, has-none}
pub use Rattle.council_game.specs.Game.{GameView, IsGame, first_weights, has_bad_quota, is_heavy, is_name, is_repeat, ranked_by_first, total, votes_of}
pub use Rattle.council_game.specs.{Inner.Along.rule_along, Inner.Along.weights_at, Inner.View.game_view, Rules.rule_view, Rules.rule_views}
pub use Rattle.council_game.specs.{Inner.Held.votes, Rules.way_view, Rules.way_views, declared.rule.Rule.Rule, declared.way.Way.Way}
pub use Rattle.council_game.specs.Ranks.{member_at, members_by_rank, outranks, places, rank_place, rank_places, rule_by_rank}
pub use Rattle.council_game.specs.Votes.{IsRule, IsVotes, RuleView, Votes, meets_quota, places_of, rule_at}
pub use Rattle.council_game.specs.Ways.{are_ways, is_way}
pub use Rattle.std.proofs.Common.{string_bytes, subst, suc, sum, sum_by, sym, take, true, zero, ℕ, ◌%◌, ◌*◌, ◌++◌, ◌+◌, ◌-◌, ◌/◌, ◌<◌, ◌==◌}
pub use Rattle.std.proofs.Common.{All, AllPairs, Bool, IsPermutation, List, Ok, Option, [], ap, append-nil, arith, cond, count_by, eq-eqb}
pub use Rattle.std.proofs.Common.{false, filter, get_or, inl, inr, length, map, min, ne_eqb, not, position, pow_pos, refl, slice_index}
pub use Rattle.std.proofs.Common.{◌^◌, ◌||◌, ◌∙◌, ◌∷◌, ◌≡◌, ◌≢◌, ◌≤◌}
pub use Rattle.std.proofs.lemmas.Bool.{and_from, and_parts, both_ways, cases_Bool, cases_eq, cases_lt, cond-false, cond-true}
pub use Rattle.std.proofs.lemmas.Bool.{false_from_ne_true, not-false, or_parts}
pub use Rattle.std.proofs.lemmas.List.{FromFn.fill_by_all, FromFn.get_or-range_with_len, FromFn.length-range_with_len, Kept.AllPairs-cons}
pub use Rattle.std.proofs.lemmas.{Bool.Decides.nat_tests, Grind.common_steps, List.Sorted.All-permutation, List.Sorted.sum_by-IsPermutation}
pub use Rattle.std.proofs.lemmas.Nat.{mul-le, Bits.bit_at-lt}
pub use Rattle.std.proofs.lemmas.List.{get_or-map, get_or_default, get_or_past, get_or_read, length-map, same_lists}
pub use Rattle.std.proofs.lemmas.List.Elements.{All-cons, All-from_recursion, All-nil, recursion_from_All}
pub use Rattle.std.proofs.lemmas.List.Sums.{fails_before_first, position_or_len_is, sum-map, sum_by-cons}
pub use Rattle.std.specs.List.{AllByRecursion, list_all, list_any, position_or_len, range_with_len}
unfoldable pub use Rattle.council_game.specs.{Game.made_game, Shared.Below.minimal_below}
unfoldable pub use Rattle.council_game.specs.Votes.{has, minimal, minimal_coalitions, weight, wins, without}
