-- The words of other libraries and of the definitions that two or more files of these proofs take.
pub use Rattle.council_game.specs.{Coalitions.has, Coalitions.size, declared.limits.TheConstants.RULES}
pub use Rattle.council_game.specs.Game.{votes_of}
pub use Rattle.mwc_states.specs.Inner.Counting.{IsWithin, count_at, with_fewer, with_later, worth}
pub use Rattle.mwc_states.specs.declared.{choices.Choices.Choices, state.What.TheVariants.ByWays, state.What.TheVariants.Minimal, state.What.TheVariants.Winning}
pub use Rattle.mwc_states.specs.Inner.{States.fits, States.misses_all, States.needs_each, Tables.AreDecided, Tables.IsLevel, Tables.Leads}
pub use Rattle.mwc_states.specs.Inner.{Games.AreRowsOf, Graphs.IsBuilding, Graphs.IsGraphOf, Links.link_at, Links.lists, Links.rows_at}
pub use Rattle.mwc_states.specs.{Inner.Later.IsTotal, Inner.Later.weigh_able, Inner.Sets.MOST, declared.state.What.What}
pub use Rattle.mwc_states.specs.Inner.Sums.{AddsMember, AreLowered, AreSums, row_at}
pub use Rattle.std.proofs.Common.{refl, rules, set, subst, suc, sum_by, sym, take, true, zero, zero-add, ℕ, ◌&&◌, ◌*◌, ◌++◌, ◌+◌, ◌-◌, ◌<◌}
pub use Rattle.std.proofs.Common.{get_or-set_same, inl, inr, leb, length, length-append, length-drop, length-set, ltb, map, max, min, not}
pub use Rattle.std.proofs.Common.{All, Bool, List, [], ap, arith, cond, drop, drop-cons, false, filter, get_or, get_or-set_other}
pub use Rattle.std.proofs.Common.{◌==◌, ◌^◌, ◌∙◌, ◌∷◌, ◌≡◌, ◌≤◌}
pub use Rattle.std.proofs.lemmas.Bool.{and_parts, both_ways, cases_eq, cases_lt, false_from_ne_true, not-true}
pub use Rattle.std.proofs.lemmas.List.{FromFn.get_or-range_with_len, Sums.sum_by-cons, Sums.sum_by_more, Sums.sum_by_more_le}
pub use Rattle.std.proofs.lemmas.{Bool.Decides.nat_tests, Grind.common_steps, List.Folds.list_all-map}
pub use Rattle.std.proofs.lemmas.List.{get_or-map, get_or_append_left, get_or_past, get_or_push, length-map, map-append}
pub use Rattle.std.specs.List.{list_all}
unfoldable pub use Rattle.council_game.specs.Votes.{down, minimal_coalitions, weight}
unfoldable pub use Rattle.mwc_states.specs.Inner.{Links.accepts, States.completes}
unfoldable pub use Rattle.mwc_states.specs.Inner.Sets.{count_sets, meets, weigh, without_one}
unfoldable pub use Rattle.power_index.specs.Swings.{winning_coalitions}
