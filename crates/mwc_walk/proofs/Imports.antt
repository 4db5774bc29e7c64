-- The words of other libraries and of the definitions that two or more files of these proofs take.
pub use Rattle.council_game.proofs.Shared.Digits.{has-none, lowest-place}
pub use Rattle.council_game.proofs.Shared.{Listing.listing-is, Meanings.needs-each-member, Weights.weight-le, Weights.weight-without}
pub use Rattle.council_game.specs.Game.{votes_of}
pub use Rattle.council_game.specs.Votes.{IsRanked, IsRule, IsVotes, RuleView, Votes, rule_at, weight}
pub use Rattle.mwc_walk.specs.Inner.{Lanes.lane_at, Lanes.lane_with, Lanes.lane_without}
pub use Rattle.mwc_walk.specs.declared.{price.Price.Price, seek.Seek.TheVariants.End, seek.Seek.TheVariants.Found, seek.Seek.TheVariants.NotYet}
pub use Rattle.mwc_walk.specs.{declared.cursor.Cursor.Cursor, declared.lane.Lane.Lane}
pub use Rattle.mwc_walk.specs.Inner.{Prices.IsPrice, Prices.IsRow, Spared.ExcessIs, Spared.IsNeed, Spared.Tried}
pub use Rattle.mwc_walk.specs.Inner.Cursor.{CursorIs, IsPlace, SomeSteps, steps_left}
pub use Rattle.mwc_walk.specs.Inner.Places.{IsExcess, LaneIs, LanesStand, NothingBelow}
pub use Rattle.std.proofs.Common.{length-take, map, min, pow-add, pow_mono, pow_pos, refl, shr-shr, slice_index, subst, suc, sum, sym, take}
pub use Rattle.std.proofs.Common.{Bool, List, [], ap, append-nil, arith, below_more, drop, eq-eqb, eqb, eqb-true, false, filter, get_or}
pub use Rattle.std.proofs.Common.{get_or-drop, get_or-set_other, get_or-take, inl, inr, le-leb, leb, length, length-drop, length-set}
pub use Rattle.std.proofs.Common.{true, w64, zero, ℕ, ◌%◌, ◌*◌, ◌++◌, ◌+◌, ◌-◌, ◌/◌, ◌<◌, ◌^◌, ◌∙◌, ◌∷◌, ◌≡◌, ◌≤◌}
pub use Rattle.std.proofs.lemmas.Bool.{and_left, both_ways, cases_Bool, cases_eq, cases_lt, cond-false, cond-true, cond_both}
pub use Rattle.std.proofs.lemmas.Bool.{false_from_ne_true}
pub use Rattle.std.proofs.lemmas.List.{Elements.All-get_or, Elements.filter-append, Sums.list_all-from_AllPass, Sums.sum_by-take-drop}
pub use Rattle.std.proofs.lemmas.{Grind.common_steps, Grind.get_or-set_at, List.Edits.map_over_more, Nat.mul-le, Nat.Bits.bit_at_cat_low}
pub use Rattle.std.proofs.lemmas.Bool.Decides.{nat_tests}
pub use Rattle.std.proofs.lemmas.List.{drop_all, get_or-append_right, get_or-replicate, get_or_default, length-map}
pub use Rattle.std.specs.{Int.trailing_zeros, List.list_all, List.list_any}
unfoldable pub use Rattle.council_game.specs.Shared.Below.{minimal_below}
unfoldable pub use Rattle.council_game.specs.Votes.{down, has, minimal, minimal_coalitions, wins, without}
unfoldable pub use Rattle.mwc_walk.specs.Inner.Places.{in_slice, reaches, slice_below, wins_at}
unfoldable pub use Rattle.mwc_walk.specs.Slices.{slice}
