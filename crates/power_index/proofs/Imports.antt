-- The words of other libraries and of the definitions that two or more files of these proofs take.
pub use Rattle.council_game.proofs.Shared.{Digits.lowest-place, Sums.sum-swap}
pub use Rattle.council_game.proofs.Shared.{Games.votes-are, Making.ranks-are}
pub use Rattle.council_game.specs.{Game.AreNonemptyCoalitions, Game.GameView, Game.IsGame, Votes.size}
pub use Rattle.power_index.specs.Counting.{contains, count_of_member, members, size_of}
pub use Rattle.power_index.specs.Fractions.{AreCoprime, IsLowestOf, SameFraction, unit_sum}
pub use Rattle.power_index.specs.{Indices.sizes_of_member, Inner.Tables.AreAdded, Inner.Tables.with_one}
pub use Rattle.power_index.specs.Tables.{table_deegan_packel, table_memberships, table_of_member, table_of_member_size, table_public_good}
pub use Rattle.power_index.specs.Tables.{AreCounts, AreOfOneGame, AreSizeCounts, AreSound, AreTallies, Tables, denominator}
pub use Rattle.power_index.specs.Tables.{table_total, total_of_sizes, weighted_sum}
pub use Rattle.std.proofs.Common.{All, Bool, List, [], ap, arith, cond, div-le_self, false, filter, get_or, inl, inr, length, length-append}
pub use Rattle.std.proofs.Common.{map, mod-lt, mul-le-mul, mul-pos, refl, replicate, subst, suc, sum_by, sym, take, true, zero, ℕ, ◌%◌}
pub use Rattle.std.proofs.Common.{◌&&◌, ◌*◌, ◌++◌, ◌+◌, ◌-◌, ◌/◌, ◌<◌, ◌==◌, ◌^◌, ◌∙◌, ◌∷◌, ◌≡◌, ◌≢◌, ◌≤◌}
pub use Rattle.std.proofs.lemmas.List.{FromFn.get_or-range_with_len, FromFn.length-range_with_len, Sums.length-filter, Sums.sum_by-cons}
pub use Rattle.std.proofs.lemmas.{Bool.cases_eq, Bool.cases_lt, Nat.Gcd.IsGcd-from_mod, Nat.Gcd.IsGcd-from_zero, Nat.Gcd.le_of_dvd}
pub use Rattle.std.proofs.{Math.Nat.div-add-mod, Math.Nat.eq_of_mul-eq-mul_right, lemmas.Bool.Decides.nat_tests, lemmas.List.Folds.fold-map}
pub use Rattle.std.proofs.lemmas.Grind.{common_steps}
pub use Rattle.std.specs.{Int.IsGcd, Int.◌∣◌, List.AllByRecursion, List.range_with_len}
unfoldable pub use Rattle.council_game.specs.Votes.{has}
unfoldable pub use Rattle.power_index.specs.{Fractions.lowest_terms, Indices.deegan_packel, Indices.public_good}
