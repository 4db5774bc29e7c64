-- The words of other libraries and of the definitions that two or more files of these proofs take.
pub use Rattle.council_game.specs.declared.report_lines.ReportLines.{ReportLines}
pub use Rattle.council_game.proofs.Shared.{Games.votes-are, Weights.weight-le}
pub use Rattle.council_game.specs.{Game.GameView, Game.IsGame, Game.votes_of, Votes.IsRule, Votes.rule_at, Votes.weight}
pub use Rattle.council_report.specs.{Inner.Lines.line_of_member, Inner.Lines.line_of_size, declared.game_numbers.GameNumbers.GameNumbers}
pub use Rattle.council_report.specs.{Inner.Ready.AppendsInRoom, Lines.names_of, Lines.with_tab, Report.coalition_lines, declared.output.Block.Block}
pub use Rattle.council_report.specs.Inner.Writing.{KeepsReady}
pub use Rattle.council_report.specs.Inner.SharedLine.{AreLabels, HasNoneFrom, IsLine, IsReadyLine, IsLabel, SameBefore}
pub use Rattle.council_report.specs.Inner.Written.{Calls, Ends, Progress, Advances, count_of, progress_of}
pub use Rattle.power_index.proofs.Shared.Members.{few-members}
pub use Rattle.power_index.specs.Tables.{table_of_member_size}
pub use Rattle.std.proofs.Common.{subst, suc, sym, take, take-append-drop, take_all, true, w64, zero, ℕ, ◌++◌, ◌+◌, ◌-◌, ◌<◌, ◌^◌, ◌∙◌, ◌∷◌}
pub use Rattle.std.proofs.Common.{false, flat_map, get_or, inl, inr, length, length-append, length-set, map, option_map, refl, slice_index}
pub use Rattle.std.proofs.Common.{Bool, List, None, Option, Some, [], ap, append-nil, append_assoc, arith, bit_xor, cond, decimal, drop}
pub use Rattle.std.proofs.Common.{Err, Ok, Result, ◌≡◌, ◌≤◌}
pub use Rattle.std.proofs.lemmas.{List.FromFn.get_or-range_with_len, List.FromFn.length-range_with_len, Result.err_from_is_err_and}
pub use Rattle.std.proofs.lemmas.{Bool.cases_lt, Bool.cond-true, Bool.Decides.nat_tests, Grind.common_steps, Grind.flat_map-append}
pub use Rattle.std.proofs.{Math.Seq.take-append-add, lemmas.List.length-map}
pub use Rattle.std.specs.{Int.leading_zeros, Io.KnownBytes.Appends, List.range_with_len}
unfoldable pub use Rattle.council_game.specs.Votes.{has}
unfoldable pub use Rattle.council_report.specs.Inner.SharedLine.{fields_of, places_before, weights_under}
unfoldable pub use Rattle.council_report.specs.{Inner.Lines.lines_of, Lines.coalition_line, Lines.member_line, Lines.size_line}
