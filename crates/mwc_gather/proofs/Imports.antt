-- The words of other libraries and of the definitions that two or more files of these proofs take.
pub use Rattle.council_game.specs.Game.{GameView, votes_of}
pub use Rattle.mwc_gather.specs.Inner.Scheduling.{AssignsInTurn, AssignsOneEach, WorkerView, IsFresh, HasNotFailed, TakesTurn, given_slices}
pub use Rattle.mwc_gather.specs.Inner.Holders.{AreAssigned, slices_from, slices_held_by, slices_by_worker, times_in}
pub use Rattle.mwc_gather.specs.Inner.WorkerHandles.{AllOf, CanEndWith, AssignsFirst, AssignsTo, IsOf, IsPartOfWorker, view_of, views_of}
pub use Rattle.mwc_gather.specs.Inner.PartBuilders.{Grows, AddsWords, IsBuilderOf, FailsOnlyWithoutRoom, fault_in_builder}
pub use Rattle.mwc_gather.specs.declared.fault.GatherFault.{GatherFault, TheVariants.Memory, TheVariants.TooMany}
pub use Rattle.mwc_gather.specs.{Inner.Gathering.IsComplete, Inner.Gathering.all_total, Inner.Gathering.slices_of, declared.worker_handle.WorkerHandle.WorkerHandle}
pub use Rattle.mwc_gather.specs.{Pieces.HasEnds, Slicing.Slicing, Slicing.slicing, declared.scheduler.Scheduler.Scheduler, declared.part_builder.PartBuilder.PartBuilder}
pub use Rattle.mwc_gather.specs.{Inner.Fault.first_of, Parts.HasPieces, Parts.part_slices, declared.part.Part.Part}
pub use Rattle.mwc_gather.specs.Inner.Sending.{SendsFirst, SendsSome, end_words, is_done, is_end}
pub use Rattle.mwc_gather.specs.Inner.Settled.{HasAllWords, IsPart, IsSentWhole, ends_from}
pub use Rattle.mwc_gather.specs.Wording.{IsCutSending, IsWholeSending, coalition_count, cut_words, open_words, slice_words, wording}
pub use Rattle.mwc_pipe.specs.declared.word.Word.{Word}
pub use Rattle.mwc_pipe.specs.declared.word.Word.TheVariants.{Done, End, One, Open}
pub use Rattle.mwc_walk.proofs.Shared.Joined.{slices-joined}
pub use Rattle.std.proofs.Common.{length-set, ltb, map, ne_eqb, refl, replicate, rules, set, subst, suc, sum_by, sym, take, take_all, true}
pub use Rattle.std.proofs.Common.{All, Bool, IsSome, List, None, Option, Some, [], ap, append-nil, append_assoc, arith, cond, count_by}
pub use Rattle.std.proofs.Common.{drop, eq-eqb, eqb, false, flat_map, get_or, if◌then◌else◌, inl, inr, is_some, length, length-append}
pub use Rattle.std.proofs.Common.{zero, ℕ, ◌++◌, ◌+◌, ◌-◌, ◌<◌, ◌||◌, ◌∙◌, ◌∷◌, ◌≡◌, ◌≤◌, ◌⊎◌}
pub use Rattle.std.proofs.lemmas.List.{FromFn.get_or-map-range_with_len, Sums.sum_by-append, Sums.sum_by-cons, Sums.sum_by_push}
pub use Rattle.std.proofs.{Math.Bool.or-false, Math.Bool.or-true, lemmas.Bool.Decides.nat_tests, lemmas.List.Folds.list_any-append}
pub use Rattle.std.proofs.lemmas.{Bool.false≢true, Grind.common_steps}
pub use Rattle.std.proofs.lemmas.List.{flat_map_more, get_or-map, length-map, map-append, map-set, map_push, take_more}
pub use Rattle.std.proofs.lemmas.List.Elements.{All-head, All-push, All-tail, All-weaker}
pub use Rattle.std.specs.{List.AllZip, List.list_any, List.range_with_len, List.Sorted.IsStrictlyIncreasing, Vec.Iter.into_iter_items}
pub use mathlib.Core.List.{IsPrefix}
unfoldable pub use Rattle.mwc_gather.specs.Sending.{sending}
