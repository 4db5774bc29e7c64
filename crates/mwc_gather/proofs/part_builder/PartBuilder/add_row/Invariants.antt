use Rattle.mwc_gather.proofs.Imports.{◌≡◌, take, length, list_any, AddsWords, Grows, FailsOnlyWithoutRoom, is_done, is_end}
use Rattle.std.proofs.Common.{false, ◌+◌, ◌-◌, ◌≤◌, vec_len, vec_capacity}
use Rattle.mwc_gather.proofs.part_builder.PartBuilder.add_row.Given as goal

abbrev pub invariant-loop-word : goal.invariant-loop-word
invariant-loop-word l =
    record {
      added : AddsWords l.fn.self (take l.word-index l.row) l.self;
      room : l.self.out_of_memory ≡ false → vec_len l.self.got + (length l.row - l.word-index) ≤ vec_capacity l.self.got;
      grows : Grows l.fn.self l.word-index l.self;
      full : FailsOnlyWithoutRoom l.fn.self (length l.row) l.self;
      done : l.signals.done ≡ list_any is_done (take l.word-index l.row);
      end : l.signals.end ≡ list_any is_end (take l.word-index l.row);
    }
