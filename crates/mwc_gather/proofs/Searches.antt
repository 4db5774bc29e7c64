-- What the searches at functions may use.
use Rattle.std.proofs.{Common.zero-add, Common.length-take, Math.Seq.take-set-lt}
use Rattle.mwc_gather.proofs.Imports.{common_steps, list_any-append, or-false}
use Rattle.mwc_gather.proofs.Readings.{done_counts-append, ones-append}

pub ruleset for_add_word = (common_steps, done_counts-append, list_any-append, ones-append, or-false, zero-add)

pub ruleset for_give = (common_steps, length-take, take-set-lt)
