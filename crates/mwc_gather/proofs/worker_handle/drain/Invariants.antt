use Rattle.mwc_gather.proofs.Imports.{◌≡◌, ◌++◌, List, length, Word, AddsWords}
use Rattle.mwc_gather.proofs.worker_handle.drain.Given as goal

abbrev pub invariant-loop-word : goal.invariant-loop-word
invariant-loop-word l =
    (done : List Word) × (done ++ l.rest ≡ l.fn.rest) × AddsWords l.fn.builder done l.builder

abbrev pub decreases-loop-word : goal.decreases-loop-word
decreases-loop-word l = length l.rest
