use Rattle.mwc_gather.proofs.Imports.{◌≡◌, ℕ, ◌+◌, ◌<◌, List, All, coalition_count, slices_of, open_words, wording}
use Rattle.mwc_gather.proofs.worker.run_worker.Given as goal

abbrev pub invariant-loop : goal.invariant-loop
invariant-loop g l =
    (l.out.ring ≡ l.initial.out.ring)
    × (l.tasks.ring ≡ l.initial.tasks.ring)
    × (0 < l.left)
    × ((s : List ℕ) × (l.tasks.taken ≡ open_words s) × (l.out.accepted ≡ wording (slices_of l.job) s)
    × (coalition_count (slices_of l.job) s + l.left ≡ l.job.most + 1)
    × All (λ j. j < (slices_of l.job).slices) s)
