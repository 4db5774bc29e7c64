use Rattle.std.proofs.Common.{◌≡◌, ◌<◌, ℕ, map}
use Rattle.std.specs.List.{range_with_len}
use Rattle.council_game.proofs.memory.list_from_fn.Given as goal

abbrev pub invariant-loop-place : goal.invariant-loop-place
invariant-loop-place g l = (f : ℕ → g.row.T.Denot) → ((i : ℕ) (x : g.row.T.Denot) → i < l.count → goal.F-post g l.made i x → x ≡ f i)
    → l.list.items ≡ map f (range_with_len 0 l.place)
