use Rattle.power_index.proofs.Imports.{◌≡◌, ℕ, ◌+◌, ◌++◌, List, take, GameView, AreOfOneGame, AreTallies, table_total}
use Rattle.power_index.proofs.counts.Counts.count_row.Given as goal

abbrev pub invariant-loop-coalition : goal.invariant-loop-coalition
invariant-loop-coalition l = record {
  game : AreOfOneGame l.initial.self l.self;
  total : table_total l.self ≡ table_total l.initial.self + l.coalition-index;
  tallies : (g : GameView) (list : List ℕ) → AreTallies g list l.initial.self → AreTallies g (list ++ take l.coalition-index l.row) l.self;
}
