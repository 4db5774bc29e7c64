use Rattle.council_game.proofs.Imports.{◌≡◌, ◌≤◌, ◌++◌, ◌^◌, minimal_coalitions, minimal_below, votes_of}
use Rattle.council_game.proofs.winning.plain_list.Given as goal

abbrev pub invariant-loop-mask : goal.invariant-loop-mask
invariant-loop-mask l = record {
  range : l.mask ≤ 2 ^ 20;
  done : l.list.items ++ minimal_below (votes_of l.game) l.mask ≡ minimal_coalitions (votes_of l.game);
}
