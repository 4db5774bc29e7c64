use Rattle.std.proofs.Common.{◌∙◌, length, get_or, ap, arith, pow_pos}
use Rattle.council_game.specs.Votes.{has}
use Rattle.council_game.proofs.Shared.Digits.{has-none}
use Rattle.game_calls.proofs.membership.outsiders.Goals as goal

pub loop-member-init : goal.loop-member-init
loop-member-init c = record {
  before = λ i lt. absurd (omega arith);
  after = λ i li le. ap (has (length c.args.game.now.names) (get_or c.args.game.now.ranks i 0)) c.none-outsiders.ensures ∙ has-none _ _;
  below = (let pos = pow_pos (length c.args.game.now.names) in omega (arith, pos, c.none-outsiders.ensures));
}
