use Rattle.std.proofs.Common.{ap, ◌/◌, ◌%◌, ◌-◌, ◌^◌, ◌==◌, ℕ}
use Rattle.council_game.specs.Coalitions.{has}
use Rattle.council_game.proofs.coalition.Coalition.has.Goals as goal

pub returns : goal.returns
unfolding has
returns c = ap (λ (m : ℕ). m / 2 ^ (c.args.members - 1 - c.args.place) % 2 == 1) c.self.view_is
