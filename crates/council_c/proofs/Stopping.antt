-- Why a call stops.
use Rattle.std.proofs.Common.{◌≡◌, ℕ, List, Option, Ok, refl}
use Rattle.council_game.specs.Game.{GameView}
use Rattle.mwc_gather.specs.declared.fault.GatherFault.{GatherFault}
use Rattle.mwc_gather.specs.declared.fault.GatherFault.TheVariants as gather
use Rattle.council_run.specs.{Run.Holds, Shared.Finding.IsNoFinding}
use Rattle.council_run.specs.declared.columns.Columns.{Columns}
use Rattle.council_run.specs.declared.fault.Cause.{Cause}
use Rattle.council_run.specs.declared.fault.Cause.TheVariants as cause
use Rattle.council_c.specs.Answer.{StopsOn}

-- what it shows was not found
pub stops-on : (columns : Columns) (limit : Option ℕ) (bytes : List ℕ) (g : GameView) (why : Cause) → Holds bytes (Ok g)
    → IsNoFinding columns limit g why → ((other : GatherFault) → why ≡ cause.Gather other → other ≡ gather.TooMany)
    → StopsOn columns limit bytes why
stops-on columns limit bytes g (cause.Game fault) holds h many = absurd h
stops-on columns limit bytes g (cause.Gather gather.TooMany) holds h many = (g, holds, h)
stops-on columns limit bytes g (cause.Gather fault) holds h many = let same = many fault refl in cc
stops-on columns limit bytes g cause.Write holds h many = absurd h
stops-on columns limit bytes g cause.Memory holds h many = (g, holds)
stops-on columns limit bytes g cause.States holds h many = (g, holds, h)
