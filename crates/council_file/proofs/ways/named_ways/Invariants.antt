use Rattle.std.proofs.Common.{◌≡◌, map, take}
use Rattle.toml.specs.View.{view}
use Rattle.council_game.specs.Rules.{way_views}
use Rattle.council_file.specs.File.{way_from}
use Rattle.council_file.proofs.ways.named_ways.Given as goal

abbrev pub invariant-loop-value : goal.invariant-loop-value
invariant-loop-value l = way_views l.ways.items ≡ map way_from (map view (take l.value-index l.value-items))
