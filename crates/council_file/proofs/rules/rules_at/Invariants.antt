use Rattle.std.proofs.Common.{◌≡◌, map}
use Rattle.std.specs.List.{range_with_len}
use Rattle.toml.specs.View.{table_view}
use Rattle.council_game.specs.Rules.{rule_views}
use Rattle.council_file.specs.File.{rule_from}
use Rattle.council_file.proofs.rules.rules_at.Given as goal

abbrev pub invariant-loop-r : goal.invariant-loop-r
invariant-loop-r l = rule_views l.rules.items ≡ map (rule_from (table_view l.table) l.n) (range_with_len 0 l.r)
