use Rattle.power_index.proofs.Imports.{ℕ, ◌<◌, arith}
use Rattle.std.proofs.lemmas.List.Elements.{All-from_recursion}
use Rattle.power_index.proofs.index.IndexDisplay.fmt.Goals as goal

pub write_digits-requires : goal.write_digits-requires
write_digits-requires g c = record { ascii = All-from_recursion (λ (d : ℕ). d < 128) c.decimals.result (rw c.decimals.ensures (grind arith)) }
