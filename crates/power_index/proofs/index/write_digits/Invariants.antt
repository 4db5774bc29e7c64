use Rattle.power_index.proofs.Imports.{take}
use Rattle.std.specs.Fmt.{HasWritten, IsPlainFormatter}
use Rattle.power_index.proofs.index.write_digits.Given as goal

abbrev pub invariant-loop-digit : goal.invariant-loop-digit
invariant-loop-digit g l =
    IsPlainFormatter l.initial.f → HasWritten g.W.Write.write_str_gives l.initial.f (take l.digit-index l.fn.digits) l.f
