-- What writing a report does to its writer.
use Rattle.std.specs.Prelude.{◌≡◌, ◌≤◌, ℕ, List, [], length, take, Option, Result, Ok, Err}
use Rattle.std.specs.Io.KnownBytes.{Appends}
use Rattle.std.specs.declared.io.Error.{Error}
use Rattle.council_report.specs.declared.fault.ReportFault.{ReportFault}
use Rattle.council_report.specs.declared.fault.ReportFault.TheVariants.{Memory, Write}
use Rattle.council_report.specs.Sending.{Sending}

-- A text was written whole, or its first bytes; each call to the writer is one that `Sending`
-- allows. If memory ran out, there was no call.
abbrev pub Writes : {W : Type 0} → (W → Option (List ℕ)) → (W → List ℕ → Result ℕ Error → W → Type 0)
    → (W → Result (Unit {0}) Error → W → Type 0) → List ℕ → W → W → Result ℕ ReportFault → Type 0
Writes held is_write is_flush text first last (Ok count) =
    (count ≡ length text) × Appends (held first) (held last) text × Sending is_write is_flush first [] text 0 (Ok count) last
Writes held is_write is_flush text first last (Err Memory) = last ≡ first
Writes held is_write is_flush text first last (Err (Write written)) =
    (written ≤ length text) × Appends (held first) (held last) (take written text)
    × Sending is_write is_flush first [] text 0 (Err written) last
