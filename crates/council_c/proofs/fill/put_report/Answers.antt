use Rattle.std.proofs.Common.{ℕ, List, subst, ap, arith, length}
use Rattle.council_run.specs.{Columns.report_of, Findings.columns_of}
use Rattle.council_c.specs.Answer.{Shows}
use Rattle.council_c.proofs.fill.put_report.Goals.{in-Ok, in-Err-Write+in_ok-length-in-Err-Write}
use Rattle.council_c.proofs.Buffers.{shows-beginning}
use Rattle.council_c.proofs.fill.put_report.Goals as goal

pub returns-clause-text : goal.returns-clause-text
returns-clause-text c =
    let shown = subst (λ (l : List ℕ). Shows l c.args.room.now c.put.new.room) c.bytes-2.ensures c.put.ensures in
    elim c.match-write.branch [
      | in-Ok w ↦ subst (λ (l : List ℕ). Shows l c.args.room.now c.put.new.room)
          (rw c.new-page.ensures.bytes at w.in-Ok.ensures.1) shown
      | in-Err-Write+in_ok-length-in-Err-Write w ↦
          let fell = rw w.in-Err-Write.field-0-is at w.in-Err-Write.ensures in
          shows-beginning _ (report_of (columns_of c.args.found.now) c.args.lines c.args.game.now) c.args.room.now c.put.new.room _ fell.0
          (rw c.new-page.ensures.bytes at fell.1)
          (omega (arith, w.if-bytes-room.true, ap (λ (l : List ℕ). length l) w.bytes.ensures)) shown
    ]
