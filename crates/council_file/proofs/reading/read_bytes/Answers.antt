use Rattle.std.proofs.{Common.arith, lemmas.Grind.common_steps, lemmas.Result.err_from_is_err_and}
use Rattle.council_file.specs.Reads.{too_long}
use Rattle.council_file.proofs.Calls.{reading-more, reading-ended, reading-stops}
use Rattle.council_file.proofs.reading.read_bytes.Goals as goal

pub loop-bytes-preserved : goal.loop-bytes-preserved
loop-bytes-preserved g c = record {
  given = grind (arith, common_steps);
  most = grind (arith, common_steps);
  reads = λ end last rest. c.loop-bytes.invariant.reads end last
      (reading-more g.R.Source.is_read c.loop-bytes.reader c.read_some.new.reader last c.loop-bytes.bytes.items c.read_some.new.bytes.items
      c.in_ok-read_some.field-0 end (omega arith) (omega arith) c.in_ok-read_some.ensures.once rest);
}

pub returns-then-branch-eq0 : goal.returns-then-branch-eq0
returns-then-branch-eq0 g c = record {
  gave = grind (arith, common_steps);
  reads = c.loop-bytes.invariant.reads _ _
      (reading-ended g.R.Source.is_read c.loop-bytes.reader c.read_some.new.reader c.loop-bytes.bytes.items c.read_some.new.bytes.items
      c.in_ok-read_some.field-0 c.if-branch-eq0.true (omega arith) c.in_ok-read_some.ensures.once);
}

pub returns-clause-reads : goal.returns-clause-reads
returns-clause-reads g c = c.loop-bytes.invariant.reads _ _ (too_long c.loop-bytes.reader c.loop-bytes.bytes.items (omega arith))

pub returns-in_err-read_some-clause-reads : goal.returns-in_err-read_some-clause-reads
returns-in_err-read_some-clause-reads g c =
    let failed = err_from_is_err_and c.from_residual.result c.from_residual.ensures.1 in
    let reads = reading-stops g.R.Source.is_read g.R.Source.left c.args.reader.now c.loop-bytes.reader c.read_some.new.reader
    c.loop-bytes.bytes.items c.in_err-read_some.field-0.0 (omega arith) c.loop-bytes.invariant.reads c.in_err-read_some.ensures.stop in
    rw (failed.1, failed.2) reads
