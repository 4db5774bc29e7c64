use Rattle.std.proofs.lemmas.Bool.Decides.{nat_tests}
use Rattle.council_report.proofs.Imports.{arith, length, flat_map, line_of_size, progress_of, range_with_len, subst, take, true, Advances, ℕ, ◌≡◌, ◌+◌, ◌-◌}
use Rattle.council_report.proofs.{Bounds.size-fits, Telling.line-counts, Telling.puts-line}
use Rattle.council_report.proofs.Turns.{next-number, numbers-told, turn-told, turn-counts}
use Rattle.council_report.specs.{Inner.Numbers.AreSomeCounts, Sending.Sending}
use Rattle.council_report.proofs.stream.put_sizes.Goals as goal

pub settle-requires : goal.settle-requires
settle-requires g c =
    let S = Sending g.W.Sink.is_write g.W.Sink.is_flush in
    let game = c.args.numbers.now.game.now in
    let counts = c.in-Some.counts.now in
    let is : c.args.shown.sizes ≡ true = grind (arith, nat_tests) in
    let are : AreSomeCounts game counts = rw c.in-Some.is at c.args.numbers.now.counted in
    let next = next-number 1 (length game.names) (c.loop-size.size - 1) c.loop-size.size (omega arith) (omega arith) in
    line-counts _ c.loop-size.block c.push_size.new.out c.loop-size.invariant.ready (c.push_size.ensures game are.members)
    (size-fits game counts are c.loop-size.size (omega arith))
    (turn-counts S (line_of_size game counts) next c.loop-size.invariant.tells (rw (is, c.in-Some.is) at c.requires.counted))

pub loop-size-preserved : goal.loop-size-preserved
loop-size-preserved g c =
    let S = Sending g.W.Sink.is_write g.W.Sink.is_flush in
    let game = c.args.numbers.now.game.now in
    let counts = c.in-Some.counts.now in
    let are : AreSomeCounts game counts = rw c.in-Some.is at c.args.numbers.now.counted in
    let next = next-number 1 (length game.names) (c.loop-size.size - 1) c.loop-size.size (omega arith) (omega arith) in
    let puts = puts-line S _ c.loop-size.writer c.settle.new.writer c.loop-size.block c.push_size.new.out c.settle.new.self c.loop-size.invariant.ready
    (c.push_size.ensures game are.members) (size-fits game counts are c.loop-size.size (omega arith)) c.settle.ensures.tells c.settle.ensures.ready in
    let same : c.loop-size.size - 1 + 1 ≡ c.loop-size.size + 1 - 1 = omega arith in
    let told = turn-told S (line_of_size game counts) next c.loop-size.invariant.tells puts.tells in
    record {
      tells = subst (λ (k : ℕ). Advances S (progress_of c.args.writer.now c.args.block.now) (progress_of c.settle.new.writer c.settle.new.self) (flat_map (line_of_size game counts) (take k (range_with_len 1 (length game.names))))) same told;
      ready = puts.ready;
    }

pub returns : goal.returns
returns g c =
    let S = Sending g.W.Sink.is_write g.W.Sink.is_flush in
    let game = c.args.numbers.now.game.now in
    let is : c.args.shown.sizes ≡ true = grind (arith, nat_tests) in
    rw (is, c.in-Some.is) (record {
      tells = numbers-told S (line_of_size game c.in-Some.counts.now) 1 (length game.names) (c.loop-size.size - 1) (omega arith)
          c.loop-size.invariant.tells;
      ready = c.loop-size.invariant.ready;
    })
