use Rattle.council_file.proofs.Weights.{after_closing_more}
use Rattle.council_file.proofs.bracket.weights_of.Goals as goal

pub returns-in-Some-next-2 : goal.returns-in-Some-next-2
returns-in-Some-next-2 c =
    after_closing_more c.args.scanner.now c.loop-weight.scanner c.number.new.self c.next.new.self _ c.loop-weight.weights.items
    c.in-Some.weight _ _ c.loop-weight.invariant c.in-Some.ensures c.in-Some-next.ensures.is c.in-Closing.is c.in-Some-next-2.ensures.is
