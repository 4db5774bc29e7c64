use Rattle.std.proofs.Common.{◌∙◌, ap}
use Rattle.council_c.specs.Numbers.{in_words}
use Rattle.council_c.proofs.Swinging.{with-swings}
use Rattle.council_c.proofs.numbers.member_numbers.Goals as goal

pub returns-in-Some : goal.returns-in-Some
returns-in-Some c =
    let g = c.args.game.now in
    let game = c.was_checked.ensures.game in
    let are = rw c.in-Some.is at c.requires.swings in
    rw c.in-Some.is
    (with-swings g c.args.member c.minimal_numbers-numbers.result c.of_member.result c.of.result c.of-in-Some.result c.of-in-Some-2.result c.of-in-Some-3.result c.of-in-Some-4.result
    c.minimal_numbers-numbers.ensures (c.of_member.ensures.swings g game are)
    (c.of.ensures ∙ ap in_words (c.banzhaf.ensures.terms g game are)) (c.of-in-Some.ensures ∙ ap in_words (c.penrose.ensures.terms g game are))
    (c.of-in-Some-2.ensures ∙ ap in_words (c.shapley_shubik.ensures.terms g game are))
    (c.of-in-Some-3.ensures ∙ ap in_words (c.power_to_prevent.ensures.terms g game are))
    (c.of-in-Some-4.ensures ∙ ap in_words (c.power_to_initiate.ensures.terms g game are)))
