use Rattle.council_game.proofs.Imports.{◌∙◌, ap, are_ways, way_views, sym, ℕ}
use Rattle.council_game.proofs.Shared.{Ways.held-way, WinningByPlaces.count-rules}
use Rattle.council_game.proofs.winning.wins.Goals as goal

pub meets-requires-clause-way : goal.meets-requires-clause-way
meets-requires-clause-way c =
    let ways = ap (λ (n : ℕ). are_ways n (way_views c.args.ways.now)) (sym (count-rules c.args.rules.now)) ∙ c.requires.ways in
    held-way _ c.args.ways.now c.loop-way.way-index c.way-item.result ways c.loop-way-test.true c.way-item.is
