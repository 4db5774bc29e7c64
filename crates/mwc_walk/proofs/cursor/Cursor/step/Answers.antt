use Rattle.mwc_walk.proofs.Imports.{◌≡◌, arith, length, votes_of}
use Rattle.council_game.proofs.Shared.Ways.{one-rule-one-way, ways-some}
use Rattle.mwc_walk.proofs.cursor.Cursor.step.Goals.{else-rules-gt1-via-then-rules-gt1+else-self-gt1, else-rules-gt1-via-else-rules-gt1}
use Rattle.mwc_walk.proofs.cursor.Cursor.step.Goals as goal

pub enter-requires-clause-one : goal.enter-requires-clause-one
enter-requires-clause-one c =
    let is = c.requires.is in
    elim c.else-rules-gt1.branch [
      | else-rules-gt1-via-then-rules-gt1+else-self-gt1 w ↦
          let some = ways-some (length (votes_of c.args.game.now).rules) c.args.game.now.ways is.game.ways in omega (arith, some.0, is.ways, w.if-self-gt1.false)
      | else-rules-gt1-via-else-rules-gt1 w ↦
          let one : length (votes_of c.args.game.now).rules ≡ 1 = omega (arith, c.requires.rules, is.game.has_rule, w.if-rules-gt1.false) in
          one-rule-one-way c.args.game.now.ways (rw one at is.game.ways)
    ]
