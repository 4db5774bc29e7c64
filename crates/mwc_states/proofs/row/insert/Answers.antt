use Rattle.mwc_states.proofs.Imports.{◌∙◌, ◌&&◌, not, get_or, ap, rules, meets, misses_all}
use Rattle.std.proofs.{Common.tests, lemmas.Fn.filter_same}
use Rattle.mwc_states.proofs.Leaving.{misses_all-filter, misses_all-insert}
use Rattle.mwc_states.proofs.row.insert.Goals as goal

pub returns : goal.returns
returns c weights =
    let kept = filter_same _ (λ row. not (meets (λ r. get_or row r 0) c.args.miss.now)) _ (λ x b q k. search (rules, tests)) _ _ c.retain.ensures.filtered in
    ap (misses_all weights) c.in_ok-insert.ensures.items ∙ misses_all-insert weights c.args.miss.now c.retain.new.self.items c.partition_point-at.result
    ∙ ap (λ rows. misses_all weights rows && not (meets weights c.args.miss.now)) kept
    ∙ misses_all-filter weights c.args.miss.now c.args.rows.now.items
