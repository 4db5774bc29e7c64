use Rattle.mwc_states.proofs.Imports.{not, get_or, rules, meets}
use Rattle.std.specs.List.{list_any}
use Rattle.std.proofs.{Common.tests, lemmas.Fn.filter_same}
use Rattle.mwc_states.proofs.state.keep_alive.Goals as goal

pub returns : goal.returns
returns c =
    filter_same _ (λ need. not (list_any (λ row. meets (λ r. get_or need r 0) row) c.args.misses.now)) _ (λ x b q k. search (rules, tests)) _ _ c.retain.ensures.filtered
