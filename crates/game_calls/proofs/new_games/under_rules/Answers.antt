use Rattle.std.proofs.lemmas.Bool.Decides.{nat_tests}
use Rattle.std.proofs.Common.{arith}
use Rattle.std.proofs.Common.{◌≡◌, ◌∙◌, ℕ, List, length, Result, Ok, Err, IfOk, ap, sym}
use Rattle.std.proofs.lemmas.List.{length-map}
use Rattle.council_game.specs.{Fault.Answers, Game.GameView, Game.made_game, Game.ranked_by_first, Votes.RuleView, Ways.one_way}
use Rattle.council_game.specs.declared.fault.GameFault.{GameFault}
use Rattle.game_calls.specs.Quotas.{under_rules}
use Rattle.game_calls.proofs.Parts.{IsMadeOf}
use Rattle.game_calls.proofs.new_games.under_rules.Goals as goal

if-made : (g : GameView) (rules : List RuleView) (n : ℕ) (r : Result GameView GameFault) → length rules ≡ n
    → Answers r (made_game g.title g.names rules (one_way n)) → IsMadeOf → IfOk r (λ made. made ≡ under_rules g rules)
if-made g rules n (Ok made) count h law = law g.title g.names rules (one_way n) made h ∙ ap (λ (k : ℕ). ranked_by_first (record g { rules = rules; ways = one_way k })) (sym count)
if-made g rules n (Err fault) count h law = tt

pub returns-clause-game : goal.returns-clause-game
returns-clause-game c = grind (arith, nat_tests, if-made, length-map)
