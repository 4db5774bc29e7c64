-- The checks of names and weights, each by itself.
use Rattle.std.specs.Prelude.{ℕ, not, List, position}
use Rattle.std.specs.List.{range_with_len}
use Rattle.council_game.specs.declared.fault.GameFault.TheVariants.{Name, SameName, Weight}
use Rattle.council_game.specs.Fault.{Done, refuse_at}
use Rattle.council_game.specs.Votes.{RuleView}
use Rattle.council_game.specs.Ranks.{places}
use Rattle.council_game.specs.Game.{is_name, is_repeat, is_heavy}

abbrev pub check_names : List (List ℕ) → Done
check_names names = refuse_at Name (position (λ name. not (is_name name)) names)

abbrev pub check_repeats : List (List ℕ) → Done
check_repeats names = refuse_at SameName (position (is_repeat names) (places names))

abbrev pub check_weights : List RuleView → ℕ → Done
check_weights rules n = refuse_at Weight (position (is_heavy rules) (range_with_len 0 n))
