use Rattle.std.proofs.Common.{◌≡◌, ◌<◌, ◌^◌, ℕ, length, take}
use Rattle.std.specs.List.{list_any}
use Rattle.council_game.specs.Members.{contains}
use Rattle.game_calls.specs.Named.{is_named}
use Rattle.game_calls.proofs.names.coalition_of_names.Given as goal

abbrev pub invariant-loop-name : goal.invariant-loop-name
invariant-loop-name l = record {
  members : (i : ℕ) → i < length l.game.names → contains l.game i l.coalition
      ≡ list_any (λ name. is_named l.game i name.now) (take l.name-index l.names);
  below : l.coalition < 2 ^ length l.game.names;
}
