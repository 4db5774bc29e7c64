use Rattle.council_game.specs.{Game.votes_of, Votes.minimal_coalitions}
use Rattle.council_run.proofs.found.Found.write.Given as goal

abbrev pub ghost-write_report_of : goal.ghost-write_report_of
ghost-write_report_of g a = minimal_coalitions (votes_of a.game.now)
