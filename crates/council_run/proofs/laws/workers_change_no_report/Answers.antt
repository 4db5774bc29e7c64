use Rattle.std.proofs.Common.{◌≡◌, ℕ, List, Option, Some, Ok, subst}
use Rattle.council_game.specs.Game.{GameView}
use Rattle.council_file.specs.{File.game_of, Reads.Gave}
use Rattle.council_report.specs.Outcome.{Writes}
use Rattle.council_run.proofs.laws.workers_change_no_report.Goals as goal

-- the bytes that a reader gave are a file of the same game as all its bytes
same-game : (bytes b1 b2 : List ℕ) (l1 a1 l2 a2 : Option (List ℕ)) (g h : GameView)
    → ((all given : List ℕ) (after : Option (List ℕ)) → Gave (Some all) after given → game_of given ≡ game_of all)
    → l1 ≡ Some bytes → l2 ≡ Some bytes → Gave l1 a1 b1 → Gave l2 a2 b2 → game_of b1 ≡ Ok g → game_of b2 ≡ Ok h → h ≡ g
same-game bytes b1 b2 l1 a1 l2 a2 g h law known also gave1 gave2 is1 is2 =
    let one = law bytes b1 a1 (rw known at gave1) in
    let two = law bytes b2 a2 (rw also at gave2) in
    cc

pub returns : goal.returns
returns g c = λ text bytes most limit r r2 s s2 v v2 w w2 n m known also first second.
    let same = same-game bytes first.1.0 second.1.0 _ _ _ _ first.0 second.0 c.known_bytes_give_their_game.ensures known also
    first.1.1 second.1.1 first.1.3 second.1.3 in (
      text first.0,
      first.3,
      subst (λ (x : GameView). Writes g.W.Sink.held g.W.Sink.is_write g.W.Sink.is_flush (text x) w w2 (Ok m)) same second.3,
    )
