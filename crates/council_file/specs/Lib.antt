pub use Rattle.council_game.specs.Fault
pub use Rattle.council_game.specs.Game
pub use Rattle.council_game.specs.Votes
pub mod Bracket
pub mod File
pub mod Reads
pub mod Laws
pub mod Inner
