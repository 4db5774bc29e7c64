pub use Rattle.council_game.specs.Game
pub use Rattle.council_game.specs.Votes
pub use Rattle.mwc_walk.specs.Slices
pub use Rattle.power_index.specs.Tables
pub mod Inner
