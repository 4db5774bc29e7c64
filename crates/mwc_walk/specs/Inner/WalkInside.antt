-- A walk by its fields.
use Rattle.std.specs.Prelude.{◌≡◌, true, IfSome}
use Rattle.council_game.specs.Game.{votes_of}
use Rattle.mwc_walk.specs.declared.walk.Walk.TheInside.{Inside}
use Rattle.mwc_walk.specs.WalkView.{WalkView}
use Rattle.mwc_walk.specs.Inner.Cursor.{CursorIs, rest_of_slice}
use Rattle.mwc_walk.specs.Inner.Prices.{ArePrices}

abbrev pub walk_view : Inside → WalkView
walk_view w = record {
  votes = votes_of w.game.now;
  bits = w.cursor.bits;
  number = w.cursor.number;
  to_come = rest_of_slice (votes_of w.game.now) w.cursor;
  visits = w.cursor.visits;
}

-- under one rule no descent is under way between two calls
pub record IsInside (w : Inside) : Type 0 where
  pub cursor : CursorIs (votes_of w.game.now) w.cursor
  pub prices : IfSome w.prices (ArePrices (votes_of w.game.now))
  pub rests : w.cursor.rules ≡ 1 → w.cursor.fresh ≡ true → w.cursor.place ≡ w.cursor.bits
