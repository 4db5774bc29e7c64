-- What a game is made of.
use Rattle.std.proofs.Common.{◌≡◌, ℕ, Bool, false, List, Option, None, Ok}
use Rattle.council_game.specs.{Fault.◌>>=◌, Fault.refuse, Fault.refuse_at, Ranks.rank_places, Votes.RuleView}
use Rattle.council_game.specs.declared.fault.GameFault.TheVariants.{Title, Ways, Members, Name, SameName, Weight, QuotaRange}
use Rattle.council_game.specs.Game.{GameView, first_weights}
unfoldable pub use Rattle.council_game.specs.Game.{made_game}

checks-made : (title ways count : Bool) (name repeat weight : Option ℕ) (quota : Bool) (made g : GameView)
    → (refuse title Title >>= (λ _. refuse ways Ways >>= (λ _. refuse count Members >>= (λ _. refuse_at Name name >>=
    (λ _. refuse_at SameName repeat >>= (λ _. refuse_at Weight weight >>= (λ _. refuse quota QuotaRange >>= (λ _. Ok made)))))))) ≡ Ok g
    → g ≡ made
checks-made false false false None None None false made g h = cc
checks-made title ways count name repeat weight quota made g h = absurd (cc)

-- a game that is made has the parts that it is made of
abbrev pub IsMadeOf : Type 0
IsMadeOf = (title : Option (List ℕ)) (names : List (List ℕ)) (rules : List RuleView) (ways : List (List ℕ)) (g : GameView) → made_game title names rules ways ≡ Ok g
    → g ≡ record { title = title; names = names; rules = rules; ways = ways; ranks = rank_places (first_weights rules) }

pub made-is : IsMadeOf
unfolding made_game
made-is title names rules ways g h = checks-made _ _ _ _ _ _ _ _ g h

pub ruleset made = (made-is)
