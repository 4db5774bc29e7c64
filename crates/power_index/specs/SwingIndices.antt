-- Indices and measures that rest on swings, each a pair of a top and a bottom.
use Rattle.std.specs.Prelude.{ℕ, zero, suc, ◌-◌, ◌*◌, ◌^◌, length, sum_by}
use Rattle.std.specs.List.{range_with_len}
use Rattle.council_game.specs.Game.{GameView}
use Rattle.power_index.specs.Swings.{all_swings, swings, swings_of_size, winning_coalitions}

-- the Banzhaf index of member i: its share of all swings
unfoldable pub banzhaf : GameView → ℕ → ℕ × ℕ
banzhaf g i = (swings g i, all_swings g)

-- Penrose's measure of member i, or the absolute Banzhaf index: of the choices of the others, those
-- that leave the outcome to it
unfoldable pub penrose : GameView → ℕ → ℕ × ℕ
penrose g i = (swings g i, 2 ^ (length g.names - 1))

-- n!
unfoldable pub factorial : ℕ → ℕ
factorial zero = 1
factorial (suc n) = suc n * factorial n

-- the Shapley-Shubik index of member i: of all orders of the members, those in which the coalition
-- of those up to member i is a swing of it
unfoldable pub shapley_shubik : GameView → ℕ → ℕ × ℕ
shapley_shubik g i = (
  sum_by (λ s. swings_of_size g i s * (factorial (s - 1) * factorial (length g.names - s))) (range_with_len 1 (length g.names)),
  factorial (length g.names),
)

-- Coleman's power of the body to act: of all coalitions, those that win
unfoldable pub power_to_act : GameView → ℕ × ℕ
power_to_act g = (length (winning_coalitions g), 2 ^ length g.names)

-- Coleman's power of member i to prevent action: of the winning coalitions, its swings
unfoldable pub power_to_prevent : GameView → ℕ → ℕ × ℕ
power_to_prevent g i = (swings g i, length (winning_coalitions g))

-- Coleman's power of member i to initiate action: its swings over the losing coalitions
unfoldable pub power_to_initiate : GameView → ℕ → ℕ × ℕ
power_to_initiate g i = (swings g i, 2 ^ length g.names - length (winning_coalitions g))

-- all of member i: Banzhaf, Penrose, Shapley and Shubik, to prevent, to initiate
abbrev pub swing_indices : GameView → ℕ → (ℕ × ℕ) × (ℕ × ℕ) × (ℕ × ℕ) × (ℕ × ℕ) × (ℕ × ℕ)
swing_indices g i = (banzhaf g i, penrose g i, shapley_shubik g i, power_to_prevent g i, power_to_initiate g i)
