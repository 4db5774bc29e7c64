-- The numbers of a member with those of its swings.
use Rattle.std.proofs.Common.{◌≡◌, ℕ, refl, true}
use Rattle.council_game.specs.Game.{GameView}
use Rattle.power_index.specs.Fractions.{lowest_terms}
use Rattle.power_index.specs.SwingIndices.{banzhaf, penrose, power_to_initiate, power_to_prevent, shapley_shubik}
use Rattle.power_index.specs.Swings.{swings}
use Rattle.council_c.specs.Numbers.{in_words, minimal_numbers, numbers}
use Rattle.council_c.specs.declared.results.CouncilFraction.{CouncilFraction}
use Rattle.council_c.specs.declared.results.CouncilMember.{CouncilMember}

pub with-swings : (g : GameView) (i : ℕ) (m : CouncilMember) (s : ℕ) (b p h v n : CouncilFraction) → m ≡ minimal_numbers g i → s ≡ swings g i
    → b ≡ in_words (lowest_terms (banzhaf g i)) → p ≡ in_words (lowest_terms (penrose g i)) → h ≡ in_words (lowest_terms (shapley_shubik g i))
    → v ≡ in_words (lowest_terms (power_to_prevent g i)) → n ≡ in_words (lowest_terms (power_to_initiate g i))
    → record m { swings = s; banzhaf = b; penrose = p; shapley_shubik = h; prevent = v; initiate = n } ≡ numbers true g i
with-swings g i m s b p h v n numbers-are swings-are banzhaf-is penrose-is shapley-is prevent-is initiate-is =
    rw (numbers-are, swings-are, banzhaf-is, penrose-is, shapley-is, prevent-is, initiate-is) refl
