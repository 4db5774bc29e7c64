use Rattle.mwc_walk.proofs.Imports.{◌≡◌, ◌<◌, ◌-◌, ◌∷◌, [], ℕ, suc, zero, slice_index, arith, lane_at}
use Rattle.mwc_walk.proofs.Steps.{sum-here, lane-here}
use Rattle.mwc_walk.proofs.cursor.Cursor.excess.Goals as goal

-- a number for each of four rules
of-four : (f : ℕ → ℕ) (a b c d i : ℕ) → a ≡ f 0 → b ≡ f 1 → c ≡ f 2 → d ≡ f 3 → i < 4 → slice_index (a ∷ b ∷ c ∷ d ∷ []) i ≡ f i
of-four f a b c d zero e0 e1 e2 e3 lt = e0
of-four f a b c d (suc zero) e0 e1 e2 e3 lt = e1
of-four f a b c d (suc (suc zero)) e0 e1 e2 e3 lt = e2
of-four f a b c d (suc (suc (suc zero))) e0 e1 e2 e3 lt = e3
of-four f a b c d (suc (suc (suc (suc i)))) e0 e1 e2 e3 lt = absurd (omega (arith, lt))

pub returns : goal.returns
returns c = λ i below.
    let here = lane-here c.requires i (omega (arith, below, c.requires.rules)) in
    let lanes = c.args.self.now.lanes in
    let each = of-four (λ r. (lane_at lanes r).sum - (lane_at lanes r).quota) _ _ _ _ i
    c.excess.ensures c.excess-2.ensures c.excess-3.ensures c.excess-4.ensures (omega (arith, below, c.requires.game.few_rules)) in
    omega (arith, each, sum-here c.requires i (omega (arith, below, c.requires.rules)), here.quota)
