use Rattle.council_report.proofs.Imports.{◌≡◌, ◌∙◌, ◌++◌, ◌+◌, ◌<◌, ◌≤◌, [], ◌∷◌, List, ℕ, zero, suc, arith, ap, length, get_or, take, flat_map, common_steps}
use Rattle.std.proofs.Common.{◌-◌, codes, drop, append-nil, append_assoc}
use Rattle.std.proofs.lemmas.{Grind.flat_map-append, List.take_more}
use Rattle.council_report.specs.Lines.{rules_of_way}
use Rattle.council_report.proofs.heading.push_more_ways.Goals as goal

-- one way more
more : (f : List ℕ → List ℕ) (ways : List (List ℕ)) (k : ℕ) → 1 ≤ k → k < length ways
    → flat_map f (take (k + 1 - 1) (drop 1 ways)) ≡ flat_map f (take (k - 1) (drop 1 ways)) ++ f (get_or ways k [])
more f [] k some lt = absurd (omega (arith, lt))
more f (way ∷ ways) zero some lt = absurd (omega (arith, some))
more f (way ∷ ways) (suc k) some lt =
    let one : suc k + 1 - 1 ≡ k + 1 = omega arith in
    let same : suc k - 1 ≡ k = omega arith in
    rw (one, same) (ap (flat_map f) (take_more ways k [] (omega (arith, lt))) ∙ flat_map-append f (take k ways) (get_or ways k [] ∷ [])
    ∙ ap (λ (t : List ℕ). flat_map f (take k ways) ++ t) (append-nil (f (get_or ways k []))))

pub loop-way-preserved : goal.loop-way-preserved
loop-way-preserved c =
    let text = more (λ way. codes " " ++ rules_of_way way) c.args.game.now.ways c.loop-way.way c.loop-way.auto.way
    (omega (arith, c.loop-way-test.true, c.ways-way-end.ensures.count)) in
    rw text (grind (arith, common_steps, append_assoc))
