use Rattle.std.proofs.Common.{◌≡◌, ◌≤◌, ◌∙◌, List, ℕ, arith, sym, ap, length, true, false}
use Rattle.council_game.specs.{Rules.way_views, Ways.are_ways}
use Rattle.council_c.proofs.Parts.{many-members, no-member, wrong-ways}
use Rattle.council_c.proofs.arrays.game_of_arrays.Goals.{then-arrays-lt1-via-then-arrays-lt1, then-arrays-lt1-via-else-arrays-lt1+then-arrays-gt-MEMBERS}
use Rattle.council_c.proofs.arrays.game_of_arrays.Goals as goal

pub returns-then-not-are_ways : goal.returns-then-not-are_ways
returns-then-not-are_ways c =
    let are = ap (λ (ways : List (List ℕ)). are_ways (length c.args.arrays.now.quotas.now) ways) (ap way_views c.deref.ensures.value ∙ c.in_ok-ways.ensures) in
    wrong-ways c.args.arrays.now.quotas.now c.args.arrays.now.weights.now c.args.arrays.now.members c.args.masks.now
    (omega (arith, c.if-count-lt1.false)) (omega (arith, c.if-count-gt-RULES.false))
    (sym are ∙ sym c.if-not-are_ways.ensures)

pub returns-then-arrays-lt1 : goal.returns-then-arrays-lt1
returns-then-arrays-lt1 c =
    let a = c.args.arrays.now in
    let are = ap (λ (ways : List (List ℕ)). are_ways (length a.quotas.now) ways) (ap way_views c.deref.ensures.value ∙ c.in_ok-ways.ensures) in
    let right = sym are ∙ sym c.if-not-are_ways.ensures in
    let some : 1 ≤ length a.quotas.now = omega (arith, c.if-count-lt1.false) in
    let few : length a.quotas.now ≤ 4 = omega (arith, c.if-count-gt-RULES.false) in
    elim c.then-arrays-lt1.branch [
      | then-arrays-lt1-via-then-arrays-lt1 w ↦
          no-member a.quotas.now a.weights.now a.members c.args.masks.now some few right w.if-arrays-lt1.true
      | then-arrays-lt1-via-else-arrays-lt1+then-arrays-gt-MEMBERS w ↦
          many-members a.quotas.now a.weights.now a.members c.args.masks.now some few right w.if-arrays-gt-MEMBERS.true
    ]
