use Rattle.council_report.proofs.Imports.{◌≡◌, ◌∙◌, [], List, ℕ, ◌+◌, arith, ap, sym, length, map, get_or, length-map, common_steps}
use Rattle.std.proofs.lemmas.List.{get_or-map}
use Rattle.council_report.proofs.heading.push_way.Goals as goal

pub returns : goal.returns
returns c =
    let way : List ℕ = get_or c.args.game.now.ways c.args.way [] in
    let long : length (map (λ r. r + 1) way) ≡ length c.way-rules.result.now =
    length-map way (λ r. r + 1) ∙ ap (λ (w : List ℕ). length w) (sym c.way-rules.ensures.way) in
    let items = c.push_joined.ensures.items (map (λ r. r + 1) way) long
    (λ r v lt post.
    let read = get_or-map (λ r. r + 1) way r 0 0 (let size = length-map way (λ r. r + 1) in omega (arith, size, lt)) in
    grind (arith, read, post)) in
    grind (arith, common_steps, items)
