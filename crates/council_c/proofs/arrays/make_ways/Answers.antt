use Rattle.std.proofs.Common.{◌≡◌, ◌∙◌, IfOk, List, ℕ, map, subst, sym}
use Rattle.council_game.specs.Rules.{way_views}
use Rattle.council_c.specs.Arrays.{rules_of_mask}
use Rattle.council_c.proofs.Parts.{all-rules}
use Rattle.council_c.proofs.arrays.make_ways.Goals as goal

pub returns-else-name_ways : goal.returns-else-name_ways
returns-else-name_ways c =
    subst (λ (ms : List ℕ). IfOk c.ways_of_masks-else-name_ways.result (λ v. way_views v.items ≡ map rules_of_mask ms))
    (all-rules c.args.rules c.mask_of_all.result c.args.masks.now (sym c.name_ways.ensures ∙ c.if-name_ways.false) c.mask_of_all.ensures.mask
    c.mask_of_all.ensures.some) c.ways_of_masks-else-name_ways.ensures
