use Rattle.std.proofs.Common.{◌∙◌, List, ap, length, sym}
use Rattle.std.proofs.lemmas.List.{FromFn.length-map-range_with_len}
use Rattle.council_c.specs.Asked.{asks_swings, ways_of}
use Rattle.council_c.specs.Numbers.{numbers}
use Rattle.council_c.specs.declared.results.CouncilMember.{CouncilMember}
use Rattle.council_c.proofs.Parts.{members-of-arrays}
use Rattle.council_c.proofs.call.council_indices_raw.Goals as goal

pub copy_from_slice-requires : goal.copy_from_slice-requires
copy_from_slice-requires c =
    let found = c.in-Ok.ensures.ok.1 in
    sym (ap (λ (l : List CouncilMember). length l) (c.deref.ensures.value ∙ found.2)
    ∙ length-map-range_with_len (numbers (asks_swings c.args.options.now) found.0) 0 (length found.0.names)
    ∙ members-of-arrays c.args.quotas.now c.args.weights.now (length c.args.results.now) (ways_of c.args.options.now) found.0 found.1)
