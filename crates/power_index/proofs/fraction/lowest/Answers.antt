use Rattle.power_index.proofs.{Quotients.gcd-pos, Shared.LowestTerms.divided-is_lowest, Shared.LowestTerms.divided-is_terms}
use Rattle.power_index.proofs.fraction.lowest.Goals as goal

pub nonzero_div-result : goal.nonzero_div-result
nonzero_div-result c = gcd-pos _ _ _ c.requires c.gcd-divisor.ensures

pub nonzero_div-result-2 : goal.nonzero_div-result-2
nonzero_div-result-2 c = gcd-pos _ _ _ c.requires c.gcd-divisor.ensures

pub returns-clause-lowest : goal.returns-clause-lowest
returns-clause-lowest c = divided-is_lowest _ _ _ c.requires c.gcd-divisor.ensures

pub returns-clause-terms : goal.returns-clause-terms
returns-clause-terms c = divided-is_terms _ _ _ c.requires c.gcd-divisor.ensures
