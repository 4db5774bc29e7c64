use Rattle.council_report.proofs.Imports.{◌≡◌, ◌-◌, ◌≤◌, ℕ, subst, sym, ap, ◌∙◌, arith, bit_xor, w64, leading_zeros, common_steps}
use Rattle.council_report.proofs.Imports.{SameBefore}
use Rattle.council_report.proofs.Differences.{Differs, differs}
use Rattle.council_report.proofs.shared_line.first_difference.Goals as goal

-- the same of their masks
masks-differ : (n a b x y : ℕ) → x ≡ a → y ≡ b → Differs n a b (bit_xor a b) → Differs n a b (bit_xor x y)
masks-differ n a b x y first second = subst (Differs n a b) (ap (λ (u : ℕ). bit_xor u b) (sym first) ∙ ap (bit_xor x) (sym second))

-- the places before the first difference are the same
shared : (n a b x : ℕ) → Differs n a b x → (64 - leading_zeros w64 x ≤ n) × SameBefore n (n - (64 - leading_zeros w64 x)) a b
shared n a b x d = grind (arith, common_steps)

pub overflow_sub-result : goal.overflow_sub-result
overflow_sub-result c =
    let d = masks-differ c.args.members c.args.a c.args.b c.mask.result c.mask-2.result c.mask.ensures.same c.mask-2.ensures.same
    (differs c.args.members c.args.a c.args.b c.requires.few c.requires.a_below c.requires.b_below) in grind (arith, shared)

pub returns-clause-same : goal.returns-clause-same
returns-clause-same c =
    let d = masks-differ c.args.members c.args.a c.args.b c.mask.result c.mask-2.result c.mask.ensures.same c.mask-2.ensures.same
    (differs c.args.members c.args.a c.args.b c.requires.few c.requires.a_below c.requires.b_below) in grind (arith, shared)
