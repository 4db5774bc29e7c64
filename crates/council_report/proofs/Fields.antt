-- Fields pushed one after another.
use Rattle.council_report.proofs.Imports.{◌≡◌, ℕ, List, [], ◌∷◌, ◌++◌, decimal, flat_map, with_tab, sym, subst, arith, append-nil, append_assoc, length-append}
use Rattle.council_report.proofs.Imports.{flat_map-append, common_steps, Block, AppendsInRoom}
use Rattle.council_report.specs.Lines.{index_fields}

texts-then : (a b c : Block) (x y : List ℕ) → AppendsInRoom a b x → AppendsInRoom b c y → AppendsInRoom a c (x ++ y)
texts-then a b c x y first next = grind (arith, common_steps, length-append, append_assoc)

pub fields-then : (a b c : Block) (xs ys : List (List ℕ)) → AppendsInRoom a b (flat_map with_tab xs) → AppendsInRoom b c (flat_map with_tab ys)
    → AppendsInRoom a c (flat_map with_tab (xs ++ ys))
fields-then a b c xs ys first next =
    subst (AppendsInRoom a c) (sym (flat_map-append with_tab xs ys)) (texts-then a b c (flat_map with_tab xs) (flat_map with_tab ys) first next)

one-field : (a b : Block) (x : List ℕ) → AppendsInRoom a b (with_tab x) → AppendsInRoom a b (flat_map with_tab (x ∷ []))
one-field a b x h = subst (AppendsInRoom a b) (sym (append-nil (with_tab x))) h

pub index-is : (a b : Block) (p q : ℕ × ℕ) → p ≡ q → AppendsInRoom a b (flat_map with_tab (index_fields p))
    → AppendsInRoom a b (flat_map with_tab (index_fields q))
index-is a b p q is h = subst (λ (r : ℕ × ℕ). AppendsInRoom a b (flat_map with_tab (index_fields r))) is h

pub number-is : (a b : Block) (m n : ℕ) → m ≡ n → AppendsInRoom a b (with_tab (decimal m)) → AppendsInRoom a b (flat_map with_tab (decimal n ∷ []))
number-is a b m n is h = one-field a b (decimal n) (subst (λ (k : ℕ). AppendsInRoom a b (with_tab (decimal k))) is h)
