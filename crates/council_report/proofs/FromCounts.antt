-- The lines from the counts of a list, or from its pieces, are those of the list.
use Rattle.council_report.proofs.Imports.{Bool, true, false, flat_map, range_with_len, nat_tests, ReportLines, size_line, line_of_size}
use Rattle.council_report.proofs.Imports.{◌≡◌, ◌∙◌, ◌<◌, ◌≤◌, ◌+◌, ◌++◌, ℕ, zero, suc, List, [], map, length, cond, refl, ap, sym, arith}
use Rattle.council_report.proofs.Imports.{◌∷◌, cond-true, flat_map-append, GameView, coalition_line, coalition_lines}
use Rattle.std.proofs.lemmas.List.Folds.{flat_map-map}
use Rattle.std.specs.Option.{IfSome, IsSome, option_map_or}
use Rattle.council_report.proofs.Imports.{Option, None, Some, decimal, member_line}
use Rattle.council_report.specs.Inner.Numbers.{AreSomeCounts}
use Rattle.council_report.specs.Lines.{index_fields, minimal_line}
use Rattle.power_index.specs.Tables.{AreCounts, Tables, table_total}
use Rattle.power_index.proofs.Shared.Printed.{deegan-packel-same, public-good-same}
use Rattle.council_report.specs.Inner.Lines.{fields_of_counts, sizes_of_counts}
use Rattle.council_report.specs.Report.{count_fields, game_lines, member_lines, report_with, size_line_of}
use Rattle.council_report.specs.SwingLines.{added_fields, winning_lines}

-- two functions that agree on a range
range-same : {X : Type 0} (f h : ℕ → X) (a n : ℕ) → ((i : ℕ) → a ≤ i → i < a + n → f i ≡ h i)
    → map f (range_with_len a n) ≡ map h (range_with_len a n)
range-same f h a zero same = refl
range-same {X} f h a (suc n) same = grind (arith, nat_tests, range-same f h (a + 1) n (λ i le lt. same i (omega arith) (omega arith)))

-- and so do the texts that they put
texts-same : (f h : ℕ → List ℕ) (a n m : ℕ) → n ≡ m → ((i : ℕ) → a ≤ i → i < a + n → f i ≡ h i)
    → flat_map f (range_with_len a n) ≡ flat_map h (range_with_len a m)
texts-same f h a n m long same = sym (flat_map-map (λ t. t) f (range_with_len a n))
    ∙ ap (flat_map (λ (t : List ℕ). t)) (range-same f h a n same)
    ∙ flat_map-map (λ t. t) h (range_with_len a n) ∙ ap (λ k. flat_map h (range_with_len a k)) long

size-same : (g : GameView) (t : Tables) (list : List ℕ) → AreCounts g list t → (s : ℕ) → s ≤ length g.names
    → line_of_size g t s ≡ size_line_of g list s
unfolding size_line
size-same g t list h s le = grind (arith, nat_tests, range-same)

shown-same : (b : Bool) (x y : List ℕ) → (b ≡ true → x ≡ y) → cond b x [] ≡ cond b y []
shown-same true x y same = same refl
shown-same false x y same = refl

-- the fields of what was counted
fields-same : (g : GameView) (t : Tables) (list : List ℕ) → AreSomeCounts g t → AreCounts g list t → (i : ℕ) → i < length g.names
    → fields_of_counts t i ≡ count_fields g list i
fields-same g t list are h i lt =
    let inside : i < t.members = omega (arith, lt, h.members) in
    let count = h.of_member i inside in
    let first = deegan-packel-same g list t i inside are.sound.few_members are.some h in
    let second = public-good-same g list t i inside (omega (arith, are.sound.memberships, are.some)) h in
    λ k. decimal (count k) ∷ index_fields (first k) ++ index_fields (second k)

-- the report from counts is that over the list
pub report-same : {X S : Type 0} (see : X → Tables) (shown : ReportLines) (g : GameView) (o : Option X) (s : Option S) (listed list : List ℕ)
    → IfSome o (λ x. AreSomeCounts g (see x)) → IfSome o (λ x. AreCounts g list (see x)) → IsSome o → (shown.list ≡ true → listed ≡ list)
    → game_lines shown g ++ option_map_or (λ x. minimal_line (table_total (see x))) o [] ++ winning_lines g s
    ++ (coalition_lines shown g listed ++ cond shown.sizes (option_map_or (λ x. sizes_of_counts g (see x)) o []) []
    ++ member_lines g (λ i. option_map_or (λ x. fields_of_counts (see x) i) o [] ++ added_fields g s i))
    ≡ report_with (winning_lines g s) (added_fields g s) shown g list
report-same see shown g None s listed list are h some is = grind (arith, some)
report-same see shown g (Some x) s listed list are h some is =
    let n : ℕ = length g.names in
    let t : Tables = see x in
    let coalitions = shown-same shown.list (flat_map (coalition_line g) listed) (flat_map (coalition_line g) list) (λ on. ap (flat_map (coalition_line g)) (is on)) in
    let sizes = shown-same shown.sizes (sizes_of_counts g t) (flat_map (size_line_of g list) (range_with_len 1 n))
    (λ on. texts-same (line_of_size g t) (size_line_of g list) 1 n n refl (λ i le lt. size-same g t list h i (omega (arith, lt)))) in
    let members = texts-same (λ i. member_line g i (fields_of_counts t i ++ added_fields g s i)) (λ i. member_line g i (count_fields g list i ++ added_fields g s i)) 0 n n refl
    (λ i le lt j. member_line g i (fields-same g t list are h i (omega (arith, lt)) j ++ added_fields g s i)) in
    λ j. game_lines shown g ++ minimal_line (h.total j) ++ winning_lines g s ++ (coalitions j ++ sizes j ++ members j)

-- the texts of the pieces' elements are those of the list's
pub texts-joined : {X Y Z : Type 0} (f : Y → List Z) (h : X → List Y) (xs : List X)
    → flat_map (λ x. flat_map f (h x)) xs ≡ flat_map f (flat_map h xs)
texts-joined f h [] = refl
texts-joined {Z} f h (x ∷ xs) = grind (arith, nat_tests, texts-joined f h xs, flat_map-append)

-- if they are shown, they are the lines of the list
pub listed-text : {X : Type 0} (shown : ReportLines) (g : GameView) (h : X → List ℕ) (pieces : List X) → shown.list ≡ true
    → flat_map (λ p. flat_map (coalition_line g) (h p)) pieces ≡ coalition_lines shown g (flat_map h pieces)
listed-text shown g h pieces is =
    texts-joined (coalition_line g) h pieces ∙ sym (cond-true shown.list (flat_map (coalition_line g) (flat_map h pieces)) [] is)
