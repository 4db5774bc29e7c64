-- No line of coalitions, sizes or members is longer than the room that a block keeps for it.
use Rattle.council_report.proofs.Imports.{◌≡◌, ℕ, ◌+◌, ◌^◌, ◌<◌, ◌≤◌, ◌++◌, List, [], ◌∷◌, length, get_or, map, decimal, Bool, cond, true}
use Rattle.council_report.proofs.Imports.{zero, suc, arith, length-append, flat_map, range_with_len, length-map, length-range_with_len}
use Rattle.council_report.proofs.Imports.{GameView, IsGame, votes_of, votes-are, weight-le, table_of_member_size, few-members, GameNumbers}
use Rattle.council_report.proofs.Imports.{Option, None, Some, coalition_lines, ReportLines, line_of_size, line_of_member, with_tab, names_of, coalition_line, size_line}
use Rattle.council_report.proofs.Imports.{get_or-range_with_len, nat_tests, common_steps, IsRule, weight, member_line}
use Rattle.std.proofs.lemmas.{Fmt.length-decimal-le, Fmt.length-decimal-le_wide, List.FromFn.length-map-range_with_len, List.Sums.sum_by-le}
use Rattle.std.proofs.lemmas.{Bool.cond_both, List.Concat.length-flat_map}
use Rattle.std.proofs.Common.{◌*◌, codes, ◌==◌, All}
use Rattle.std.specs.{List.AllByRecursion, Option.IfSome, Option.option_map_or}
use Rattle.council_game.specs.{Ranks.member_at, Votes.RuleView, Votes.places_of, Votes.size}
use Rattle.council_game.proofs.Shared.Games.{names-fit, light-weights}
use Rattle.council_game.proofs.Shared.Joins.{one-number, next-numbers}
use Rattle.power_index.specs.{Counting.members, Fractions.lowest_terms}
use Rattle.power_index.specs.Tables.{Tables, table_of_size, table_of_member, table_deegan_packel, table_public_good}
use Rattle.power_index.proofs.Shared.{Members.size-le, Small.AreBelow, Small.deegan_packel-wide, Small.public_good-wide}
use Rattle.power_index.specs.{SwingIndices.banzhaf, SwingIndices.penrose, SwingIndices.power_to_initiate, SwingIndices.power_to_prevent, SwingIndices.shapley_shubik, Swings.AreWinningCounts, Swings.swings}
use Rattle.power_index.proofs.Shared.Small.{banzhaf-small, initiate-small, penrose-small, prevent-small, shapley-small, swings-few}
use Rattle.council_report.specs.Lines.{index_fields, line, with_slashes, name_of, weights_of_coalition, weights_of_member}
use Rattle.council_report.specs.SwingLines.{added_fields, swing_fields}
use Rattle.council_report.specs.Inner.{Lines.fields_of, Lines.fields_of_counts, Lines.lines_of_members, Lines.lines_of_sizes, Lines.sizes_of_counts}
use Rattle.council_report.specs.Inner.Numbers.{AreSomeCounts}

-- fields of at most so many characters
abbrev pub AreFields : ℕ → List (List ℕ) → Type 0
AreFields most fields = AllByRecursion (λ field. length field ≤ most) fields

abbrev pub IsField : List ℕ → Type 0
IsField field = length field ≤ 84

pub with_tab-fits : (most : ℕ) (fields : List (List ℕ)) → AreFields most fields
    → length (flat_map with_tab fields) ≤ length fields * suc most
with_tab-fits most [] h = omega arith
with_tab-fits most (f ∷ fs) h = omega (arith, length-append (with_tab f) (flat_map with_tab fs), with_tab-fits most fs h.1, h.0)

-- a line of at most 42 fields
line-fits : (word : List ℕ) (fields : List (List ℕ)) → length word ≤ 9 → length fields ≤ 42 → AreFields 84 fields
    → length (line word fields) ≤ 4096
line-fits word fields short few h = grind (arith, nat_tests, with_tab-fits, length-append)

-- ---- fields of numbers
number-fits : (n : ℕ) → n < 2 ^ 64 → length (decimal n) ≤ 20
number-fits n h = length-decimal-le 20 n (omega arith) (omega arith) h

number-field : (n : ℕ) → n < 2 ^ 64 → IsField (decimal n)
number-field n h = let fit = number-fits n h in omega (arith, fit)

length-with_slashes : (values : List ℕ) → AllByRecursion (λ v. v < 2 ^ 64) values → length (with_slashes values) ≤ length values * 21
length-with_slashes [] h = omega arith
length-with_slashes (v ∷ []) h = grind (arith, nat_tests, common_steps, number-fits, one-number)
length-with_slashes (v ∷ w ∷ vs) h =
    grind (arith, nat_tests, common_steps, length-with_slashes (w ∷ vs) h.1, number-fits, next-numbers, length-append)

-- a value for each of 4 rules at most
with_slashes-fits : (values : List ℕ) → length values ≤ 4 → AllByRecursion (λ v. v < 2 ^ 64) values → IsField (with_slashes values)
with_slashes-fits values few h = let fit = length-with_slashes values h in omega (arith, fit, few)

-- ---- rows of fields
pub each-field : {X : Type 0} (f : X → List ℕ) → ((x : X) → IsField (f x)) → (xs : List X) → AllByRecursion IsField (map f xs)
each-field f h [] = tt
each-field f h (x ∷ xs) = (h x, each-field f h xs)

each-number : (P : RuleView → Type 0) (f : RuleView → ℕ) → ((r : RuleView) → P r → f r < 2 ^ 64)
    → (rs : List RuleView) → AllByRecursion P rs → AllByRecursion (λ v. v < 2 ^ 64) (map f rs)
each-number P f small [] h = tt
each-number P f small (r ∷ rs) h = (small r h.0, each-number P f small rs h.1)

pub name-fits : (g : GameView) → IsGame g → (i : ℕ) → IsField (name_of g i)
name-fits g game i = let fit = names-fit g game i in omega (arith, fit)

-- fields of what is there
some-fields : {X : Type 0} (o : Option X) (f : X → List (List ℕ)) (Are : X → Type 0) (n : ℕ) → IfSome o Are
    → ((x : X) → Are x → (length (f x) ≤ n) × AreFields 97 (f x)) → (length (option_map_or f o []) ≤ n) × AreFields 97 (option_map_or f o [])
some-fields None f Are n is h = (omega arith, tt)
some-fields (Some x) f Are n is h = h x is

fields-both : (most : ℕ) (xs ys : List (List ℕ)) → AreFields most xs → AreFields most ys → AreFields most (xs ++ ys)
fields-both most [] ys h k = k
fields-both most (x ∷ xs) ys h k = (h.0, fields-both most xs ys h.1 k)

-- ---- the lines
pub coalition-fits : (g : GameView) → IsGame g → (c : ℕ) → length (coalition_line g c) ≤ 4096
unfolding coalition_line
coalition-fits g game c =
    let votes = votes-are g game in
    let few : length (votes_of g).rules ≤ 4 = votes.few_rules in
    let each : AllByRecursion (IsRule (length g.names)) (votes_of g).rules = votes.rules in
    let some = size-le (length g.names) c in
    let forty = few-members g game in
    let rules = length-map (votes_of g).rules (λ r. weight r.weights c) in
    let names = length-map (places_of (length g.names) c) (λ p. name_of g (member_at g.ranks p)) in
    line-fits (codes "coalition") (decimal (size (length g.names) c) ∷ with_slashes (weights_of_coalition g c) ∷ names_of g c) (omega arith)
    (omega (arith, names, some, forty)) (
      number-field (size (length g.names) c) (omega (arith, some, forty)),
      (
        with_slashes-fits (weights_of_coalition g c) (omega (arith, rules, few))
            (each-number (IsRule (length g.names)) (λ r. weight r.weights c) (λ r is. omega (arith, weight-le r.weights c, is.light))
            (votes_of g).rules each),
        each-field (λ p. name_of g (member_at g.ranks p)) (λ p. name-fits g game (member_at g.ranks p)) (places_of (length g.names) c),
      ),
    )

-- numbers of a range
numbers-field : (f : ℕ → ℕ) (a n : ℕ) → ((i : ℕ) → i < a + n → f i < 2 ^ 64)
    → AllByRecursion IsField (map (λ i. decimal (f i)) (range_with_len a n))
numbers-field f a zero small = tt
numbers-field f a (suc n) small = (number-field (f a) (small a (omega arith)), numbers-field f (a + 1) n (λ i lt. small i (omega arith)))

pub size-fits : (g : GameView) (t : Tables) → AreSomeCounts g t → (s : ℕ) → s ≤ length g.names → length (line_of_size g t s) ≤ 4096
unfolding size_line
size-fits g t are s le =
    let count_of_member : ℕ → ℕ = λ i. table_of_member_size t i s in
    let fields : List (List ℕ) = decimal s ∷ decimal (table_of_size t s) ∷ map (λ i. decimal (count_of_member i)) (members g) in
    let few = are.sound.few in
    let forty = are.sound.few_members in
    let in' : s ≤ t.members = omega (arith, le, are.members) in
    let long = length-map-range_with_len (λ i. decimal (count_of_member i)) 0 (length g.names) in
    cond_both (table_of_size t s == 0) [] (line (codes "size") fields) (λ text. length text ≤ 4096) (λ _. omega arith)
    (λ _. line-fits (codes "size") fields (omega arith) (omega (arith, long, are.members, forty)) (
      number-field s (omega (arith, in', forty)),
      (
        number-field (table_of_size t s) (omega (arith, are.sound.few_of_size s in', few)),
        numbers-field count_of_member 0 (length g.names) (λ i lt. omega (arith, are.sound.few_of_member_size i s (omega (arith, lt, are.members)) in', few)),
      ),
    ))

-- ---- the fields of a member
fraction-wide : (p : ℕ × ℕ) → AreBelow (10 ^ 48) p → length (decimal p.0 ++ 47 ∷ decimal p.1) ≤ 97
fraction-wide p below =
    let first = length-decimal-le_wide 48 p.0 (omega arith) below.0 (omega (arith, below.0)) in
    let last = length-decimal-le_wide 48 p.1 (omega arith) below.1 (omega (arith, below.1)) in
    omega (arith, first, last, length-append (decimal p.0) (47 ∷ decimal p.1))

wider : (p : ℕ × ℕ) → AreBelow (10 ^ 28) p → AreBelow (10 ^ 48) p
wider p h = (omega (arith, h.0), omega (arith, h.1))

fields-of-counts : (g : GameView) (t : Tables) → AreSomeCounts g t → (i : ℕ) → i < length g.names → AreFields 97 (fields_of_counts t i)
fields-of-counts g t are i lt =
    let inside : i < t.members = omega (arith, lt, are.members) in
    let count = number-fits (table_of_member t i) (omega (arith, are.sound.few_of_member i inside, are.sound.few)) in
    let first = fraction-wide (lowest_terms (table_deegan_packel t i)) (wider _ (deegan_packel-wide t i are.sound inside)) in
    let second = fraction-wide (lowest_terms (table_public_good t i)) (wider _ (public_good-wide t i are.sound inside)) in
    (omega (arith, count), (first, (omega arith, (second, (omega arith, tt)))))

fields-of-swings : (g : GameView) → IsGame g → (i : ℕ) → i < length g.names → (length (swing_fields g i) ≤ 11) × AreFields 97 (swing_fields g i)
unfolding swing_fields
fields-of-swings g game i lt =
    let count = number-fits (swings g i) (omega (arith, swings-few g game i lt)) in
    let first = fraction-wide (lowest_terms (banzhaf g i)) (wider _ (banzhaf-small g game i lt)) in
    let second = fraction-wide (lowest_terms (penrose g i)) (wider _ (penrose-small g game i lt)) in
    let third = fraction-wide (lowest_terms (shapley_shubik g i)) (shapley-small g game i lt) in
    let fourth = fraction-wide (lowest_terms (power_to_prevent g i)) (wider _ (prevent-small g game i lt)) in
    let fifth = fraction-wide (lowest_terms (power_to_initiate g i)) (wider _ (initiate-small g game i lt)) in
    let coleman : AreFields 97 (index_fields (lowest_terms (power_to_prevent g i)) ++ index_fields (lowest_terms (power_to_initiate g i))) =
    (fourth, (omega arith, (fifth, (omega arith, tt)))) in
    (omega arith, (omega (arith, count), (first, (omega arith, (second, (omega arith, (third, (omega arith, coleman))))))))

-- a member's line has at most 2 fields, and 16 more
member-line-fits : (g : GameView) → IsGame g → (i : ℕ) → i < length g.names → (fields : List (List ℕ)) → length fields ≤ 16
    → AreFields 97 fields → length (member_line g i fields) ≤ 4096
unfolding member_line
member-line-fits g game i lt fields few each =
    let rules = length-map g.rules (λ r. get_or r.weights i 0) in
    let IsLight : RuleView → Type 0 = λ r. (k : ℕ) → k < length g.names → get_or r.weights k 0 ≤ 1000000000000 in
    let own = each-number IsLight (λ r. get_or r.weights i 0) (λ r light. let most = light i lt in omega (arith, most)) g.rules (light-weights g game) in
    let weights = with_slashes-fits (weights_of_member g i) (omega (arith, rules, game.few_rules)) own in
    let name = name-fits g game i in
    let all = with_tab-fits 97 (name_of g i ∷ with_slashes (weights_of_member g i) ∷ fields) (omega (arith, name), (omega (arith, weights), each)) in
    grind (arith, nat_tests, length-append, all)

pub member-fits : (k : GameNumbers) (i : ℕ) → i < length k.game.now.names → length (line_of_member k i) ≤ 4096
member-fits k i lt =
    let g : GameView = k.game.now in
    let counts = some-fields k.counts (λ c. fields_of_counts c.now i) (λ c. AreSomeCounts g c.now) 5 k.counted
    (λ c are. (omega arith, fields-of-counts g c.now are i lt)) in
    let more = some-fields k.swings (λ s. swing_fields g i) (λ s. AreWinningCounts g s.now) 11 k.winning
    (λ s are. fields-of-swings g k.is_game i lt) in
    let both = fields-both 97 (option_map_or (λ c. fields_of_counts c.now i) k.counts []) (added_fields g k.swings i) counts.1 more.1 in
    member-line-fits g k.is_game i lt (fields_of k i) (omega (
      arith,
      counts.0,
      more.0,
      length-append (option_map_or (λ c. fields_of_counts c.now i) k.counts []) (added_fields g k.swings i),
    )) both

-- ---- the lines together
rows-fit : {X : Type 0} (f : X → List ℕ) (xs : List X) → All (λ x. length (f x) ≤ 4096) xs → length (flat_map f xs) ≤ length xs * 4096
rows-fit f xs all = rw (length-flat_map f xs) (sum_by-le (λ x. length (f x)) 4096 xs all)

some-text : {X : Type 0} (o : Option X) (f : X → List ℕ) (Are : X → Type 0) (n : ℕ) → IfSome o Are
    → ((x : X) → Are x → length (f x) ≤ n) → length (option_map_or f o []) ≤ n
some-text None f Are n is h = omega arith
some-text (Some x) f Are n is h = h x is

chosen-fits : (b : Bool) (text : List ℕ) (n : ℕ) → (b ≡ true → length text ≤ n) → length (cond b text []) ≤ n
chosen-fits b text n h = cond_both b text [] (λ t. length t ≤ n) h (λ _. omega arith)

numbers-fit : (f : ℕ → List ℕ) (a n : ℕ) → ((i : ℕ) → i < a + n → length (f i) ≤ 4096) → length (flat_map f (range_with_len a n)) ≤ n * 4096
numbers-fit f a n each =
    let long = length-range_with_len a n in
    let all = rows-fit f (range_with_len a n) (λ k d lt.
    let is = get_or-range_with_len a n k d (omega (arith, lt, long)) in each (get_or (range_with_len a n) k d) (omega (arith, is, lt, long))) in
    omega (arith, all, long)

sizes-fit : (k : GameNumbers) → length (option_map_or (λ c. sizes_of_counts k.game.now c.now) k.counts []) ≤ 40 * 4096
sizes-fit k =
    some-text k.counts (λ c. sizes_of_counts k.game.now c.now) (λ c. AreSomeCounts k.game.now c.now) (40 * 4096) k.counted
    (λ c are. let all = numbers-fit (line_of_size k.game.now c.now) 1 (length k.game.now.names)
    (λ s lt. size-fits k.game.now c.now are s (omega (arith, lt))) in omega (arith, all, few-members k.game.now k.is_game))

members-fit : (k : GameNumbers) → length (lines_of_members k) ≤ 40 * 4096
members-fit k =
    let all = numbers-fit (line_of_member k) 0 (length k.game.now.names) (λ i lt. member-fits k i (omega (arith, lt))) in
    omega (arith, all, few-members k.game.now k.is_game)

-- 2^40 + 80 lines at most, whose bytes can be counted
pub lines-count : (shown : ReportLines) (k : GameNumbers) (list : List ℕ) (told : ℕ) → (shown.list ≡ true → length list ≤ 2 ^ 40) → told < 2 ^ 63
    → told + (length (coalition_lines shown k.game.now list) + length (lines_of_sizes shown k) + length (lines_of_members k)) < 2 ^ 64
lines-count shown k list told few small =
    let sizes = chosen-fits shown.sizes (option_map_or (λ c. sizes_of_counts k.game.now c.now) k.counts []) (40 * 4096) (λ _. sizes-fit k) in
    let rows = members-fit k in
    let coalitions = chosen-fits shown.list (flat_map (coalition_line k.game.now) list) (2 ^ 40 * 4096) (λ on.
    let all = rows-fit (coalition_line k.game.now) list (λ i d lt. coalition-fits k.game.now k.is_game (get_or list i d)) in
    let some = few on in omega (arith, all, some)) in
    omega (arith, sizes, rows, coalitions, small)
