-- A line at its end, one place more, and cut at a place.
use Rattle.council_report.proofs.Imports.{GameView, IsGame, votes_of, few-members, with_tab, names_of, places_before, ◌≡◌, ℕ, ◌+◌, ◌^◌, ◌<◌}
use Rattle.council_report.proofs.Imports.{◌≤◌, ◌++◌, true, List, [], ◌∷◌, length, take, get_or, arith, IsLabel, AreLabels, IsLine, SameBefore}
use Rattle.council_report.proofs.Imports.{length-append, flat_map, cases_lt, length-set, nat_tests, common_steps, has, weight, rule_at}
use Rattle.council_report.proofs.Imports.{fields_of}
use Rattle.std.proofs.Common.{Global, vec_capacity, Vec, set, get_or-set_other, get_or-set_same}
use Rattle.std.proofs.Math.Seq.{take-append_seam}
use Rattle.council_report.specs.{Inner.SharedLine.IsSubtotal, Inner.SharedLine.IsWholeLine, declared.shared_line.SharedLine.SharedLine}
use Rattle.council_report.specs.declared.{label.Label.Label, subtotal.Subtotal.Subtotal}
use Rattle.council_report.proofs.Beginnings.{before-none, before-in, before-same, before-front, before-all, fields-none, fields-append}
use Rattle.council_report.proofs.Beginnings.{fields-more, fields-fit, weights-none, weights-more, weights-all, weights-light}

-- what is read past the subtotals
abbrev pub no_subtotal : Subtotal
no_subtotal = record { length = 0; weights = [] }

-- cut at place k, as the beginning of c's line
pub line-kept : (g : GameView) (line : SharedLine) (names : Vec ℕ Global) (k c : ℕ) (d : Subtotal) → IsLine g line → k ≤ line.end
    → SameBefore (length g.names) k line.coalition c →
    names.items ≡ take (get_or line.subtotals k d).length line.names.items → vec_capacity names ≡ vec_capacity line.names →
    IsLine g (record line { names = names; end = k; coalition = c })
line-kept g line names k c d is le same cut room =
    let n : ℕ = length g.names in
    let front = before-front n line.coalition k line.end le in
    grind (arith, common_steps, take-append_seam, before-same, fields-append)

-- the subtotals with one more
pub subtotals-more : (g : GameView) (c : ℕ) (sums : List Subtotal) (k : ℕ) (next : Subtotal) → length sums ≡ 41 → k < 40 →
    ((j : ℕ) (d : Subtotal) → j ≤ k → IsSubtotal g (places_before (length g.names) c j) (get_or sums j d)) →
    IsSubtotal g (places_before (length g.names) c (k + 1)) next →
    (j : ℕ) (d : Subtotal) → j ≤ k + 1 → IsSubtotal g (places_before (length g.names) c j) (get_or (set sums (k + 1) next) j d)
subtotals-more g c sums k next long few each last j d le = grind (arith, nat_tests, cases_lt, get_or-set_other, get_or-set_same)

-- a subtotal with the label of place p more
pub subtotal-more : (g : GameView) (ps : List ℕ) (p : ℕ) (now next : Subtotal) (label : Label) → IsSubtotal g ps now → IsLabel g p label →
    next.length ≡ now.length + length label.field.items → length next.weights ≡ 4 →
    ((r : ℕ) → r < 4 → get_or next.weights r 0 ≡ get_or now.weights r 0 + get_or label.weights r 0) → IsSubtotal g (ps ++ p ∷ []) next
subtotal-more g ps p now next label is label-is long four sums = grind (arith, nat_tests, fields-more, length-append, weights-more)

-- the next place, which is in
pub line-added : (g : GameView) (line : SharedLine) (names : Vec ℕ Global) (subtotal : Subtotal) (label : Label) → IsLine g line
    → line.end < length g.names → has (length g.names) line.end line.coalition ≡ true →
    IsLabel g line.end label → IsSubtotal g (places_before (length g.names) line.coalition line.end ++ line.end ∷ []) subtotal →
    names.items ≡ line.names.items ++ label.field.items → vec_capacity line.names ≤ vec_capacity names →
    IsLine g (record line { names = names; end = line.end + 1; subtotals = set line.subtotals (line.end + 1) subtotal })
line-added g line names subtotal label is more in' label-is subtotal-is put room =
    grind (arith, nat_tests, before-in, fields-more, length-set, subtotals-more)

-- with the next place, which is in, no sum wraps
pub added-light : (g : GameView) (line : SharedLine) (d : Subtotal) (label : Label) → IsLine g line → line.end < length g.names
    → has (length g.names) line.end line.coalition ≡ true → IsLabel g line.end label →
    (r : ℕ) → r < 4 → get_or (get_or line.subtotals line.end d).weights r 0 + get_or label.weights r 0 < 2 ^ 64
added-light g line d label is more in' label-is r lt =
    let light = weights-light g is.game r line.coalition (line.end + 1) (omega (arith, more)) in
    grind (arith, common_steps, weights-more, before-in)

-- and the names still fit
pub added-short : (g : GameView) (line : SharedLine) (label : Label) → IsLine g line → line.end < length g.names
    → has (length g.names) line.end line.coalition ≡ true → IsLabel g line.end label →
    length line.names.items + length label.field.items ≤ 3400
added-short g line label is more in' label-is =
    let fit = fields-fit g is.game line.coalition (line.end + 1) (omega (arith, more, is.few)) in
    grind (arith, common_steps, nat_tests, length-append, before-in, fields-more)

-- ---- the whole line
pub whole-names : (g : GameView) (c : ℕ) (line : SharedLine) → IsWholeLine g c line → line.names.items ≡ flat_map with_tab (names_of g c)
unfolding fields_of places_before
whole-names g c line w = grind (arith, nat_tests, before-all)

pub whole_weight : (g : GameView) (c : ℕ) (line : SharedLine) (d : Subtotal) → IsWholeLine g c line → (r : ℕ) → r < length g.rules
    → get_or (get_or line.subtotals line.end d).weights r 0 ≡ weight (rule_at (votes_of g).rules r).weights c
whole_weight g c line d w r lt = grind (arith, nat_tests, before-all, weights-all)

-- ---- the line of no member
pub none-subtotal : (g : GameView) (sum : Subtotal) → sum.length ≡ 0 → length sum.weights ≡ 4 → ((r : ℕ) → get_or sum.weights r 0 ≡ 0)
    → IsSubtotal g [] sum
none-subtotal g sum none four light = grind (arith, nat_tests, fields-none, weights-none)

pub line-first : (g : GameView) (line : SharedLine) → IsGame g → AreLabels g (length g.names) line.labels.items → line.end ≡ 0
    → line.names.items ≡ [] → 4096 ≤ vec_capacity line.names → length line.subtotals ≡ 41 →
    ((d : Subtotal) → IsSubtotal g [] (get_or line.subtotals 0 d)) → IsLine g line
line-first g line game labels start none room long subtotal = grind (arith, nat_tests, before-none, few-members, fields-none)

-- what the names of a whole line rest on
pub ruleset whole = (whole-names)
