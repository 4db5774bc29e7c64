-- Rows that are all missed, and what is left of a state once a member is decided.
use Rattle.mwc_states.proofs.Imports.{and_parts, ℕ, Bool, true, not, ◌&&◌, List, [], ◌∷◌, ◌++◌, get_or, take, drop, filter, ap, sym, refl}
use Rattle.mwc_states.proofs.Imports.{without_one, arith, list_all, nat_tests, meets, misses_all, list_all-map, What, Minimal, Winning}
use Rattle.mwc_states.proofs.Imports.{weigh, ◌≡◌, ◌∙◌, row_at, ◌+◌, ◌-◌, ◌<◌, false, cond, length, needs_each, completes, fits, Leads}
use Rattle.mwc_states.specs.Inner.Later.{AreLeft, misses_left}
use Rattle.std.specs.List.{list_any}
use Rattle.std.proofs.{Common.take-append-drop, lemmas.List.Folds.list_all-append, lemmas.List.Folds.list_all_more}
use Rattle.mwc_states.proofs.Meeting.{meets-through, meets-left}

-- a row that meets one of them
pub misses_all-implied : (w : ℕ → ℕ) (x : List ℕ) (rows : List (List ℕ)) → list_any (λ row. meets (λ r. get_or x r 0) row) rows ≡ true
    → misses_all w rows ≡ (misses_all w rows && not (meets w x))
misses_all-implied w x [] any = cc
misses_all-implied w x (row ∷ rows) any = grind (arith, nat_tests, misses_all-implied w x rows, meets-through w x row)

-- without those that meet it
pub misses_all-filter : (w : ℕ → ℕ) (x : List ℕ) (rows : List (List ℕ))
    → (misses_all w (filter (λ row. not (meets (λ r. get_or row r 0) x)) rows) && not (meets w x)) ≡ (misses_all w rows && not (meets w x))
misses_all-filter w x [] = refl
misses_all-filter w x (row ∷ rows) = grind (arith, nat_tests, misses_all-filter w x rows, meets-through w row x)

and-swap : (a b c : Bool) → (a && (b && c)) ≡ ((a && c) && b)
and-swap a b c = grind (arith, nat_tests)

pub misses_all-insert : (w : ℕ → ℕ) (x : List ℕ) (rows : List (List ℕ)) (i : ℕ) → misses_all w (take i rows ++ x ∷ drop i rows) ≡ (misses_all w rows && not (meets w x))
misses_all-insert w x rows i =
    let miss : List ℕ → Bool = λ row. not (meets w row) in
    list_all-append miss (take i rows) (x ∷ drop i rows) ∙ and-swap (misses_all w (take i rows)) (miss x) (misses_all w (drop i rows))
    ∙ ap (λ b. b && miss x) (sym (list_all-append miss (take i rows) (drop i rows)) ∙ ap (list_all miss) (take-append-drop i rows))

-- the row y is what is left of x, as far as sets of the later members tell
abbrev pub Alike : List (List ℕ) → List ℕ → Bool → List ℕ → List ℕ → Type 0
Alike members member taken x y = (set : List Bool) → meets (weigh members set) y ≡ meets (weigh (member ∷ members) (taken ∷ set)) x

pub alike-left : (members : List (List ℕ)) (member : List ℕ) (taken : Bool) (x less y : List ℕ) → ((r : ℕ) → get_or less r 0 ≡ get_or x r 0 - cond taken (get_or member r 0) 0)
    → ((set : List Bool) → meets (weigh members set) y ≡ meets (weigh members set) less) → Alike members member taken x y
alike-left members member taken x less y is same set = same set ∙ sym (meets-left x less member members taken set is)

needs-left : (members : List (List ℕ)) (member : List ℕ) (taken : Bool) (x y : List ℕ) (set : List Bool) → Alike members member taken x y
    → needs_each (member ∷ members) (taken ∷ set) x ≡ (cond taken (not (meets (weigh members set) x)) true && needs_each members set y)
unfolding without_one weigh
needs-left members member true x y set alike = grind (arith, nat_tests, meets, weigh, list_all-map, true, without_one, list_all)
needs-left members member false x y set alike = grind (arith, nat_tests, list_all-map, meets, weigh, false, without_one, list_all)

completes-left : (members : List (List ℕ)) (member : List ℕ) (taken : Bool) (need later_need : List ℕ) (misses : List (List ℕ)) (set : List Bool)
    → Alike members member taken need later_need
    → completes Minimal (member ∷ members) (need ∷ misses) (taken ∷ set) ≡ (fits members later_need set && misses_left members member taken need misses set)
unfolding completes
completes-left members member taken x y misses set alike = grind (arith, nat_tests, alike set, needs-left members member taken x y set alike)

-- one miss more
pub misses-more : (members : List (List ℕ)) (member : List ℕ) (taken : Bool) (misses : List (List ℕ)) (left : List ℕ) (set : List Bool) (i : ℕ) → i < length misses
    → ((r : ℕ) → get_or left r 0 ≡ get_or (row_at misses i) r 0 - cond taken (get_or member r 0) 0)
    → misses_all (weigh (member ∷ members) (taken ∷ set)) (take (i + 1) misses)
    ≡ (misses_all (weigh (member ∷ members) (taken ∷ set)) (take i misses) && not (meets (weigh members set) left))
misses-more members member taken misses left set i lt is =
    let last = list_all_more (λ row. not (meets (weigh (member ∷ members) (taken ∷ set)) row)) misses i [] lt in
    grind (arith, nat_tests, meets-left (row_at misses i) left member members taken set is)

-- no set misses all where the need meets one
none-completes : (members : List (List ℕ)) (need : List ℕ) (misses : List (List ℕ)) (set : List Bool) → list_any (λ row. meets (λ r. get_or need r 0) row) misses ≡ true
    → completes Minimal members (need ∷ misses) set ≡ false
unfolding completes
none-completes members need misses set any = grind (arith, nat_tests, misses_all-implied (weigh members set) need misses any)

-- ---- where a state leads
module _ (members : List (List ℕ)) (member : List ℕ) (taken : Bool) (old need : List ℕ) (misses : List (List ℕ))
    (alike : Alike members member taken old need) where
  pub leads-open : (left : List (List ℕ)) → ((set : List Bool) → fits members need set ≡ true
      → misses_all (weigh members set) left ≡ misses_left members member taken old misses set)
      → Leads Minimal members member taken (old ∷ misses) (need ∷ left)
  unfolding completes
  leads-open left same set = grind (arith, nat_tests, completes-left members member taken old need misses set alike, same set)

  pub leads-dead : (left : List (List ℕ)) → Leads Minimal members member taken (old ∷ misses) (need ∷ left)
      → list_any (λ row. meets (λ r. get_or need r 0) row) left ≡ true → Leads Minimal members member taken (old ∷ misses) []
  unfolding completes
  leads-dead left leads any set = leads set ∙ none-completes members need left set any

  pub leads-unmet : ((set : List Bool) → meets (weigh members set) need ≡ false) → Leads Minimal members member taken (old ∷ misses) []
  unfolding completes
  leads-unmet unmet set = grind (arith, nat_tests, alike set, unmet set)

pub no-state : (what : What) (members state : List (List ℕ)) (set : List Bool) → length state ≡ 0 → completes what members state set ≡ false
unfolding completes
no-state what members [] set none = cc
no-state what members (row ∷ rows) set none = absurd (omega arith)

-- for winning coalitions the needs are all
pub meets-some : (members rows : List (List ℕ)) (set : List Bool) → completes Winning members rows set ≡ not (misses_all (weigh members set) rows)
unfolding completes
meets-some members [] set = refl
meets-some members (row ∷ rows) set = refl

pub leads-winning : (members : List (List ℕ)) (member : List ℕ) (taken : Bool) (old needs : List (List ℕ)) → AreLeft members member taken old needs
    → Leads Winning members member taken old needs
leads-winning members member taken old needs are set =
    meets-some (member ∷ members) old (taken ∷ set) ∙ ap not (sym (are set)) ∙ sym (meets-some members needs set)

pub ruleset missing = (nat_tests, misses_all-implied, and_parts)
