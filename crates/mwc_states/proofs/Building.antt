-- Levels of the graph: what the states of a table leave, and the graph, one level after the other.
use Rattle.mwc_states.proofs.Imports.{arith, nat_tests, inl, inr, length-append, cases_lt, get_or_append_left, get_or_push, What, completes}
use Rattle.mwc_states.proofs.Imports.{zero, suc, ◌^◌, ◌≤◌, refl, drop, drop-cons, length-drop, ByWays, Minimal, Winning, accepts, rows_at, link_at}
use Rattle.mwc_states.proofs.Imports.{IsLevel, ◌≡◌, ◌∙◌, ℕ, ◌*◌, ◌+◌, ◌<◌, Bool, true, false, cond, List, [], ◌∷◌, ◌++◌, length, get_or}
use Rattle.mwc_states.proofs.Imports.{sym, ap, IsBuilding, IsGraphOf, meets, without_one, weigh, AreDecided, Leads}
use Rattle.mwc_states.specs.Inner.{Graphs.Continue, Tables.AreFound, Tables.IsLast}
use Rattle.std.proofs.Common.{append_assoc, append-nil, add-one}

abbrev Rows : Type 0
Rows = List (List ℕ)

-- the links of one state are among those of all
small : (n k : ℕ) (taken : Bool) → k < n → 2 * k + cond taken 1 0 < 2 * n
small n k true lt = omega arith
small n k false lt = omega arith

module _ (what : What) (member : List ℕ) (later : Rows) (table : List Rows) where
  -- one state more
  pub decided-more : (next : List Rows) (without with : Rows) (i : ℕ) → AreDecided what member later table next i
      → Leads what later member false (get_or table i []) without → Leads what later member true (get_or table i []) with
      → AreDecided what member later table ((next ++ without ∷ []) ++ with ∷ []) (i + 1)
  decided-more next without with i are out in' = record {
    long = simp length-append (omega (arith, are.long));
    each = λ k taken lt set. grind (arith, nat_tests, are.each k taken, out set, in' set, length-append, get_or_push, get_or_append_left, small i k taken);
  }

  pub level-found : (next sorted : List Rows) (links : List ℕ) → AreDecided what member later table next (length table) → AreFound next sorted links
      → IsLevel what member later table links sorted
  level-found next sorted links are found = record {
    long = found.long ∙ are.long;
    below = found.below;
    each = λ k taken lt set. are.each k taken lt set
        ∙ ap (λ rows. completes what later rows set) (sym (found.here (2 * k + cond taken 1 0) (omega (arith, are.long, small (length table) k taken lt))));
  }

-- a level more in front of levels that go on from its table
continues : (what : What) (member : List ℕ) (later : Rows) (table next : List Rows) (links : List ℕ) (rest : List (List ℕ)) → length table ≤ 2 ^ 27
    → IsLevel what member later table links next → Continue what later next rest → Continue what (member ∷ later) table (links ∷ rest)
unfolding accepts
continues what member later table next links rest few level on = record {
  long = omega (arith, on.long);
  rows = omega (arith, level.long);
  few = at-most;
  linked = linked;
  accept = accept;
}
  where
    at-most : (i : ℕ) → rows_at (links ∷ rest) i ≤ 2 ^ 27
    at-most zero = omega (arith, level.long, few)
    at-most (suc i) = on.few i

    linked : (i k : ℕ) → i < suc (length rest) → get_or (get_or (links ∷ rest) i []) k 0 < rows_at (links ∷ rest) (i + 1)
    linked zero k lt = omega (arith, level.below k, on.rows)
    linked (suc i) k lt = let e : suc i + 1 ≡ suc (i + 1) = omega arith in omega (arith, on.linked i k (omega arith), ap (rows_at (links ∷ rest)) e)

    accept : (k : ℕ) (set : List Bool) → k < length table → length set ≡ suc (length later) → accepts (links ∷ rest) k set ≡ completes what (member ∷ later) (get_or table k []) set
    accept k [] lt long = absurd (omega arith)
    accept k (taken ∷ set) lt long =
        on.accept (link_at links k (cond taken 1 0)) set (level.below (2 * k + cond taken 1 0)) (omega arith) ∙ sym (level.each k taken lt set)

-- no level, after the last member
ends : (what : What) (later : Rows) (table : List Rows) → IsLast what table → length later ≡ 0 → (k : ℕ) (set : List Bool) → k < 2 → length set ≡ 0
    → accepts [] k set ≡ completes what later (get_or table k []) set
unfolding accepts completes meets without_one weigh
ends what later table end none zero set lt long = rw end.dead refl
ends Minimal [] table end none (suc zero) [] lt long = rw end.complete refl
ends ByWays [] table end none (suc zero) [] lt long = rw end.complete refl
ends Winning [] table end none (suc zero) [] lt long = rw end.complete refl
ends what (member ∷ later) table end none (suc zero) set lt long = absurd (omega arith)
ends what [] table end none (suc zero) (taken ∷ set) lt long = absurd (omega arith)
ends what later table end none (suc (suc k)) set lt long = absurd (omega arith)

at-end : (what : What) (later : Rows) (table : List Rows) → IsLast what table → length later ≡ 0 → Continue what later table []
at-end what later table end none = record {
  long = omega (arith, none);
  rows = sym end.two;
  few = λ i. omega arith;
  linked = λ i k lt. absurd (omega arith);
  accept = λ k set lt long. ends what later table end none k set (omega (arith, lt, end.two)) (omega (arith, long, none));
}

module _ (what : What) (members state : Rows) where
  pub built-none : (room : ℕ) → 1 ≤ length members → length members ≤ 40 → room ≤ 2 ^ 27 → IsBuilding what members state [] (state ∷ []) 0 room
  built-none room some few room_few = record { room_few = room_few; onward = λ rest on. grind (arith, on.accept) }

  pub built-more : (levels : List (List ℕ)) (table next : List Rows) (links : List ℕ) (i room less : ℕ) → i < length members
      → IsBuilding what members state levels table i room → IsLevel what (get_or members i []) (drop (i + 1) members) table links next
      → length table ≤ room → less ≤ room → IsBuilding what members state (levels ++ links ∷ []) next (i + 1) less
  built-more levels table next links i room less lt built level few le = record {
    room_few = omega (arith, le, built.room_few);
    onward = λ rest on.
        let parts : drop i members ≡ get_or members i [] ∷ drop (i + 1) members = drop-cons members i [] lt ∙ (λ k. get_or members i [] ∷ drop ((sym (add-one i)) k) members) in
        rw (append_assoc levels (links ∷ []) rest) (built.onward (links ∷ rest) (rw parts (continues what _ _ table next links rest (omega (arith, few, built.room_few)) level on)));
  }

  pub built-all : (levels : List (List ℕ)) (table : List Rows) (i room : ℕ) → i ≡ length members → IsLast what table → IsBuilding what members state levels table i room
      → IsGraphOf what members state levels
  built-all levels table i room end last built =
      rw append-nil at (built.onward [] (at-end what _ table last (omega (arith, length-drop i members, end))))

pub ruleset found = (nat_tests, level-found, length)
