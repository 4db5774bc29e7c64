-- Sums of all subsets of some members, with one more of these; lowered to the least later ones.
use Rattle.mwc_states.proofs.Imports.{◌≡◌, ◌∙◌, ℕ, ◌+◌, ◌-◌, ◌<◌, ◌≤◌, Bool, true, false, List, [], ◌∷◌, length, get_or, set, zero, suc, ap}
use Rattle.mwc_states.proofs.Imports.{refl, subst, arith, min, MOST, RULES, weigh, row_at, max, ltb, inl, inr, length-set, get_or-set_same}
use Rattle.mwc_states.proofs.Imports.{get_or-set_other, cases_lt, meets, AreSums, AddsMember, AreLowered}
use Rattle.std.proofs.{Common.replicate, Common.ltb-true, lemmas.List.get_or_read}
use Rattle.mwc_states.specs.Inner.Sums.{AreListed, HasSum}
use Rattle.council_game.proofs.Shared.Sums.{get_or-zeros}
use Rattle.mwc_states.proofs.Meeting.{weigh-nil, reach, reached}

-- ---- one member more
listed-all : {rule : ℕ} {member : List ℕ} {members sums all : List (List ℕ)} → AreListed rule members sums
    → AddsMember rule member sums all (length sums) (length sums) → (set : List Bool) → HasSum rule all (weigh (member ∷ members) set)
unfolding HasSum weigh
listed-all {rule = rule} {members = members} {all = all} listed adds [] =
    let found = listed.all [] in
    subst (HasSum rule all) (λ i r. weigh-nil members r i) (adds.without (weigh members []) found.0 found.1 found.2)
listed-all {members = members} listed adds (true ∷ set) = let found = listed.all set in adds.within (weigh members set) found.0 found.1 found.2
listed-all {members = members} listed adds (false ∷ set) = let found = listed.all set in adds.without (weigh members set) found.0 found.1 found.2

pub listed-more : {rule : ℕ} {member : List ℕ} {members sums all : List (List ℕ)} → AreListed rule members sums
    → AddsMember rule member sums all (length sums) (length sums) → AreListed rule (member ∷ members) all
listed-more listed adds = record {
  ascending = adds.ascending;
  all = listed-all listed adds;
}

zeros-at : (k r : ℕ) → get_or (row_at (replicate RULES 0 ∷ []) k) r 0 ≡ 0
zeros-at zero r = get_or-zeros RULES r
zeros-at (suc k) r = refl

-- no member
pub listed-none : (rule : ℕ) (members rows : List (List ℕ)) → length members ≡ 0 → rows ≡ replicate RULES 0 ∷ [] → AreListed rule members rows
unfolding HasSum weigh
listed-none rule (member ∷ members) rows none is = absurd (omega arith)
listed-none rule [] rows none is = rw is (record {
  ascending = λ i j le lt. omega (arith, zeros-at i rule);
  all = λ set. (0, omega arith, record { same = zeros-at 0 rule; below = λ r. omega (arith, zeros-at 0 r) });
})

-- ---- one row more is lowered
pub lowered-more : {k : ℕ} {old new : List (List ℕ)} (this next row : List ℕ) → AreLowered k old new → 1 < k → k ≤ length new
    → this ≡ get_or new (k - 1 - 1) this → next ≡ get_or new (k - 1) next → ((r : ℕ) → get_or row r 0 ≡ min (get_or this r 0) (get_or next r 0))
    → AreLowered (k - 1) old (set new (k - 1 - 1) row)
lowered-more {k = k} {old = old} {new = new} this next row h some inside read reread made =
    let n : ℕ = k - 1 - 1 in
    let first : this ≡ row_at new n = get_or_read new n this (omega arith) read [] in
    let second : next ≡ row_at new (n + 1) = get_or_read new (k - 1) next (omega arith) reread [] ∙ ap (row_at new) (omega arith) in
    record {
      long = omega (arith, length-set new n row, h.long);
      least = λ i j r le ordered lt. grind (arith, made r, length-set, get_or-set_same, get_or-set_other, h.least i j r, h.least (n + 1) j r);
      below = λ i r. grind (arith, made r, get_or-set_same, get_or-set_other, h.below i r);
      same = λ rule i asc. grind (arith, made rule, get_or-set_same, get_or-set_other, h.same rule i asc, h.same rule (n + 1) asc, asc n (n + 1), h.long);
    }

-- lowered sums are no greater than what weighs more than all before
pub sums-lowered : {rule : ℕ} {members rows new : List (List ℕ)} → AreListed rule members rows → AreLowered 1 rows new → AreSums rule members new
unfolding HasSum
sums-lowered {rule = rule} listed lowered = record {
  ascending = λ i j. lowered.least i j rule (omega arith);
  least = λ set number at r small le lt before.
      let found = listed.all set in
      let later : at ≤ found.0 = elim (cases_lt found.0 at) [
        | inl early ↦ absurd (omega (arith, small, le, before found.0 early, lowered.same rule found.0 listed.ascending, found.2.same))
        | inr late ↦ late
      ] in
      omega (arith, lowered.least at found.0 r (omega arith) later (omega (arith, lowered.long, found.1)), lowered.below found.0 r, found.2.below r);
}

-- who meets a row meets the least of all sums that are as great under a rule
pub meets-raised : {rule : ℕ} {members rows : List (List ℕ)} (row raised least result : List ℕ) (at : ℕ) (set : List Bool) → rule < RULES
    → AreSums rule members rows → at < length rows → ((k : ℕ) (d : List ℕ) → 0 ≤ k → k < at → ltb (get_or (get_or rows k d) rule 0) (get_or row rule 0) ≡ true)
    → least ≡ get_or rows at least → ((r : ℕ) → get_or result r 0 ≡ max (get_or raised r 0) (get_or least r 0))
    → get_or row rule 0 ≤ MOST → meets (weigh members set) row ≡ true → meets (weigh members set) raised ≡ true → meets (weigh members set) result ≡ true
meets-raised {rule = rule} {members = members} {rows = rows} row raised least result at set in' sums lt before read made small meets_row meets_raised =
    reached (weigh members set) result (λ r below. omega (
      arith,
      made r,
      ap (λ x. get_or x r 0) (get_or_read rows at least lt read []),
      sums.least set (get_or row rule 0) at r small (reach (weigh members set) row meets_row rule in') lt
          (λ k early. ltb-true _ _ (before k [] (omega arith) early)),
      reach (weigh members set) raised meets_raised r below,
    ))
