-- What is still to come is the end of the slice; the slice at no bits is the whole list.
use Rattle.mwc_walk.proofs.Imports.{pow-add, nat_tests, Votes, minimal_coalitions, minimal_below, slice, NotYet, Found, End, sym, ap, ◌∙◌, arith}
use Rattle.mwc_walk.proofs.Imports.{◌*◌, ◌^◌, ◌≤◌, Bool, true, List, [], ◌∷◌, ◌++◌, length, get_or, take, drop, mul-le, CursorIs, SomeSteps}
use Rattle.mwc_walk.proofs.Imports.{common_steps, cond_both, length-drop, filter-append, in_slice, slice_below, Cursor, ◌≡◌, ℕ, ◌+◌, ◌-◌}
use Rattle.mwc_walk.proofs.Imports.{IsPlace, IsVotes, votes_of, listing-is, append-nil, get_or-drop}
use Rattle.std.proofs.Common.{Contains, subst, refl}
use Rattle.std.proofs.lemmas.List.Elements.{All-contains, All-contains_itself, All-filter, Contains-append_right}
use Rattle.council_game.proofs.Shared.Listing.{listed-is}
use Rattle.mwc_walk.specs.{Listed.IsListed, Listed.ListsAll, declared.seek.Seek.Seek}
use Rattle.mwc_walk.specs.Inner.Cursor.{rest_of_slice, bound, Follows, GivesNext, FindsEnd}
use Rattle.std.proofs.{Common.if◌then◌else◌, Common.mul-add, Common.take-append-drop, lemmas.List.take_more}
use Rattle.mwc_walk.proofs.{Imports.pow_pos, Rest.down-split, Shared.Joined.slices-joined, Visits.fit-most}
use Rattle.council_game.specs.Game.{GameView}

-- what is left of a slice is its end
left-is : (v : Votes) (k j b : ℕ) → b ≤ 2 ^ v.members
    → slice_below v k j b ≡ drop (length (slice v k j) - length (slice_below v k j b)) (slice v k j)
unfolding slice_below minimal_below in_slice slice minimal_coalitions
left-is v k j b le =
    let e : b + (2 ^ v.members - b) ≡ 2 ^ v.members = omega arith in grind (arith, common_steps, down-split, filter-append)

bound-below : {v : Votes} {k j p x : ℕ} (fresh : Bool) → IsPlace v k j p x
    → (if fresh then x + 1 else x) * 2 ^ (v.members - p) ≤ 2 ^ v.members
bound-below {v} {k} {j} {p} {x} fresh place =
    let whole : 2 ^ v.members ≡ 2 ^ p * 2 ^ (v.members - p) = (grind (arith, pow-add)) in
    let most = cond_both fresh (x + 1) x (λ i. i ≤ 2 ^ p) (λ _. omega arith) (λ _. omega arith) in grind (arith, nat_tests, mul-le)

-- what is still to come is the slice, less as many of its first as were given
pub rest-is : {v : Votes} {a : Cursor} → CursorIs v a
    → rest_of_slice v a ≡ drop (length (slice v a.bits a.number) - length (rest_of_slice v a)) (slice v a.bits a.number)
rest-is {v} {a} is = left-is v a.bits a.number (bound v a) (bound-below a.fresh is.place)

rest-short : {v : Votes} {a : Cursor} → CursorIs v a → length (rest_of_slice v a) ≤ length (slice v a.bits a.number)
rest-short {v} {a} is = let rest = ap length (rest-is is) in grind (arith, length-drop)

-- one more was given
given-more : (s before after : List ℕ) (c : ℕ) → before ≡ drop (length s - length before) s → before ≡ c ∷ after
    → take (length s - length after) s ≡ take (length s - length before) s ++ c ∷ []
given-more s before after c ends first =
    let at : get_or s (length s - length before) 0 ≡ c = grind (arith, nat_tests, common_steps, get_or-drop) in
    grind (arith, common_steps, take_more, length-drop)

-- the coalitions that a cursor has given
abbrev given-by : Votes → Cursor → List ℕ
given-by v a = take (length (slice v a.bits a.number) - length (rest_of_slice v a)) (slice v a.bits a.number)

-- what was given and what is to come
pub given-whole : {v : Votes} {a : Cursor} → CursorIs v a → given-by v a ++ rest_of_slice v a ≡ slice v a.bits a.number
given-whole is = grind (arith, rest-is, take-append-drop)

-- ---- after some steps
pub follows-of : {v : Votes} {a b : Cursor} (s : Seek) → SomeSteps v a s b → Follows v a b
follows-of NotYet h = h.0
follows-of (Found c) h = h.follows
follows-of End h = h.follows

module _ {v : Votes} {a b : Cursor} where
  same-slice : Follows v a b → slice v b.bits b.number ≡ slice v a.bits a.number
  same-slice h = ap (λ (k : ℕ). slice v k b.number) h.bits ∙ ap (slice v a.bits) h.number

  -- steps that came to no coalition have given the same
  pub given-same : Follows v a b → rest_of_slice v b ≡ rest_of_slice v a → given-by v b ≡ given-by v a
  given-same h same = grind arith

  pub given-next : {c : ℕ} → CursorIs v a → GivesNext v a c b → given-by v b ≡ given-by v a ++ c ∷ []
  given-next {c} is h = grind (arith, common_steps, same-slice, given-more, rest-is)

  -- what is given is in the slice, and so among the minimal winning coalitions
  pub given-listed : {c : ℕ} → CursorIs v a → GivesNext v a c b → IsListed v c
  unfolding slice
  given-listed {c} is h =
      let there : Contains (slice v a.bits a.number) c =
      subst (λ (l : List ℕ). Contains l c) (ap (λ (l : List ℕ). given-by v a ++ l) (sym h.first) ∙ given-whole is)
      (Contains-append_right (given-by v a) (c ∷ rest_of_slice v b) c (0, omega arith, refl)) in
      let listed = All-contains (Contains (minimal_coalitions v)) (slice v a.bits a.number) c
      (All-filter _ (Contains (minimal_coalitions v)) (minimal_coalitions v) (All-contains_itself (minimal_coalitions v))) there in
      let both = (listed-is v c).0 listed in record { listed = listed; minimal = both.1; below = both.0 }

  pub given-end : FindsEnd v a b → given-by v b ≡ given-by v a
  given-end h = given-same h.follows (h.none_after ∙ sym h.none)

-- with one rule, the visits are bounded by what was given
pub visits-most : {v : Votes} {a : Cursor} → CursorIs v a → (a.rules ≡ 1 → a.fresh ≡ true → a.place ≡ a.bits) → length v.rules ≡ 1
    → a.visits ≤ a.bits + (v.members - a.bits) * (length (slice v a.bits a.number) - length (rest_of_slice v a))
visits-most {v} {a} is rests one =
    let short = rest-short is in
    grind (arith, mul-add)

-- under any rules, they are bounded by what there is to look at
pub visits-fit : {v : Votes} {a : Cursor} → CursorIs v a → a.visits ≤ a.bits + v.members * 2 ^ v.members
visits-fit {v} {a} is = fit-most _ _ _ _ _ _ a.fresh (pow_pos (v.members - a.place)) is.place.to is.fit

-- what the calls of a walk rest on
pub ruleset walking = (given-same, given-next, given-end, visits-most)

-- ---- the whole list
-- at no bits there is one slice, which is the whole
pub one-slice : (v : Votes) → IsVotes v → slice v 0 0 ≡ minimal_coalitions v
one-slice v game = sym (append-nil (slice v 0 0)) ∙ slices-joined v 0 (omega arith) (omega arith)

-- what the laws rest on
pub ruleset slices = (slices-joined, one-slice)

-- the first ones are all, if no others are to come
pub lists-all : (g : GameView) (most : ℕ) (list : List ℕ) → IsVotes (votes_of g) → list ≡ take most (slice (votes_of g) 0 0)
    → drop most (slice (votes_of g) 0 0) ≡ [] → ListsAll g most list
lists-all g most list game first none = grind (arith, one-slice, common_steps, listing-is, length-drop)
