-- All slices of a game, each once, and their coalitions.
use Rattle.mwc_gather.proofs.Imports.{all_total, All-weaker, range_with_len, HasPieces, slicing, GameView, ◌<◌, Bool, cond, [], ◌∷◌, part_slices}
use Rattle.mwc_gather.proofs.Imports.{count_by, refl, flat_map, eqb, sum_by, nat_tests, common_steps, sum_by-append, sum_by-cons, times_in}
use Rattle.mwc_gather.proofs.Imports.{arith, ◌≡◌, ℕ, ◌≤◌, List, length, All, ap, sym, ◌∙◌, votes_of, slices-joined, Slicing, IsPart, Part}
use Rattle.mwc_gather.proofs.Imports.{AreAssigned, ◌+◌, ◌++◌, map, map-append}
use Rattle.mwc_gather.proofs.{Firsts.assigned_once, Readings.length-joined, Readings.piece_is}
use Rattle.std.proofs.{Common.◌^◌, Common.lt-ltb, lemmas.List.Folds.flat_map-map, lemmas.List.FromFn.map-range_with_len_more}
use Rattle.council_game.specs.Votes.{minimal_coalitions}
use Rattle.mwc_gather.specs.Parts.{HasEachSliceOnce}

-- the slices have as many coalitions as there are
pub all_total_is : (game : GameView) (bits : ℕ) → bits ≤ 10 → bits ≤ length game.names
    → length (minimal_coalitions (votes_of game)) ≡ all_total (slicing game bits)
all_total_is game bits few within =
    sym (ap (λ (l : List ℕ). length l) (slices-joined (votes_of game) bits few within))
    ∙ length-joined (slicing game bits) (range_with_len 0 (2 ^ bits))

-- each piece of a part is the slice of its number
has_pieces : (g : Slicing) (p : Part) → IsPart g p → HasPieces g.slice p
has_pieces g p part m l = grind (arith, piece_is)

pub all_pieces : (g : Slicing) (parts : List Part) → All (IsPart g) parts → All (HasPieces g.slice) parts
all_pieces g parts a = All-weaker (IsPart g) (HasPieces g.slice) (has_pieces g) parts a

-- how often all parts have a slice
count_is : (j : ℕ) (parts : List Part)
    → count_by (λ i. eqb i j) (flat_map (λ (p : Part). p.slices.items) parts) ≡ sum_by (times_in j) (part_slices parts)
count_is j [] = refl
count_is j (p ∷ parts) = grind (arith, nat_tests, common_steps, count_is j parts, sum_by-append, sum_by-cons)

-- if all slices are given, the parts have each once
pub assigned_each_once : {n : ℕ} (parts : List Part) → AreAssigned n (part_slices parts) → HasEachSliceOnce n parts
assigned_each_once parts d j = count_is j parts ∙ assigned_once j d

-- each slice is in a part
pub each_once : (n : ℕ) (parts : List Part) → HasEachSliceOnce n parts → (j : ℕ) → j < n → sum_by (times_in j) (part_slices parts) ≡ 1
each_once n parts h j l = sym (count_is j parts) ∙ h j ∙ ap (λ (b : Bool). cond {A = ℕ} b 1 0) (lt-ltb j n l)

-- one more piece of a row
pub pieces_more : {X : Type 0} (f : X → List ℕ) (slice : ℕ → List ℕ) (n : ℕ) (row : List X) (x : X)
    → map f row ≡ map slice (range_with_len 0 n) → f x ≡ slice n → map f (row ++ x ∷ []) ≡ map slice (range_with_len 0 (n + 1))
pieces_more f slice n row x e h = rw (map-append f row (x ∷ []), e, h) (sym (map-range_with_len_more slice 0 n n (omega arith)))

-- rows of the same pieces, joined
pub same_joined : {X Y : Type 0} (f : X → List ℕ) (g : Y → List ℕ) (xs : List X) (ys : List Y) → map f xs ≡ map g ys
    → flat_map f xs ≡ flat_map g ys
same_joined f g xs ys e = sym (flat_map-map (λ (l : List ℕ). l) f xs) ∙ ap (flat_map (λ (l : List ℕ). l)) e
    ∙ flat_map-map (λ (l : List ℕ). l) g ys
