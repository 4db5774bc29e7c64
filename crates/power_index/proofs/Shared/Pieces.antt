-- Lists in pieces.
use Rattle.power_index.proofs.Imports.{◌++◌, List, [], ◌∷◌, length, refl, subst, All}
use Rattle.std.proofs.Common.{flat_map, take_at, drop_at}
use Rattle.std.proofs.lemmas.List.Elements.{All-nil, All-cons, All-drop, All-take}

all-front : {Y : Type 0} (P : Y → Type 0) (ys zs : List Y) → All P (ys ++ zs) → All P ys
all-front P ys zs h = subst (All P) (take_at ys zs (length ys) refl) (All-take P (length ys) (ys ++ zs) h)

all-back : {Y : Type 0} (P : Y → Type 0) (ys zs : List Y) → All P (ys ++ zs) → All P zs
all-back P ys zs h = subst (All P) (drop_at ys zs (length ys) refl) (All-drop P (length ys) (ys ++ zs) h)

-- what holds of each element of the list holds of each of a piece
pub pieces-all : {X Y : Type 0} (P : Y → Type 0) (f : X → List Y) (xs : List X) → All P (flat_map f xs) → All (λ x. All P (f x)) xs
pieces-all P f [] all = All-nil (λ x. All P (f x))
pieces-all P f (x ∷ xs) all =
    All-cons (λ x. All P (f x)) x xs (all-front P (f x) (flat_map f xs) all) (pieces-all P f xs (all-back P (f x) (flat_map f xs) all))
