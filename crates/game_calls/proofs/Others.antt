-- One member more or less does not change the others.
use Rattle.std.proofs.Common.{◌≡◌, ◌≢◌, ◌∙◌, ℕ, ◌+◌, ◌<◌, Bool, true, false, ◌||◌, List, [], ◌∷◌, ◌++◌, length, get_or, take, filter, sym}
use Rattle.std.proofs.Common.{ap, arith, Option, Some, None, eq-eqb, append-nil}
use Rattle.std.proofs.{Math.Bool.or-false, lemmas.Grind.common_steps, lemmas.List.Folds.list_any_more}
use Rattle.std.specs.List.{list_any, range_with_len}
use Rattle.std.proofs.lemmas.Bool.{cases_eq, cond-true, cond-false, or_right}
use Rattle.council_game.specs.{Game.GameView, Game.IsGame, Members.contains, Ranks.member_at, Votes.has}
use Rattle.council_game.proofs.Shared.{Lists.filter_one_more, Making.ranks-are}
use Rattle.game_calls.specs.Named.{member_named, is_that, is_named}

pub others_kept : (g : GameView) → IsGame g → (n m place a b : ℕ) → n ≡ length g.names → place ≡ get_or g.ranks m 0 → m < length g.names
    → ((p : ℕ) → p < n → p ≢ place → has n p b ≡ has n p a) → (i : ℕ) → i < length g.names → i ≢ m → contains g i b ≡ contains g i a
others_kept g game n m place a b count at lm kept i li other =
    let are = ranks-are g game in
    let apart : get_or g.ranks i 0 ≢ place = λ e.
    other (sym (are.member_back i li) ∙ ap (member_at g.ranks) (e ∙ at) ∙ are.member_back m lm) in grind (arith)

-- what passes a test among one number more
pub passes : (p : ℕ → Bool) (n : ℕ) (xs ys : List ℕ) → p n ≡ true → ys ≡ xs ++ n ∷ [] → xs ≡ filter p (range_with_len 0 n)
    → ys ≡ filter p (range_with_len 0 (n + 1))
passes p n xs ys met pushed before = grind (arith, common_steps, cond-true, filter_one_more)

pub fails : (p : ℕ → Bool) (n : ℕ) (xs : List ℕ) → p n ≡ false → xs ≡ filter p (range_with_len 0 n)
    → xs ≡ filter p (range_with_len 0 (n + 1))
fails p n xs unmet before = grind (arith, common_steps, append-nil, cond-false, filter_one_more)

-- ---- one name more
pub named : {X : Type 0} (text : X → List ℕ) (g : GameView) (names : List X) (k m a b : ℕ) (d : X) → k < length names
    → member_named g (text (get_or names k d)) ≡ Some m → contains g m b ≡ true
    → ((i : ℕ) → i < length g.names → i ≢ m → contains g i b ≡ contains g i a)
    → ((i : ℕ) → i < length g.names → contains g i a ≡ list_any (λ name. is_named g i (text name)) (take k names))
    → (i : ℕ) → i < length g.names → contains g i b ≡ list_any (λ name. is_named g i (text name)) (take (k + 1) names)
named {X} text g names k m a b d lt found inside others before i li =
    let p : X → Bool = λ name. is_named g i (text name) in
    let more : list_any p (take (k + 1) names) ≡ (list_any p (take k names) || is_that i (Some m)) =
    list_any_more p names k d lt ∙ ap (λ (o : Option ℕ). list_any p (take k names) || is_that i o) found in
    grind (arith, cases_eq, or_right, eq-eqb, or-false)

pub unnamed : {X : Type 0} (text : X → List ℕ) (g : GameView) (names : List X) (k a : ℕ) (d : X) → k < length names
    → member_named g (text (get_or names k d)) ≡ None
    → ((i : ℕ) → i < length g.names → contains g i a ≡ list_any (λ name. is_named g i (text name)) (take k names))
    → (i : ℕ) → i < length g.names → contains g i a ≡ list_any (λ name. is_named g i (text name)) (take (k + 1) names)
unnamed {X} text g names k a d lt found before i li =
    let p : X → Bool = λ name. is_named g i (text name) in
    before i li ∙ sym (list_any_more p names k d lt
    ∙ ap (λ (o : Option ℕ). list_any p (take k names) || is_that i o) found ∙ or-false _)
