-- Steps of a loop over a walk.
use Rattle.std.proofs.Common.{◌≡◌, ℕ, ◌<◌, ◌≤◌, List, [], ◌∷◌, ◌++◌, append_assoc, sym, ap, ◌∙◌, subst, arith}
use Rattle.std.proofs.lemmas.List.Elements.{All-push, All-weaker, Contains-push, Contains-append_left}
use Rattle.mwc_walk.specs.Laws.{IsLeast}

pub one-later : (before after to_come left all : List ℕ) (c : ℕ) → after ≡ before ++ c ∷ [] → to_come ≡ c ∷ left
    → before ++ to_come ≡ all → after ++ left ≡ all
one-later before after to_come left all c more first whole =
    ap (λ (l : List ℕ). l ++ left) more ∙ append_assoc before (c ∷ []) left ∙ ap (λ (l : List ℕ). before ++ l) (sym first) ∙ whole

pub stays : (f : ℕ → ℕ) (before after : List ℕ) (least c : ℕ) → after ≡ before ++ c ∷ [] → IsLeast f before least → f least ≤ f c
    → IsLeast f after least
stays f before after least c more is le = subst (λ (l : List ℕ). IsLeast f l least) (sym more) (record {
  listed = Contains-append_left before (c ∷ []) least is.listed;
  least = All-push (λ d. f least ≤ f d) before c is.least le;
})

pub next : (f : ℕ → ℕ) (before after : List ℕ) (least c : ℕ) → after ≡ before ++ c ∷ [] → IsLeast f before least → f c < f least
    → IsLeast f after c
next f before after least c more is lt = subst (λ (l : List ℕ). IsLeast f l c) (sym more) (record {
  listed = Contains-push before c;
  least = All-push (λ d. f c ≤ f d) before c
      (All-weaker (λ d. f least ≤ f d) (λ d. f c ≤ f d) (λ d le. omega (arith, le, lt)) before is.least) (omega arith);
})

pub ruleset steps = (one-later, stays, next)
