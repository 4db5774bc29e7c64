-- Answers that are a value or the first fault.
use Rattle.std.specs.Prelude.{◌≡◌, ℕ, ◌+◌, Bool, true, false, Option, Some, None, Result, Ok, Err}
use Rattle.council_game.specs.declared.fault.GameFault.{GameFault}
use Rattle.council_game.specs.declared.fault.GameFault.TheVariants.{Memory}

infixl 10 ◌>>=◌
-- the first step, and if it is no fault the second
abbrev pub ◌>>=◌ : {A B : Type 0} → Result A GameFault → (A → Result B GameFault) → Result B GameFault
(Ok x) >>= f = f x
(Err e) >>= f = Err e

abbrev pub Done : Type 0
Done = Result (Unit {0}) GameFault

-- the fault, if the test says so
abbrev pub refuse : Bool → GameFault → Done
refuse true fault = Err fault
refuse false fault = Ok tt

-- the fault with the number, from 1, of the place that was found
abbrev pub refuse_at : (ℕ → GameFault) → Option ℕ → Done
refuse_at fault None = Ok tt
refuse_at fault (Some k) = Err (fault (k + 1))

-- What was answered, seen by view, is what was wanted, unless memory ran out.
abbrev pub Gives : {X Y : Type 0} → (X → Y) → Result X GameFault → Result Y GameFault → Type 0
Gives view (Ok x) wanted = wanted ≡ Ok (view x)
Gives view (Err Memory) wanted = Unit {0}
Gives view (Err fault) wanted = wanted ≡ Err fault

abbrev pub Answers : {A : Type 0} → Result A GameFault → Result A GameFault → Type 0
Answers answer wanted = Gives (λ x. x) answer wanted
