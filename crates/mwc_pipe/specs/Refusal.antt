-- What a put answers.
use Rattle.std.specs.Prelude.{◌≡◌, Bool, true, List, [], ◌∷◌, ◌++◌, Result, Ok, Err}
use Rattle.mwc_pipe.specs.declared.step.Refused.{Refused}
use Rattle.mwc_pipe.specs.declared.step.Refused.TheVariants.{Closed, Full, Memory}

module _ {T : Type 0} where
  -- the item that is handed back
  abbrev pub handed_back : Refused T → T
  handed_back (Closed x) = x
  handed_back (Full x) = x
  handed_back (Memory x) = x

  -- whether the pipe is broken after this refusal
  abbrev pub broken_after : Refused T → Bool → Bool
  broken_after (Closed x) broken = true
  broken_after (Full x) broken = broken
  broken_after (Memory x) broken = true

  -- the item follows those that were accepted, or is handed back; the pipe is as broken as before,
  -- or by the refusal
  abbrev pub PutsIn : T → List T → Bool → Result Unit (Refused T) → List T → Bool → Type 0
  PutsIn item accepted broken (Ok _) after now = (after ≡ accepted ++ item ∷ []) × (now ≡ broken)
  PutsIn item accepted broken (Err e) after now = (handed_back e ≡ item) × (after ≡ accepted) × (now ≡ broken_after e broken)
