-- What the sending of one slice, and a worker, answer: what only proofs and private functions need.
use Rattle.std.specs.Prelude.{◌≡◌, ℕ, ◌<◌, Bool, true, false, List, [], ◌∷◌, ◌++◌}
use Rattle.mwc_gather.specs.Wording.{IsLast}
use Rattle.mwc_pipe.specs.declared.word.Word.{Word}
use Rattle.mwc_pipe.specs.declared.word.Word.TheVariants.{Done, End, Open}

-- whether a word is the last of a worker
abbrev pub is_end : Word → Bool
is_end (End cut) = true
is_end _ = false

-- whether a word says that a slice is whole
abbrev pub is_done : Word → Bool
is_done (Done j) = true
is_done _ = false

-- the word that says that there are no more, if it was said
abbrev pub end_words : Bool → List Word
end_words false = []
end_words true = End false ∷ []

-- the first words of the row went into the pipe, and the rest is left
abbrev pub SendsFirst : List Word → List Word → List Word → List Word → Type 0
SendsFirst before row after rest = (words : List Word) × (after ≡ before ++ words) × (words ++ rest ≡ row)

-- the first words of the row went into the pipe
abbrev pub SendsSome : List Word → List Word → List Word → Type 0
SendsSome before row after = (rest : List Word) × SendsFirst before row after rest

-- a task was taken that ends the work
abbrev pub TakesLast : ℕ → List Word → List Word → Type 0
TakesLast n old new = (last : Word) × IsLast n last × (new ≡ old ++ last ∷ [])

-- a task was taken that gives slice j
abbrev pub TakesTask : ℕ → ℕ → List Word → List Word → Type 0
TakesTask n j old new = (j < n) × (new ≡ old ++ Open j ∷ [])
