-- The words that a worker sends.
use Rattle.std.specs.Prelude.{◌≡◌, ℕ, ◌+◌, ◌<◌, ◌≤◌, true, false, List, [], ◌∷◌, ◌++◌, length, map, take, All, ⊤}
use Rattle.std.specs.List.{flat_map}
use Rattle.std.specs.List.{sum_by}
use Rattle.mwc_gather.specs.Slicing.{Slicing}
use Rattle.mwc_pipe.specs.declared.word.Word.{Word}
use Rattle.mwc_pipe.specs.declared.word.Word.TheVariants.{Open, One, Done, End}

-- the words of a slice
abbrev pub slice_words : Slicing → ℕ → List Word
slice_words g j = (Open j ∷ map One (g.slice j)) ++ Done j ∷ []

-- the words of a slice that is cut after n coalitions
abbrev pub cut_words : Slicing → ℕ → ℕ → List Word
cut_words g j n = Open j ∷ map One (take n (g.slice j))

-- the words of the slices, one after another
abbrev pub wording : Slicing → List ℕ → List Word
wording g slices = flat_map (slice_words g) slices

-- how many coalitions the slices have in all
abbrev pub coalition_count : Slicing → List ℕ → ℕ
coalition_count g js = sum_by (λ j. length (g.slice j)) js

-- the tasks that give these slices
abbrev pub open_words : List ℕ → List Word
open_words slices = map Open slices

-- whether a task ends the work
abbrev pub IsLast : ℕ → Word → Type 0
IsLast n (Open j) = n ≤ j
IsLast n _ = ⊤

-- all slices that the tasks gave, and the end
pub record IsWholeSending (g : Slicing) (most : ℕ) (tasks words : List Word) : Type 0 where
  pub slices : List ℕ
  pub last : Word
  pub tasks_are : tasks ≡ open_words slices ++ last ∷ []
  pub below : All (λ j. j < g.slices) slices
  pub ends : IsLast g.slices last
  pub few : coalition_count g slices ≤ most
  pub words_are : words ≡ wording g slices ++ End false ∷ []

-- the slices up to their coalition number most + 1, and the end
pub record IsCutSending (g : Slicing) (most : ℕ) (tasks words : List Word) : Type 0 where
  pub slices : List ℕ
  pub slice : ℕ
  pub count : ℕ
  pub tasks_are : tasks ≡ open_words slices ++ Open slice ∷ []
  pub below : All (λ j. j < g.slices) slices
  pub last_below : slice < g.slices
  pub some : 0 < count
  pub full : coalition_count g slices + count ≡ most + 1
  pub within : count ≤ length (g.slice slice)
  pub words_are : words ≡ (wording g slices ++ cut_words g slice count) ++ End true ∷ []
