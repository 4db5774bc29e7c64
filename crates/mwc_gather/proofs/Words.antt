-- Words that are put and read.
use Rattle.mwc_gather.proofs.Imports.{is_end, ◌≡◌, ℕ, ◌+◌, ◌≤◌, Bool, true, false, ◌||◌, cond, List, [], ◌∷◌, ◌++◌, common_steps, arith}
use Rattle.mwc_gather.proofs.Imports.{sum_by-cons, false≢true, Word, Open, One, Done, list_any, is_done, count_by, sum_by-append, End}

-- the words that say that a slice is whole
done_more : (before row : List Word) → count_by is_done (before ++ row) ≡ count_by is_done before + count_by is_done row
done_more before row = sum_by-append (λ (w : Word). cond (is_done w) 1 0) before row

done_counts : (row : List Word) → list_any is_done row ≡ true → 1 ≤ count_by is_done row
done_counts [] e = absurd (false≢true e)
done_counts (Done j ∷ row) e = let s = sum_by-cons (λ (w : Word). cond (is_done w) 1 0) (Done j) row in omega arith
done_counts (Open j ∷ row) e = grind (arith, done_counts row e, sum_by-cons)
done_counts (One j ∷ row) e = grind (arith, done_counts row e, sum_by-cons)
done_counts (End j ∷ row) e = grind (arith, done_counts row e, sum_by-cons)

-- a worker that had one slice at most still to finish has no more of them after it sent more words
pub ahead_more : (n : ℕ) (before row after : List Word) → after ≡ before ++ row → n ≤ count_by is_done before + 1
    → n ≤ count_by is_done after + 1
ahead_more n before row after e l = grind (arith, common_steps)

-- and none if it was idle, or has said that it is done
pub idle_more : (n : ℕ) (idle now : Bool) (before row after : List Word) → after ≡ before ++ row → now ≡ (idle || list_any is_done row)
    → n ≤ count_by is_done before + 1 → (idle ≡ true → n ≤ count_by is_done before) → now ≡ true → n ≤ count_by is_done after
idle_more n true now before row after e f l i z = grind (arith, done_more)
idle_more n false now before row after e f l i z = grind (arith, done_more, done_counts)

-- a worker has ended if it had, or if one of the words that it sent more is an End
pub ended_after : (ended now : Bool) (before row after : List Word) → after ≡ before ++ row → ended ≡ list_any is_end before
    → now ≡ list_any is_end row → (ended || now) ≡ list_any is_end after
ended_after ended now before row after more was is = grind (arith, common_steps)
