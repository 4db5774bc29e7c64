-- What a buffer shows.
use Rattle.std.proofs.Common.{◌≡◌, ◌≤◌, ◌++◌, ◌∙◌, ℕ, List, length, take, drop, min, ap, sym, arith, take_all, length-take-le}
use Rattle.std.proofs.{Math.Nat.min_comm, lemmas.List.take_min, lemmas.List.drop_all, lemmas.List.drop_min}
use Rattle.council_c.specs.Answer.{Shows}

-- a copy of as much as fits
pub shows-copy : (text room front : List ℕ) (n : ℕ) → n ≡ min (length text) (length room) → front ≡ take n text
    → Shows text room (front ++ drop n room)
unfolding Shows
shows-copy text room front n least is =
    let begin = is ∙ ap (λ (k : ℕ). take k text) (least ∙ min_comm (length text) (length room)) ∙ take_min (length room) text in
    let rest = ap (λ (k : ℕ). drop k room) least ∙ drop_min (length text) room in
    ap (λ (l : List ℕ). l ++ drop n room) begin ∙ ap (λ (l : List ℕ). take (length room) text ++ l) rest

-- the beginning of a text, as long as the buffer, shows as the text does
pub shows-beginning : (begin text room after : List ℕ) (n : ℕ) → n ≤ length text → begin ≡ take n text → length begin ≡ length room
    → Shows begin room after → Shows text room after
unfolding Shows
shows-beginning begin text room after n few is full shown =
    let long : length begin ≡ n = ap (λ (l : List ℕ). length l) is ∙ length-take-le n text few in
    let front = take_all (length room) begin (omega (arith, full)) ∙ is ∙ ap (λ (k : ℕ). take k text) (sym long ∙ full) in
    let rest = drop_all (length begin) room (omega (arith, full)) ∙ sym (drop_all (length text) room (omega (arith, full, long, few))) in
    shown ∙ ap (λ (l : List ℕ). l ++ drop (length begin) room) front ∙ ap (λ (l : List ℕ). take (length room) text ++ l) rest
