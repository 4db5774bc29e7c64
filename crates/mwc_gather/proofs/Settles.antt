-- From the join of a worker to what is known of its words.
use Rattle.mwc_gather.proofs.Imports.{or-true, false≢true, nat_tests, list_any-append, ◌≡◌, ◌⊎◌, ℕ, ◌<◌, Bool, true, false, List, [], ◌∷◌}
use Rattle.mwc_gather.proofs.Imports.{◌++◌, None, Some, if◌then◌else◌, map, All, refl, arith, sym, ◌∙◌, inl, inr, GatherFault, TooMany}
use Rattle.mwc_gather.proofs.Imports.{Memory, IsSentWhole, HasAllWords, PartBuilder, fault_in_builder, end_words, Slicing, Word, One, Done}
use Rattle.mwc_gather.proofs.Imports.{open_words, wording, coalition_count, IsWholeSending, IsCutSending, slice_words}
use Rattle.mwc_gather.specs.Inner.{PartBuilders.is_cut, PartBuilders.has_cut, Settled.AreSettled}
use Rattle.mwc_gather.proofs.{Readings.Reads, Readings.reads, Tasks.all_taken, Tasks.cut_taken}

pub settles : (g : Slicing) (most : ℕ) (taken left : List Word) (given : List ℕ) (dismissed : Bool) (words : List Word)
    → All (λ j. j < g.slices) given → taken ++ left ≡ open_words given ++ end_words dismissed → IsWholeSending g most taken words
    ⊎ IsCutSending g most taken words → AreSettled g most given dismissed words
settles g most taken left given dismissed words a e (inl w) = grind (arith, all_taken)
settles g most taken left given dismissed words a e (inr w) = grind (arith, nat_tests, cut_taken)

-- a whole sending has no cut
uncut_ones : (l : List ℕ) (j : ℕ) → has_cut (map One l ++ Done j ∷ []) ≡ false
uncut_ones [] j = refl
uncut_ones (c ∷ l) j = uncut_ones l j

uncut : (g : Slicing) (s : List ℕ) → has_cut (wording g s) ≡ false
uncut g [] = refl
uncut g (j ∷ s) = list_any-append is_cut (slice_words g j) (wording g s) ∙ rw (uncut_ones (g.slice j) j) (uncut g s)

sent_uncut : {g : Slicing} {most : ℕ} {given : List ℕ} {dismissed : Bool} {words : List Word} → IsSentWhole g most given dismissed words
    → has_cut words ≡ false
sent_uncut {g} {most} {given} a = grind (arith, list_any-append, uncut)

-- by whether a word said that it was cut
all_sent : {g : Slicing} {most : ℕ} {given : List ℕ} {dismissed : Bool} {words : List Word} → AreSettled g most given dismissed words
    → has_cut words ≡ false → IsSentWhole g most given dismissed words
all_sent (inl a) e = a
all_sent (inr c) e = grind (arith, false≢true, list_any-append, or-true)

cut_is_many : {g : Slicing} {most : ℕ} {given : List ℕ} {dismissed : Bool} {words : List Word} → AreSettled g most given dismissed words
    → has_cut words ≡ true → most < coalition_count g given
cut_is_many (inl a) e = absurd (false≢true (sym (sent_uncut a) ∙ e))
cut_is_many (inr c) e = c.many

-- by what keeps a builder from being a part
pub kept_by : (out_of_memory cut : Bool) → (if out_of_memory then Some Memory else (if cut then Some TooMany else None)) ≡ None
    → (out_of_memory ≡ false) × (cut ≡ false)
kept_by true cut e = cc
kept_by false true e = cc
kept_by false false e = (refl, refl)

pub memory_or_cut : (out_of_memory cut : Bool) (why : GatherFault) → (if out_of_memory then Some Memory else (if cut then Some TooMany else None)) ≡ Some why
    → ((out_of_memory ≡ true) × (why ≡ Memory)) ⊎ ((out_of_memory ≡ false) × (cut ≡ true) × (why ≡ TooMany))
memory_or_cut true cut why e = inl (refl, cc)
memory_or_cut false true why e = inr (refl, refl, cc)
memory_or_cut false false why e = cc

-- what a builder of all words is, if nothing keeps it from being a part
pub whole_sent : {g : Slicing} {most : ℕ} {given : List ℕ} {dismissed : Bool} {builder : PartBuilder} (h : HasAllWords g most given dismissed builder)
    → fault_in_builder builder ≡ None → IsSentWhole g most given dismissed h.words
whole_sent {builder = builder} h e = all_sent h.settled (sym h.keeps.cut_is ∙ (kept_by builder.out_of_memory builder.cut e).1)

pub whole_reads : {g : Slicing} {most : ℕ} {given : List ℕ} {dismissed : Bool} {builder : PartBuilder} → HasAllWords g most given dismissed builder
    → fault_in_builder builder ≡ None → Reads g given builder.got.items builder.ends.items
whole_reads {builder = builder} h e =
    let out_of_memory = (kept_by builder.out_of_memory builder.cut e).0 in
    reads builder.got.items builder.ends.items (whole_sent h e) (h.keeps.got_are out_of_memory) (h.keeps.ends_are out_of_memory)

-- and what it answers if there was a cut
pub whole_many : {g : Slicing} {most : ℕ} {given : List ℕ} {dismissed : Bool} {builder : PartBuilder} → HasAllWords g most given dismissed builder
    → builder.cut ≡ true → most < coalition_count g given
whole_many h e = cut_is_many h.settled (sym h.keeps.cut_is ∙ e)
