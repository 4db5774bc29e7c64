use Rattle.std.proofs.lemmas.Bool.Decides.{nat_tests}
use Rattle.std.proofs.Common.{arith}
use Rattle.mwc_gather.proofs.{FirstWords.some_of_more, FirstWords.some_later, Imports.refl}
use Rattle.mwc_gather.proofs.send.send_last.Goals as goal

pub returns-then-not-add-clause-refused : goal.returns-then-not-add-clause-refused
returns-then-not-add-clause-refused g c = grind (arith, nat_tests, some_of_more)

pub returns-clause-refused : goal.returns-clause-refused
returns-clause-refused g c = λ h. let no = c.send-sent.ensures.refused h in
    (some_later _ _ _ _ _ (c.if-not-add.ensures.added refl).0 (rw c.words.ensures at no.0), no.1)
