use Rattle.council_run.proofs.runs.find.Goals as goal

pub returns-in-List-clause-finds : goal.returns-in-List-clause-finds
returns-in-List-clause-finds g c = rw c.in-List.is (λ lines same. c.list_by_workers.ensures lines same)

pub returns-in-Count-clause-finds : goal.returns-in-Count-clause-finds
returns-in-Count-clause-finds g c = rw c.in-Count.is (λ lines same. c.count_by_workers.ensures.finds lines same)

pub returns-in-Either-clause-finds : goal.returns-in-Either-clause-finds
returns-in-Either-clause-finds g c = rw c.in-Either.is (λ lines same. c.list_or_count.ensures lines same)
