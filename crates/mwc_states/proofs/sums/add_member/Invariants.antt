use Rattle.mwc_states.proofs.Imports.{length, ◌-◌, ◌+◌, AddsMember}
use Rattle.mwc_states.proofs.sums.add_member.Given as goal

abbrev pub invariant-loop-j : goal.invariant-loop-j
invariant-loop-j l = AddsMember l.rule l.member l.sums l.all.items l.i l.j

abbrev pub decreases-loop-j : goal.decreases-loop-j
decreases-loop-j l = length l.sums - l.i + (length l.sums - l.j)
