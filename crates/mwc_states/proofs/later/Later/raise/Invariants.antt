use Rattle.mwc_states.proofs.Imports.{◌≡◌, ◌≤◌, ℕ, List, Bool, true, get_or, weigh, meets}
use Rattle.mwc_states.proofs.later.Later.raise.Given as goal

abbrev pub invariant-loop-sums : goal.invariant-loop-sums
invariant-loop-sums l = record {
  above : (r : ℕ) → get_or l.row r 0 ≤ get_or l.raised r 0;
  met : (set : List Bool) → meets (weigh l.self.members.now set) l.row ≡ true → meets (weigh l.self.members.now set) l.raised ≡ true;
}
