use Rattle.council_report.proofs.Imports.{AreLabels}
use Rattle.council_report.proofs.label.labels_of.Given as goal

-- the labels of the places before this one
abbrev pub invariant-loop-place : goal.invariant-loop-place
invariant-loop-place l = AreLabels l.game l.place l.labels.items
