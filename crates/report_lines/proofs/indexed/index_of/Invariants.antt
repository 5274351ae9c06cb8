use Rattle.std.proofs.Common.{◌≤◌, drop, length}
use Rattle.names.specs.Names.{FindsFirst}
use Rattle.report_lines.proofs.NameLemmas.{names_of}
use Rattle.report_lines.proofs.indexed.index_of.Given as goal

abbrev pub invariant-loop-place : goal.invariant-loop-place
invariant-loop-place l = (l.place ≤ length l.axioms) × FindsFirst l.index l.place (names_of (drop l.place l.axioms))
