use Rattle.std.proofs.Common.{◌≡◌, ◌++◌, drop}
use Rattle.samples.specs.Sample.{sample_entries, entries_by}
use Rattle.samples.proofs.numbers.entries_by.Given as goal

abbrev pub invariant-loop-place : goal.invariant-loop-place
invariant-loop-place l = l.entries ++ entries_by l.left (drop l.place (sample_entries l.kind)) ≡ entries_by l.digits (sample_entries l.kind)
