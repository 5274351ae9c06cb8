use Rattle.std.proofs.Common.{◌≤◌, drop, length, map}
use Rattle.names.specs.Names.{FindsFirst}
use Rattle.study.proofs.by_name.index_of.Given as goal

abbrev pub invariant-loop-place : goal.invariant-loop-place
invariant-loop-place l = (l.place ≤ length l.entries) × FindsFirst l.index l.place (map (λ e. e.name) (drop l.place l.entries))
