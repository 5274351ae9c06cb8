use Rattle.std.proofs.Common.{◌≤◌, length}
use Rattle.renumbering.specs.Renumbered.{ArePlacesUpTo}
use Rattle.renumbering.proofs.places.places_of.Given as goal

abbrev pub invariant-loop-j : goal.invariant-loop-j
invariant-loop-j l = record {
  places : ArePlacesUpTo l.old.clauses l.new.clauses l.flags l.j l.places.items;
  next : l.next ≤ length l.new.clauses;
}
