use Rattle.std.proofs.Common.{◌≡◌, ◌≤◌, length}
use Rattle.cnf.specs.Fresh.{added_by}
use Rattle.retell.proofs.StepLaws.{AreStepsUpTo}
use Rattle.retell.proofs.TrimmedLines.{IsLineHere}
use Rattle.retell.proofs.teller.Teller.lemma.Given as goal

abbrev pub invariant-loop-i : goal.invariant-loop-i
invariant-loop-i g l = record {
  stamp : l.marks.stamp ≡ l.fn.marks.stamp;
  room : length l.marks.stamps.items ≡ length l.fn.marks.stamps.items;
  some : 1 ≤ length l.hints;
  line : IsLineHere (g.K.OutcomeKind.size l.self.kind.now) l.self.study.now.axioms l.self.clauses.now l.self.proof.now l.at l.line l.earlier (added_by l.line.step) l.hints;
  steps : AreStepsUpTo (g.K.OutcomeKind.size l.self.kind.now) l.self.study.now.axioms l.self.clauses.now l.earlier (added_by l.line.step) l.hints l.i l.fn.marks.stamp l.marks.stamps.items l.steps;
}
