use Rattle.std.proofs.Common.{◌≡◌, true, take, drop}
use Rattle.meaning.specs.Stories.{are_forced}
use Rattle.premises.specs.SoFar.{bare_steps, unforced, IsToldSoFar}
use Rattle.premises.proofs.teller.Teller.tell_steps.Given as goal

-- the steps so far are told, but for those whose facts are forced; the others follow
abbrev pub invariant-loop-step : goal.invariant-loop-step
invariant-loop-step g l = record {
  known_size : l.known.size ≡ l.fn.known.size;
  tried_size : l.tried.size ≡ l.fn.tried.size;
  told : IsToldSoFar (g.K.OutcomeKind.size l.self.grounds.setting.now.kind.now) l.self.grounds.setting.now.study.now.axioms l.self.grounds.core.now l.self.grounds.lemmas.now l.self.forced.now.literals l.lemma.suppose l.known.literals l.passage;
  so_far : bare_steps l.passage.steps ≡ unforced l.self.forced.now.literals (take l.step-index l.step-items);
  others : are_forced (g.K.OutcomeKind.size l.self.grounds.setting.now.kind.now) l.self.grounds.setting.now.study.now.axioms l.self.grounds.core.now l.self.grounds.lemmas.now l.lemma.last l.known.literals (drop l.step-index l.step-items) ≡ true;
}
