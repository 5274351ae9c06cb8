use Rattle.std.proofs.Common.{◌≡◌, ◌+◌, drop, length}
use Rattle.meaning.specs.StoryFaults.{steps_fault}
use Rattle.story.proofs.lemmas.CheckableLemma.take_steps.Given as goal

-- the steps so far have no fault, and their literals are on the board
abbrev pub invariant-loop-step : goal.invariant-loop-step
invariant-loop-step g l = record {
  size : l.board.size ≡ l.fn.board.size;
  place : l.place ≡ length l.self.lemma.now.suppose + 1 + l.step-index;
  rest : steps_fault (g.K.OutcomeKind.size l.self.grounds.now.setting.now.kind.now) l.self.grounds.now.setting.now.study.now.axioms l.self.grounds.now.core.now l.self.grounds.now.lemmas.now l.self.lemma.now.last (length l.self.lemma.now.suppose + 1) l.self.lemma.now.suppose l.steps
      ≡ steps_fault (g.K.OutcomeKind.size l.self.grounds.now.setting.now.kind.now) l.self.grounds.now.setting.now.study.now.axioms l.self.grounds.now.core.now l.self.grounds.now.lemmas.now l.self.lemma.now.last l.place l.board.literals (drop l.step-index l.steps);
}
