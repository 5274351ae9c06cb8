use Rattle.std.proofs.Common.{◌≡◌, take}
use Rattle.tellings.specs.Tellings.{forced_by}
use Rattle.premises.specs.Forcing.{AreGathered}
use Rattle.premises.proofs.forced.Gathered.take_all.Given as goal

-- the facts so far are those of the steps so far that are forced
abbrev pub invariant-loop-step : goal.invariant-loop-step
invariant-loop-step g l = record {
  tried : l.tried.size ≡ l.fn.tried.size;
  so_far : AreGathered (g.K.OutcomeKind.size l.grounds.setting.now.kind.now) l.grounds.setting.now.study.now.axioms l.grounds.core.now l.grounds.lemmas.now l.self;
  facts : l.self.board.literals ≡ forced_by (g.K.OutcomeKind.size l.grounds.setting.now.kind.now) l.grounds.setting.now.study.now.axioms l.grounds.core.now l.grounds.lemmas.now l.fn.self.board.literals (take l.step-index l.steps);
}
