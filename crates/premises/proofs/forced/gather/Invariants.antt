use Rattle.std.proofs.Common.{◌≡◌, take}
use Rattle.tellings.specs.Tellings.{forced_facts}
use Rattle.premises.specs.Forcing.{AreGathered}
use Rattle.premises.proofs.forced.gather.Given as goal

-- the facts so far are those of the lemmas so far that are forced
abbrev pub invariant-loop-place : goal.invariant-loop-place
invariant-loop-place g l = record {
  tried : l.tried.size ≡ l.fn.tried.size;
  so_far : AreGathered (g.K.OutcomeKind.size l.grounds.setting.now.kind.now) l.grounds.setting.now.study.now.axioms l.grounds.core.now l.grounds.lemmas.now l.gathered;
  facts : l.gathered.board.literals ≡ forced_facts (g.K.OutcomeKind.size l.grounds.setting.now.kind.now) l.grounds.setting.now.study.now.axioms l.grounds.core.now l.grounds.lemmas.now (take l.place l.story);
}
