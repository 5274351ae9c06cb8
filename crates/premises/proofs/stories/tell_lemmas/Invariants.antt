use Rattle.std.proofs.Common.{◌≡◌, length}
use Rattle.premises.specs.Told.{AreTold}
use Rattle.premises.proofs.stories.tell_lemmas.Given as goal

-- the lemmas so far are told
abbrev pub invariant-loop-place : goal.invariant-loop-place
invariant-loop-place g l = record {
  known : l.desk.known.size ≡ g.K.OutcomeKind.size l.accepted.setting.now.kind.now;
  tried : l.desk.tried.size ≡ g.K.OutcomeKind.size l.accepted.setting.now.kind.now;
  all : length l.tellings ≡ l.place;
  each : AreTold (g.K.OutcomeKind.size l.accepted.setting.now.kind.now) l.accepted.setting.now.study.now.axioms l.accepted.core.now l.accepted.story.now l.forced.literals l.tellings;
}
