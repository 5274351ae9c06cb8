use Rattle.std.proofs.Common.{◌≡◌, [], take, drop}
use Rattle.meaning.specs.StoryFaults.{story_refusal}
use Rattle.story.proofs.StoryLemmas.{left_refusal}
use Rattle.story.proofs.stories.CheckableStory.check_lemmas.Given as goal

-- the lemmas so far follow, and the board is empty
abbrev pub invariant-loop-place : goal.invariant-loop-place
invariant-loop-place g l = record {
  size : l.board.size ≡ l.fn.board.size;
  cleared : l.board.literals ≡ [];
  rest : story_refusal (g.K.OutcomeKind.size l.self.setting.now.kind.now) l.self.setting.now.study.now.axioms l.self.core.now l.lemmas ≡ left_refusal (g.K.OutcomeKind.size l.self.setting.now.kind.now) l.self.setting.now.study.now.axioms l.self.core.now (take l.place l.lemmas) (drop l.place l.lemmas);
}
