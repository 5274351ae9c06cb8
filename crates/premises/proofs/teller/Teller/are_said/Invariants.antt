use Rattle.std.proofs.Common.{◌≡◌, true, take}
use Rattle.std.specs.Prelude.{slice_get}
use Rattle.std.specs.List.{list_all}
use Rattle.tellings.specs.Tellings.{says_step}
use Rattle.premises.specs.Checking.{IsLoaded}
use Rattle.premises.proofs.teller.Teller.are_said.Given as goal

-- the steps so far are said, and on the board is what the sentence of the last one rests on
abbrev pub invariant-loop-placed : goal.invariant-loop-placed
invariant-loop-placed g l = record {
  size : l.tried.size ≡ l.fn.tried.size;
  board : IsLoaded l.passage.sentences l.loaded l.tried.literals;
  said : list_all (λ placed. says_step (g.K.OutcomeKind.size l.self.grounds.setting.now.kind.now) l.self.grounds.setting.now.study.now.axioms l.self.grounds.core.now l.self.grounds.lemmas.now (slice_get l.passage.sentences placed.sentence) placed.step) (take l.placed-index l.placed-items) ≡ true;
}
