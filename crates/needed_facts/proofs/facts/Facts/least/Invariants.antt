use Rattle.std.proofs.Common.{◌≡◌, ◌≤◌}
use Rattle.needed_facts.specs.Rests.{RestsOn}
use Rattle.needed_facts.proofs.facts.Facts.least.Given as goal

-- the reason rests on what was kept so far, and no more tries failed than were made
abbrev pub invariant-loop-turn : goal.invariant-loop-turn
invariant-loop-turn g l =
    (l.tried.size ≡ g.K.OutcomeKind.size l.self.grounds.now.setting.now.kind.now) × RestsOn (g.K.OutcomeKind.size l.self.grounds.now.setting.now.kind.now) l.self.grounds.now.setting.now.study.now.axioms l.self.grounds.now.core.now l.self.grounds.now.lemmas.now l.self.board.now.literals l.others l.reason l.kept × (l.place ≤ l.turn)
