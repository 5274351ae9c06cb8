use Rattle.std.proofs.Common.{take}
use Rattle.texts.specs.Spelled.{spelled}
use Rattle.texts.proofs.PourLemmas.{Added}
use Rattle.rules_text.specs.RulesText.{rule_text}
use Rattle.rules_text.proofs.rules.TablesText.pour.Given as goal

-- the rules so far were added
abbrev pub invariant-loop-place : goal.invariant-loop-place
invariant-loop-place g l =
    Added (g.O.Sink.taken l.initial.out) (g.O.Sink.taken l.out) l.initial.page l.page (g.O.Sink.faults l.initial.out) (g.O.Sink.faults l.out)
    (spelled (rule_text (g.K.OutcomeKind.size l.self.kind.now)) 1 (take l.place l.self.tables.now))
