use Rattle.std.proofs.Common.{Ok}
use Rattle.verdicts.specs.Lines.{Title, VotersAre, AlternativesAre, BallotsAre, AbsentIs, AxiomsAre, SaysPossible, SaysImpossible, SaysUndecided, LimitIs, RuleOf, CoreIs, LemmasAre, Heading, Suppose, So, Clash, WithRule, WithOpen, End}
use Rattle.report_lines.specs.declared.lines.Line.TheVariants as held
use Rattle.report.proofs.TakingLemmas.{said_of, taken_as, at_suppose, at_so, at_clash, at_rule, at_open, core_names, holds_rows, suppose_in, so_in}
use Rattle.report.proofs.judging.Judging.take.Goals as goal

pub take_row-requires-clause-row : goal.take_row-requires-clause-row
take_row-requires-clause-row g c κs within = holds_rows c.args.subject.now.setting.study.now c.args.self.now c.args.text.now c.args.line.now c.in-Row.profile c.in-Row.outcome c.in-Row.is c.requires.read c.requires.line

pub take_suppose-requires-clause-literal : goal.take_suppose-requires-clause-literal
take_suppose-requires-clause-literal g c κs within = suppose_in c.args.subject.now.setting.study.now c.args.self.now c.args.text.now c.args.line.now c.in-Suppose.literal c.in-Suppose.is c.requires.read c.requires.line

pub take_so-requires-clause-literal : goal.take_so-requires-clause-literal
take_so-requires-clause-literal g c κs within = so_in c.args.subject.now.setting.study.now c.args.self.now c.args.text.now c.args.line.now c.in-So.literal c.in-So.reason c.in-So.is c.requires.read c.requires.line

pub returns-in-Title : goal.returns-in-Title
returns-in-Title g c = λ s w h e f.
    let study = c.args.subject.now.setting.study.now in
    let t = said_of study c.args.line.now (held.Title c.in-Title.version) w c.in-Title.is f in
    taken_as study s w (Title c.in-Title.version) c.take_title.new.self (Ok c.take_title.result) t (c.take_title.ensures s h)

pub returns-in-VotersAre : goal.returns-in-VotersAre
returns-in-VotersAre g c = λ s w h e f.
    let study = c.args.subject.now.setting.study.now in
    let t = said_of study c.args.line.now (held.VotersAre c.in-VotersAre.count) w c.in-VotersAre.is f in
    taken_as study s w (VotersAre t.0) c.take_voters.new.self (Ok c.take_voters.result) t.1 (c.take_voters.ensures s t.0 h t.2)

pub returns-in-AlternativesAre : goal.returns-in-AlternativesAre
returns-in-AlternativesAre g c = λ s w h e f.
    let study = c.args.subject.now.setting.study.now in
    let t = said_of study c.args.line.now (held.AlternativesAre c.in-AlternativesAre.count) w c.in-AlternativesAre.is f in
    taken_as study s w (AlternativesAre t.0) c.take_alternatives.new.self (Ok c.take_alternatives.result) t.1 (c.take_alternatives.ensures s t.0 h t.2)

pub returns-in-BallotsAre : goal.returns-in-BallotsAre
returns-in-BallotsAre g c = λ s w h e f.
    let study = c.args.subject.now.setting.study.now in
    let t = said_of study c.args.line.now (held.BallotsAre c.in-BallotsAre.same) w c.in-BallotsAre.is f in
    taken_as study s w (BallotsAre t.0) c.take_ballots.new.self (Ok c.take_ballots.result) t.1 (c.take_ballots.ensures study s t.0 h t.2)

pub returns-in-AbsentIs : goal.returns-in-AbsentIs
returns-in-AbsentIs g c = λ s w h e f.
    let study = c.args.subject.now.setting.study.now in
    let t = said_of study c.args.line.now (held.AbsentIs c.in-AbsentIs.absent) w c.in-AbsentIs.is f in
    taken_as study s w (AbsentIs c.in-AbsentIs.absent) c.take_absent.new.self (Ok c.take_absent.result) t (c.take_absent.ensures s h)

pub returns-in-AxiomsAre : goal.returns-in-AxiomsAre
returns-in-AxiomsAre g c = λ s w h e f.
    let study = c.args.subject.now.setting.study.now in
    let t = said_of study c.args.line.now (held.AxiomsAre c.in-AxiomsAre.same) w c.in-AxiomsAre.is f in
    taken_as study s w (AxiomsAre t.0) c.take_axioms.new.self (Ok c.take_axioms.result) t.1 (c.take_axioms.ensures study s t.0 h t.2)

pub returns-in-SaysPossible : goal.returns-in-SaysPossible
returns-in-SaysPossible g c = λ s w h e f.
    let study = c.args.subject.now.setting.study.now in
    let t = said_of study c.args.line.now held.SaysPossible w c.in-SaysPossible.is f in
    taken_as study s w SaysPossible c.take_possible.new.self (Ok c.take_possible.result) t (c.take_possible.ensures study s h)

pub returns-in-SaysImpossible : goal.returns-in-SaysImpossible
returns-in-SaysImpossible g c = λ s w h e f.
    let study = c.args.subject.now.setting.study.now in
    let t = said_of study c.args.line.now held.SaysImpossible w c.in-SaysImpossible.is f in
    taken_as study s w SaysImpossible c.take_impossible.new.self (Ok c.take_impossible.result) t (c.take_impossible.ensures study s h)

pub returns-in-SaysUndecided : goal.returns-in-SaysUndecided
returns-in-SaysUndecided g c = λ s w h e f.
    let study = c.args.subject.now.setting.study.now in
    let t = said_of study c.args.line.now held.SaysUndecided w c.in-SaysUndecided.is f in
    taken_as study s w SaysUndecided c.take_undecided.new.self (Ok c.take_undecided.result) t (c.take_undecided.ensures study s h)

pub returns-in-LimitIs : goal.returns-in-LimitIs
returns-in-LimitIs g c = λ s w h e f.
    let study = c.args.subject.now.setting.study.now in
    let t = said_of study c.args.line.now (held.LimitIs c.in-LimitIs.field-0) w c.in-LimitIs.is f in
    taken_as study s w (LimitIs t.0) c.take_limit.new.self (Ok c.take_limit.result) t.1 (c.take_limit.ensures study s t.0 h)

pub returns-in-RuleOf : goal.returns-in-RuleOf
returns-in-RuleOf g c = λ s w h e f.
    let study = c.args.subject.now.setting.study.now in
    let t = said_of study c.args.line.now (held.RuleOf c.in-RuleOf.count) w c.in-RuleOf.is f in
    taken_as study s w (RuleOf t.0) c.take_rule_of.new.self (Ok c.take_rule_of.result) t.1 (c.take_rule_of.ensures s t.0 h t.2)

pub returns-in-CoreIs : goal.returns-in-CoreIs
returns-in-CoreIs g c = λ s w h e f.
    let study = c.args.subject.now.setting.study.now in
    let t = said_of study c.args.line.now held.CoreIs w c.in-CoreIs.is f in
    taken_as study s w (CoreIs t.0) c.take_core.new.self c.take_core.result t.1 (c.take_core.ensures s t.0 h (core_names study s c.args.text.now w t.0 e t.1))

pub returns-in-LemmasAre : goal.returns-in-LemmasAre
returns-in-LemmasAre g c = λ s w h e f.
    let study = c.args.subject.now.setting.study.now in
    let t = said_of study c.args.line.now (held.LemmasAre c.in-LemmasAre.count) w c.in-LemmasAre.is f in
    taken_as study s w (LemmasAre t.0) c.take_lemmas.new.self (Ok c.take_lemmas.result) t.1 (c.take_lemmas.ensures study s t.0 h t.2)

pub returns-in-Heading : goal.returns-in-Heading
returns-in-Heading g c = λ s w h e f.
    let study = c.args.subject.now.setting.study.now in
    let t = said_of study c.args.line.now (held.Heading c.in-Heading.field-0) w c.in-Heading.is f in
    taken_as study s w (Heading t.0) c.take_heading.new.self (Ok c.take_heading.result) t.1 (c.take_heading.ensures study s t.0 h)

pub returns-in-Suppose : goal.returns-in-Suppose
returns-in-Suppose g c = λ s w h e f.
    let study = c.args.subject.now.setting.study.now in
    let t = said_of study c.args.line.now (held.Suppose c.in-Suppose.literal) w c.in-Suppose.is f in
    taken_as study s w (Suppose c.in-Suppose.literal) c.take_suppose.new.self c.take_suppose.result t (c.take_suppose.ensures s h (at_suppose study s c.args.text.now w c.in-Suppose.literal e t).0)

pub returns-in-So : goal.returns-in-So
returns-in-So g c = λ s w h e f.
    let study = c.args.subject.now.setting.study.now in
    let t = said_of study c.args.line.now (held.So c.in-So.literal c.in-So.reason) w c.in-So.is f in
    taken_as study s w (So c.in-So.literal t.0) c.take_so.new.self c.take_so.result t.1 (c.take_so.ensures s t.0 h (at_so study s c.args.text.now w c.in-So.literal t.0 e t.1).0 t.2)

pub returns-in-Clash : goal.returns-in-Clash
returns-in-Clash g c = λ s w h e f.
    let study = c.args.subject.now.setting.study.now in
    let t = said_of study c.args.line.now (held.Clash c.in-Clash.reason) w c.in-Clash.is f in
    taken_as study s w (Clash t.0) c.take_clash.new.self c.take_clash.result t.1 (c.take_clash.ensures s t.0 h (at_clash study s c.args.text.now w t.0 e t.1) t.2)

pub returns-in-WithRule : goal.returns-in-WithRule
returns-in-WithRule g c = λ s w h e f.
    let study = c.args.subject.now.setting.study.now in
    let t = said_of study c.args.line.now (held.WithRule c.in-WithRule.name c.in-WithRule.count) w c.in-WithRule.is f in
    taken_as study s w (WithRule c.in-WithRule.name t.0) c.take_with_rule.new.self (Ok c.take_with_rule.result) t.1 (c.take_with_rule.ensures s t.0 h (at_rule study s c.args.text.now w c.in-WithRule.name t.0 e t.1) t.2)

pub returns-in-WithOpen : goal.returns-in-WithOpen
returns-in-WithOpen g c = λ s w h e f.
    let study = c.args.subject.now.setting.study.now in
    let t = said_of study c.args.line.now (held.WithOpen c.in-WithOpen.name c.in-WithOpen.limit) w c.in-WithOpen.is f in
    taken_as study s w (WithOpen c.in-WithOpen.name t.0) c.take_with_open.new.self (Ok c.take_with_open.result) t.1 (c.take_with_open.ensures s t.0 h (at_open study s c.args.text.now w c.in-WithOpen.name t.0 e t.1) t.2)

pub returns-in-End : goal.returns-in-End
returns-in-End g c = λ s w h e f.
    let study = c.args.subject.now.setting.study.now in
    let t = said_of study c.args.line.now held.End w c.in-End.is f in
    taken_as study s w End c.take_end.new.self (Ok c.take_end.result) t (c.take_end.ensures study s h)
