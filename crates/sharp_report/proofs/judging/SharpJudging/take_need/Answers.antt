use Rattle.std.proofs.Common.{refl, sym, subst, Some}
use Rattle.vocab.specs.Study.{Question}
use Rattle.sharp_verdicts.specs.SharpLines.{NeedsRule, NeedsOpen}
use Rattle.sharp_verdicts.specs.SharpPlaces.{AtNeed}
use Rattle.sharp_lines.specs.declared.needs.Need.{Need}
use Rattle.sharp_lines.specs.declared.needs.Need.TheVariants.{Rule, Open}
use Rattle.sharp_lines.specs.Said.{IsNeed}
use Rattle.sharp_report.specs.SharpStands.{IsSharpTaken}
use Rattle.sharp_report.proofs.TakenLemmas.{read_at, by_took}
use Rattle.sharp_report.proofs.MarkLemmas.{rule_named, open_named}
use Rattle.sharp_report.proofs.judging.SharpJudging.take_need.Goals as goal

pub take_rule-fault-requires-clause-reason : goal.take_rule-fault-requires-clause-reason
take_rule-fault-requires-clause-reason g c κs within =
    let study = c.args.subject.now.setting.study.now in
    let n = subst (λ (q : Question). IsNeed q c.args.text.now (Some (Rule c.in-Rule.reason c.in-Rule.count))) c.args.subject.now.same (subst (λ (m : Need). IsNeed c.args.subject.now.indexed c.args.text.now (Some m)) c.in-Rule.is c.in-Some.ensures) in
    rule_named study c.args.text.now c.in-Rule.reason n.0 n.1

pub take_open-fault-requires-clause-reason : goal.take_open-fault-requires-clause-reason
take_open-fault-requires-clause-reason g c κs within =
    let study = c.args.subject.now.setting.study.now in
    let n = subst (λ (q : Question). IsNeed q c.args.text.now (Some (Open c.in-Open.reason c.in-Open.limit))) c.args.subject.now.same (subst (λ (m : Need). IsNeed c.args.subject.now.indexed c.args.text.now (Some m)) c.in-Open.is c.in-Some.ensures) in
    open_named study c.args.text.now c.in-Open.reason n.0 n.1

pub returns-in-Rule : goal.returns-in-Rule
returns-in-Rule g c = λ s h at.
    let study = c.args.subject.now.setting.study.now in
    let n = subst (λ (q : Question). IsNeed q c.args.text.now (Some (Rule c.in-Rule.reason c.in-Rule.count))) c.args.subject.now.same (subst (λ (m : Need). IsNeed c.args.subject.now.indexed c.args.text.now (Some m)) c.in-Rule.is c.in-Some.ensures) in
    subst (IsSharpTaken study s c.args.text.now c.take_rule-fault.new.self) (sym c.told_unless.ensures)
    (by_took study s c.args.text.now c.take_rule-fault.new.self (NeedsRule c.in-Rule.reason n.0) c.take_rule-fault.result (read_at study s AtNeed c.args.text.now (Some (NeedsRule c.in-Rule.reason n.0)) at n.1) refl (c.take_rule-fault.ensures s n.0 h at n.2))

pub returns-in-Open : goal.returns-in-Open
returns-in-Open g c = λ s h at.
    let study = c.args.subject.now.setting.study.now in
    let n = subst (λ (q : Question). IsNeed q c.args.text.now (Some (Open c.in-Open.reason c.in-Open.limit))) c.args.subject.now.same (subst (λ (m : Need). IsNeed c.args.subject.now.indexed c.args.text.now (Some m)) c.in-Open.is c.in-Some.ensures) in
    subst (IsSharpTaken study s c.args.text.now c.take_open-fault.new.self) (sym c.told_unless-in-Open.ensures)
    (by_took study s c.args.text.now c.take_open-fault.new.self (NeedsOpen c.in-Open.reason n.0) c.take_open-fault.result (read_at study s AtNeed c.args.text.now (Some (NeedsOpen c.in-Open.reason n.0)) at n.1) refl (c.take_open-fault.ensures s n.0 h at n.2))
