use Rattle.std.proofs.Common.{sym, subst, Bool}
use Rattle.verdicts.specs.Judge.{pieces, front}
use Rattle.sharp_verdicts.specs.Judged.{has_sharp_title}
use Rattle.verdict_reading.specs.declared.lines.Told.TheVariants.{Good}
use Rattle.verdict_reading.specs.Told.{IsLineCollected, TellsOfText}
use Rattle.verdict_reading.proofs.LineLemmas.{unread, is_among, read_next, refuses, tells}
use Rattle.verdict_reading.proofs.lines.read_lines.Goals as goal

pub loop-first-init : goal.loop-first-init
loop-first-init g c = unread c.args.subject.now.setting.study.now (has_sharp_title c.args.text.now) c.args.text.now c.args.collector.now c.requires.unread

pub take_line-requires-clause-among : goal.take_line-requires-clause-among
take_line-requires-clause-among g c κs within =
    is_among c.args.subject.now.setting.study.now (has_sharp_title c.args.text.now) c.args.text.now c.loop-first.collector c.loop-first.rest.now c.loop-first.line c.loop-first.invariant c.requires.room

pub returns-in-Some-fault : goal.returns-in-Some-fault
returns-in-Some-fault g c =
    let study = c.args.subject.now.setting.study.now in
    let sharp = has_sharp_title c.args.text.now in
    let inv = c.loop-first.invariant in
    refuses study sharp c.args.text.now c.loop-first.collector c.loop-first.rest.now c.loop-first.line inv c.in-Some.first.now c.in-Some.after.now c.in-Some.ensures.0 c.in-Some.ensures.1 c.in-Some-fault.refusal c.take_line.new.self
    (subst (IsLineCollected study sharp (front (pieces inv.read)) c.in-Some.first.now c.take_line.new.self) c.in-Some-fault.is (c.in_ok-fault.ensures sharp (front (pieces inv.read)) inv.has))

pub loop-first-preserved : goal.loop-first-preserved
loop-first-preserved g c =
    let study = c.args.subject.now.setting.study.now in
    let sharp = has_sharp_title c.args.text.now in
    let inv = c.loop-first.invariant in
    read_next study sharp c.args.text.now c.loop-first.collector c.loop-first.rest.now c.loop-first.line inv c.in-Some.first.now c.in-Some.after.now c.in-Some.ensures.0 c.in-Some.ensures.1 c.take_line.new.self
    (subst (IsLineCollected study sharp (front (pieces inv.read)) c.in-Some.first.now c.take_line.new.self) c.in-None.is (c.in_ok-fault.ensures sharp (front (pieces inv.read)) inv.has))

pub returns : goal.returns
returns g c =
    let study = c.args.subject.now.setting.study.now in
    subst (λ (ended : Bool). TellsOfText study c.loop-first.collector c.args.text.now (Good c.loop-first.line ended)) (sym c.is_empty.ensures)
    (tells study (has_sharp_title c.args.text.now) c.args.text.now c.loop-first.collector c.loop-first.rest.now c.loop-first.line c.loop-first.invariant c.in_default.ensures)
