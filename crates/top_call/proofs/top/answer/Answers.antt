use Rattle.std.proofs.Common.{sym}
use Rattle.words.specs.Words.{texts, request_of}
use Rattle.search_commands.proofs.SampleLemmas.{sample_answer}
use Rattle.top_call.proofs.CallLemmas.{asked_answer, library_answer, usage_answer}
use Rattle.top_call.proofs.top.answer.Goals as goal

pub returns-in-Ok-Some-Axioms : goal.returns-in-Ok-Some-Axioms
returns-in-Ok-Some-Axioms g c =
    library_answer (request_of (texts c.args.words.now)) (g.S.Shelf.files c.args.shelf.now) _ _ c.in-Ok-Some-Axioms.kind
    (sym (rw (c.in-Ok-Some-Axioms.field-0-is, c.in-Ok-Some-Axioms.field-0-0-is) at c.in-Ok-Some-Axioms.ensures.command))

pub returns-in-Ok-Some-Sample : goal.returns-in-Ok-Some-Sample
returns-in-Ok-Some-Sample g c =
    sample_answer (request_of (texts c.args.words.now)) (g.S.Shelf.files c.args.shelf.now) _ _ c.in-Ok-Some-Sample.number c.sample.result
    (sym (rw (c.in-Ok-Some-Sample.field-0-is, c.in-Ok-Some-Sample.field-0-0-is) at c.in-Ok-Some-Sample.ensures.command))
    c.sample.ensures.row c.sample.ensures.has_text c.sample.ensures.read

pub returns-in-Ok-Some-Check : goal.returns-in-Ok-Some-Check
returns-in-Ok-Some-Check g c =
    asked_answer _ _ _ _ _ _ _ _ (rw (c.in-Ok-Some-Check.field-0-is, c.in-Ok-Some-Check.field-0-0-is) at c.in-Ok-Some-Check.ensures.command) c.check.ensures

pub returns-in-Ok-Some-Decide : goal.returns-in-Ok-Some-Decide
returns-in-Ok-Some-Decide g c =
    asked_answer _ _ _ _ _ _ _ _ (rw (c.in-Ok-Some-Decide.field-0-is, c.in-Ok-Some-Decide.field-0-0-is) at c.in-Ok-Some-Decide.ensures.command) c.decide.ensures

pub returns-in-Ok-Some-Export : goal.returns-in-Ok-Some-Export
returns-in-Ok-Some-Export g c =
    asked_answer _ _ _ _ _ _ _ _ (rw (c.in-Ok-Some-Export.field-0-is, c.in-Ok-Some-Export.field-0-0-is) at c.in-Ok-Some-Export.ensures.command) c.export.ensures

pub returns-in-Ok-Some-Proof : goal.returns-in-Ok-Some-Proof
returns-in-Ok-Some-Proof g c =
    asked_answer _ _ _ _ _ _ _ _ (rw (c.in-Ok-Some-Proof.field-0-is, c.in-Ok-Some-Proof.field-0-0-is) at c.in-Ok-Some-Proof.ensures.command) c.proof.ensures

pub returns-in-Ok-Some-Lrat : goal.returns-in-Ok-Some-Lrat
returns-in-Ok-Some-Lrat g c =
    asked_answer _ _ _ _ _ _ _ _ (rw (c.in-Ok-Some-Lrat.field-0-is, c.in-Ok-Some-Lrat.field-0-0-is) at c.in-Ok-Some-Lrat.ensures.command) c.lrat.ensures

pub returns-in-Ok-Some-Adopt : goal.returns-in-Ok-Some-Adopt
returns-in-Ok-Some-Adopt g c =
    asked_answer _ _ _ _ _ _ _ _ (rw (c.in-Ok-Some-Adopt.field-0-is, c.in-Ok-Some-Adopt.field-0-0-is) at c.in-Ok-Some-Adopt.ensures.command) c.adopt.ensures

pub returns-in-Ok-Some-Gain : goal.returns-in-Ok-Some-Gain
returns-in-Ok-Some-Gain g c =
    asked_answer _ _ _ _ _ _ _ _ (rw (c.in-Ok-Some-Gain.field-0-is, c.in-Ok-Some-Gain.field-0-0-is) at c.in-Ok-Some-Gain.ensures.command) c.gain.ensures

pub returns-in-Ok-Some-Sharpen : goal.returns-in-Ok-Some-Sharpen
returns-in-Ok-Some-Sharpen g c =
    asked_answer _ _ _ _ _ _ _ _ (rw (c.in-Ok-Some-Sharpen.field-0-is, c.in-Ok-Some-Sharpen.field-0-0-is) at c.in-Ok-Some-Sharpen.ensures.command) c.sharpen.ensures

pub returns-in-Ok-None : goal.returns-in-Ok-None
returns-in-Ok-None g c =
    usage_answer (request_of (texts c.args.words.now)) (g.S.Shelf.files c.args.shelf.now) _ _ (sym (rw c.in-Ok-None.field-0-is at c.in-Ok-None.ensures.command))
