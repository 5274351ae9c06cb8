use Rattle.std.proofs.Common.{sym, ◌∙◌}
use Rattle.verdicts.specs.Judge.{pieces, front}
use Rattle.report_files.specs.Lines.{has_fault}
use Rattle.report_files.specs.Pieces.{StandsForText}
use Rattle.report_files.proofs.CheckerLemmas.{stands_as_report, no_fault}
use Rattle.report_files.proofs.JudgedLemmas.{if_ok, any_ok}
use Rattle.report_files.proofs.WorthLemmas.{whole_worth, faulty_worth, long_worth, answered_holds, refused_holds, refused_whole}
use Rattle.report_files.proofs.files.worth_at.Goals as goal

pub returns-in-Whole-clause-worth : goal.returns-in-Whole-clause-worth
returns-in-Whole-clause-worth g c =
    let checker = c.args.reader.now.checker in
    if_ok c.of.result c.of.ensures.worth (λ w worth_of known left bytes held ended k stands.
    whole_worth checker.study c.args.ending known left (has_fault checker) bytes held c.end.result w c.in-Whole.is ended k (c.end.ensures bytes stands) worth_of)

pub returns-in-None-clause-worth : goal.returns-in-None-clause-worth
returns-in-None-clause-worth g c = λ known left bytes held ended k stands.
    let checker = c.args.reader.now.checker in
    let none = sym c.fault.ensures ∙ c.in-None.is in
    long_worth checker.study checker.report c.args.ending known left (has_fault checker) bytes held none (no_fault checker c.requires.reports none) c.in_default.not-Whole ended k
    (stands_as_report checker (front (pieces bytes)) c.requires.reports stands.0)

pub returns-in-Some-clause-worth : goal.returns-in-Some-clause-worth
returns-in-Some-clause-worth g c =
    let checker = c.args.reader.now.checker in
    if_ok c.of-in-Some.result c.of-in-Some.ensures.worth (λ w worth_of known left bytes held ended k stands.
    faulty_worth checker.study checker.report c.args.ending known left (has_fault checker) bytes held c.in-Some.fault w (sym c.fault.ensures ∙ c.in-Some.is) ended k
    (stands_as_report checker (front (pieces bytes)) c.requires.reports stands.0) worth_of)

pub returns-in-Whole-clause-holds : goal.returns-in-Whole-clause-holds
returns-in-Whole-clause-holds g c =
    answered_holds c.args.reader.now.checker.study (StandsForText c.args.reader.now) c.end.result c.of.result c.of.ensures.claimed c.end.ensures

pub returns-in-None-clause-holds : goal.returns-in-None-clause-holds
returns-in-None-clause-holds g c = λ bytes size stands claim is. absurd (cc)

pub returns-in-Some-clause-holds : goal.returns-in-Some-clause-holds
returns-in-Some-clause-holds g c =
    refused_holds c.args.reader.now.checker.study (StandsForText c.args.reader.now) c.in-Some.fault c.of-in-Some.result c.of-in-Some.ensures.claimed

pub returns-in-Whole-clause-whole : goal.returns-in-Whole-clause-whole
returns-in-Whole-clause-whole g c = any_ok c.of.result (λ w claim is. c.in-Whole.is)

pub returns-in-None-clause-whole : goal.returns-in-None-clause-whole
returns-in-None-clause-whole g c = λ claim is. absurd (cc)

pub returns-in-Some-clause-whole : goal.returns-in-Some-clause-whole
returns-in-Some-clause-whole g c = refused_whole c.in-Some.fault c.args.ending c.of-in-Some.result c.of-in-Some.ensures.claimed
