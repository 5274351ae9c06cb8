use Rattle.std.proofs.Common.{sym, ◌∙◌}
use Rattle.verdicts.specs.Judge.{pieces, front}
use Rattle.report_files.specs.Lines.{has_fault}
use Rattle.report_files.specs.Pieces.{StandsForText}
use Rattle.report_files.proofs.CheckerLemmas.{sharp_of, stands_as_sharp, sharp_fault_is, no_sharp_fault}
use Rattle.report_files.proofs.JudgedLemmas.{if_ok}
use Rattle.report_files.proofs.SharpWorthLemmas.{sharp_whole_worth, sharp_faulty_worth, sharp_long_worth, sharp_answered_holds, sharp_refused_holds}
use Rattle.report_files.proofs.files.sharp_worth_at.Goals as goal

pub returns-in-Whole-clause-worth : goal.returns-in-Whole-clause-worth
returns-in-Whole-clause-worth g c =
    let checker = c.args.reader.now.checker in
    if_ok c.of.result c.of.ensures.worth (λ w worth_of known left bytes held ended k stands.
    sharp_whole_worth checker.study c.args.ending known left (has_fault checker) bytes held c.end_sharp.result w c.in-Whole.is ended k (c.end_sharp.ensures bytes c.requires.texts stands) worth_of)

pub returns-in-None-clause-worth : goal.returns-in-None-clause-worth
returns-in-None-clause-worth g c = λ known left bytes held ended k stands.
    let checker = c.args.reader.now.checker in
    let p = sharp_of checker.sharp c.requires.sharp in
    let none = sym (sharp_fault_is checker p.0 p.1) ∙ sym c.sharp_fault.ensures ∙ c.in-None.is in
    sharp_long_worth checker.study p.0 c.args.ending known left (has_fault checker) bytes held none (no_sharp_fault checker p.0 p.1 none) c.in_default.not-Whole ended k
    (stands_as_sharp checker p.0 (front (pieces bytes)) p.1 stands.0)

pub returns-in-Some-clause-worth : goal.returns-in-Some-clause-worth
returns-in-Some-clause-worth g c =
    let checker = c.args.reader.now.checker in
    let p = sharp_of checker.sharp c.requires.sharp in
    let some = sym (sharp_fault_is checker p.0 p.1) ∙ sym c.sharp_fault.ensures ∙ c.in-Some.is in
    if_ok c.of-in-Some.result c.of-in-Some.ensures.worth (λ w worth_of known left bytes held ended k stands.
    sharp_faulty_worth checker.study p.0 c.args.ending known left (has_fault checker) bytes held c.in-Some.fault w some ended k
    (stands_as_sharp checker p.0 (front (pieces bytes)) p.1 stands.0) worth_of)

pub returns-in-Whole-clause-holds : goal.returns-in-Whole-clause-holds
returns-in-Whole-clause-holds g c =
    sharp_answered_holds c.args.reader.now.checker.study (StandsForText c.args.reader.now) c.end_sharp.result c.of.result c.of.ensures.confirmed
    (λ bytes stands. c.end_sharp.ensures bytes c.requires.texts stands)

pub returns-in-None-clause-holds : goal.returns-in-None-clause-holds
returns-in-None-clause-holds g c = λ bytes size stands is. absurd (cc)

pub returns-in-Some-clause-holds : goal.returns-in-Some-clause-holds
returns-in-Some-clause-holds g c =
    sharp_refused_holds c.args.reader.now.checker.study (StandsForText c.args.reader.now) c.in-Some.fault c.of-in-Some.result c.of-in-Some.ensures.confirmed
