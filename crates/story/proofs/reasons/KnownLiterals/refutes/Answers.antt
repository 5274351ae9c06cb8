use Rattle.story.proofs.ReasonLemmas.{ok_refutes, err_refutes_not}
use Rattle.story.proofs.reasons.KnownLiterals.refutes.Goals as goal

pub returns-clause-ok : goal.returns-clause-ok
returns-clause-ok g c =
    let grounds = c.args.self.now.grounds.now in
    ok_refutes (g.K.OutcomeKind.size grounds.setting.now.kind.now) grounds.setting.now.study.now.axioms grounds.core.now grounds.lemmas.now c.args.self.now.board.now.literals c.args.reason.now c.answer.result c.answer.ensures

pub returns-clause-err : goal.returns-clause-err
returns-clause-err g c =
    let grounds = c.args.self.now.grounds.now in
    err_refutes_not (g.K.OutcomeKind.size grounds.setting.now.kind.now) grounds.setting.now.study.now.axioms grounds.core.now grounds.lemmas.now c.args.self.now.board.now.literals c.args.reason.now c.answer.result c.answer.ensures
