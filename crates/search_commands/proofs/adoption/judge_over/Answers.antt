use Rattle.search_commands.proofs.AdoptionLemmas.{variables_short, lines_judged, proof_judged, count_is}
use Rattle.search_commands.proofs.adoption.judge_over.Goals as goal

pub open_derivation-requires : goal.open_derivation-requires
open_derivation-requires g c =
    variables_short c.args.whole.study c.args.whole.reportable c.variables.result (count_is c.args.whole.study _ c.variables.result c.args.whole.same c.variables.ensures.value)

pub returns-in-Ok-Lines-clause-row : goal.returns-in-Ok-Lines-clause-row
returns-in-Ok-Lines-clause-row g c =
    let count = count_is c.args.whole.study _ c.variables.result c.args.whole.same c.variables.ensures.value in
    lines_judged (g.S.Shelf.files c.args.shelf.now) c.args.proof.now c.args.whole.study c.variables.result count c.in-Ok-Lines.lines c.judge_lines.result
    (rw c.in-Ok-Lines.field-0-is at c.in-Ok-Lines.ensures.derived) c.judge_lines.ensures.judged

pub returns-in-Ok-Refused-clause-row : goal.returns-in-Ok-Refused-clause-row
returns-in-Ok-Refused-clause-row g c =
    let count = count_is c.args.whole.study _ c.variables.result c.args.whole.same c.variables.ensures.value in
    proof_judged (g.S.Shelf.files c.args.shelf.now) c.args.proof.now c.args.whole.study c.variables.result count c.in-Ok-Refused.answer
    (rw c.in-Ok-Refused.field-0-is at c.in-Ok-Refused.ensures.derived)
