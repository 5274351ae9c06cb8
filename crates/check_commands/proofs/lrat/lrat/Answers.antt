use Rattle.check_commands.specs.declared.lrat.Given.{Given}
use Rattle.check_commands.specs.Given.{without_origins}
use Rattle.command_parts.proofs.PairLemmas.{second_judged, first_refused, first_stopped}
use Rattle.check_commands.proofs.LratLemmas.{lrat_command, cnf_taken, said_rows, refused_row}
use Rattle.check_commands.proofs.lrat.lrat.Goals as goal

pub judge_proof-requires : goal.judge_proof-requires
judge_proof-requires g c = (rw c.in-Ok-Clauses.field-0-is at c.in-Ok-Clauses.ensures.given).few

pub returns-in-Ok-Clauses : goal.returns-in-Ok-Clauses
returns-in-Ok-Clauses g c =
    let told = g.S.Shelf.files c.args.shelf.now in
    let read = rw c.in-Ok-Clauses.field-0-is at c.in-Ok-Clauses.ensures.given in
    let formula = without_origins c.in-Ok-Clauses.formulas in
    second_judged _ c.args.cnf.now c.args.proof.now (lrat_command c.args.cnf.now c.args.proof.now)
    told _ (g.S.Shelf.left c.open_clauses.new.shelf) _ (g.S.Shelf.faults c.open_clauses.new.shelf) c.open_clauses.ensures.others _ _
    c.judge_proof.result (cnf_taken told c.args.cnf.now c.args.proof.now formula read) c.open_clauses.ensures.none_fell
    (said_rows told c.args.cnf.now c.args.proof.now formula c.judge_proof.result read (rw c.open_clauses.ensures.same at c.judge_proof.ensures.judged))
    c.judge_proof.ensures.status c.judge_proof.ensures.has_text c.judge_proof.ensures.fault c.judge_proof.ensures.others

pub returns-in-Ok-Refused : goal.returns-in-Ok-Refused
returns-in-Ok-Refused g c =
    let told = g.S.Shelf.files c.args.shelf.now in
    let refuses = rw c.in-Ok-Refused.field-0-is at c.in-Ok-Refused.ensures.given in
    first_refused _ c.args.cnf.now c.args.proof.now (lrat_command c.args.cnf.now c.args.proof.now) told _ _ _ _ c.open_clauses.ensures.others
    c.in-Ok-Refused.answer refuses.bare refuses.has_text (refused_row told c.args.cnf.now c.args.proof.now c.in-Ok-Refused.answer refuses)

pub returns-in-Err : goal.returns-in-Err
returns-in-Err g c =
    first_stopped _ c.args.cnf.now c.args.proof.now (lrat_command c.args.cnf.now c.args.proof.now) (g.S.Shelf.files c.args.shelf.now) _ _ _ _ c.open_clauses.ensures.others
    {T = Given} c.in-Err.stop c.in-Err.ensures.fault
