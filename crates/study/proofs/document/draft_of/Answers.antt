use Rattle.std.proofs.Common.{Ok, Err}
use Rattle.toml.specs.View.{table_view}
use Rattle.study.proofs.StepLaws.{head_refused, names_refused, rest_said}
use Rattle.study.proofs.document.draft_of.Goals as goal

pub returns-in-Err : goal.returns-in-Err
returns-in-Err c other = head_refused (table_view c.args.table.now) c.in-Err.fault (c.in-Err.ensures other)

pub returns-in-Err-axioms_of : goal.returns-in-Err-axioms_of
returns-in-Err-axioms_of c other =
    names_refused (table_view c.args.table.now) c.in-Ok.head c.in-Err-axioms_of.fault c.in-Ok.ensures (rw c.value_at.ensures at (c.in-Err-axioms_of.ensures other))

pub returns-in-Ok-last_of : goal.returns-in-Ok-last_of
returns-in-Ok-last_of c =
    rest_said (table_view c.args.table.now) c.in-Ok.head c.in-Ok-axioms_of.axioms (Ok c.in-Ok-last_of.sentences) c.in-Ok.ensures (rw c.value_at.ensures at c.in-Ok-axioms_of.ensures) c.in-Ok-last_of.ensures

pub returns-in-Err-last_of : goal.returns-in-Err-last_of
returns-in-Err-last_of c other =
    rest_said (table_view c.args.table.now) c.in-Ok.head c.in-Ok-axioms_of.axioms (Err c.in-Err-last_of.fault) c.in-Ok.ensures (rw c.value_at.ensures at c.in-Ok-axioms_of.ensures) (c.in-Err-last_of.ensures other)
