use Rattle.std.proofs.Common.{refl}
use Rattle.search_commands.specs.Retold.{line_refused}
use Rattle.search_commands.proofs.adoption.judge_lines.Goals as goal

pub returns-in-Err-Proof-clause-judged : goal.returns-in-Err-Proof-clause-judged
returns-in-Err-Proof-clause-judged g c =
    line_refused c.in-Err-Proof.at c.in-Err-Proof.fault (rw c.in-Err-Proof.field-0-is at c.in-Err-Proof.ensures.refused) refl (record { ends = refl; no_verdict = refl; no_logs = refl; no_sharp = refl })
