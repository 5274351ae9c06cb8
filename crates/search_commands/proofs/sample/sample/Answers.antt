use Rattle.std.proofs.lemmas.Result.{IfOk-weaker}
use Rattle.search_commands.proofs.sample.sample.Goals as goal

pub returns-clause-row : goal.returns-clause-row
returns-clause-row g c = IfOk-weaker c.sample_study.result _ _ (λ answer row. (c.in_ok-study.study, c.in_ok-study.ensures, row)) c.sample_study.ensures.row
