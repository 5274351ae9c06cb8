use Rattle.std.proofs.Common.{Some, arith}
use Rattle.words.specs.Words.{Export}
use Rattle.answers.specs.Call.{are_told}
use Rattle.answers.proofs.DeviceLaws.{written_at}
use Rattle.call_laws.proofs.laws.written_exports_say_study.Goals as goal

pub returns : goal.returns
returns c words d run files name workers study call told asked given zero_is =
    let a = written_at words d run call (Some (Export name workers)) asked files (are_told told) (omega (arith, zero_is)) in
    (a.0, c.exported_says_study.ensures files name run a.0 study a.1 given zero_is, a.2)
