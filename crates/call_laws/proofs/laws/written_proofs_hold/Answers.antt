use Rattle.std.proofs.Common.{Some, arith}
use Rattle.words.specs.Words.{Proof}
use Rattle.answers.specs.Call.{are_told}
use Rattle.answers.proofs.DeviceLaws.{written_at}
use Rattle.call_laws.proofs.laws.written_proofs_hold.Goals as goal

pub returns : goal.returns
returns c words d run files name workers study call told asked given zero_is =
    let a = written_at words d run call (Some (Proof name workers)) asked files (are_told told) (omega (arith, zero_is)) in
    (a.0, c.proved_holds.ensures files name run a.0 study a.1 given zero_is, a.2)
