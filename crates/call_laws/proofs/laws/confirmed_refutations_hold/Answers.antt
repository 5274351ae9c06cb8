use Rattle.std.proofs.Common.{Some, arith}
use Rattle.words.specs.Words.{Lrat}
use Rattle.answers.specs.Call.{are_told}
use Rattle.answers.proofs.DeviceLaws.{written_at}
use Rattle.call_laws.proofs.Confirming.{confirmed_row}
use Rattle.call_laws.proofs.laws.confirmed_refutations_hold.Goals as goal

pub returns : goal.returns
returns c words d run files name proof call told asked zero_is =
    let a = written_at words d run call (Some (Lrat name proof)) asked files (are_told told) (omega (arith, zero_is)) in
    confirmed_row d files name proof run a.0 zero_is a.2 a.1
