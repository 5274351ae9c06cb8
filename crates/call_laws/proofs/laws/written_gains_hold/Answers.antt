use Rattle.std.proofs.Common.{Some, sym, subst, Option, arith}
use Rattle.words.specs.Words.{Request, Gain}
use Rattle.answers.specs.Call.{are_told}
use Rattle.answers.specs.Lawful.{IsBenchAnswer}
use Rattle.answers.proofs.DeviceLaws.{written_at}
use Rattle.call_laws.proofs.Gaining.{gained_row}
use Rattle.call_laws.proofs.laws.written_gains_hold.Goals as goal

pub returns : goal.returns
returns c words d run files name report call told asked zero_is =
    let a = written_at words d run call (Some (Gain name report)) asked files (are_told told) (omega (arith, zero_is)) in
    let lawful = subst (λ (r : Option Request). IsBenchAnswer r files run a.0) (sym asked) a.1 in
    gained_row d files name report run a.0 zero_is a.2
    (λ study bytes table given sets held is. c.none_is_no_gain.ensures words files run a.0 name report bytes table study lawful asked given sets held is)
    a.1
