use Rattle.std.proofs.Common.{None, Some, refl, arith}
use Rattle.words.specs.Words.{Sample}
use Rattle.answers.specs.Call.{none_read}
use Rattle.answers.proofs.DeviceLaws.{written_at}
use Rattle.call_laws.proofs.laws.written_samples_hold.Goals as goal

pub returns : goal.returns
returns c words d run number call asked zero_is =
    let a = written_at words d run call (Some (Sample number)) asked (λ name. None) (none_read refl) (omega (arith, zero_is)) in
    let row = a.1 in
    (row.0, row.1, (a.0, c.sampled_holds.ensures number run a.0 row.0 row row.1 zero_is, a.2))
