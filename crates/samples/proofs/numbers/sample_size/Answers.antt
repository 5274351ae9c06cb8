use Rattle.std.proofs.Common.{◌≡◌, ◌+◌, ◌/◌, ◌%◌, arith, pos, refl}
use mir.Syntax.{w64}
use mir.Val.{to_z, of_z}
use Rattle.std.proofs.lemmas.Int.{to_z-of_z}
use Rattle.samples.specs.Sample.{sample_kind}
use Rattle.samples.proofs.NumberLemmas.{size_given}
use Rattle.samples.proofs.numbers.sample_size.Goals as goal

pub unwrap-requires : goal.unwrap-requires
unwrap-requires c =
    let voters : to_z w64 (of_z w64 c.from.result) ≡ pos (2 + c.args.number / 2 % 2) = rw c.from.ensures grind (arith, to_z-of_z) in
    rw (c.check.ensures, c.sample_kind.ensures, voters, size_given (sample_kind c.args.number) (c.args.number / 2 % 2) (omega arith)) refl
