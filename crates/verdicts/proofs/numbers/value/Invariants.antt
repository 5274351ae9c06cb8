use Rattle.std.proofs.Common.{◌≡◌, take}
use Rattle.verdicts.specs.Numbers.{value_after, saturated}
use Rattle.verdicts.proofs.numbers.value.Given as goal

abbrev pub invariant-loop-digit : goal.invariant-loop-digit
invariant-loop-digit l = l.value ≡ saturated (value_after 0 (take l.digit-index l.word))
