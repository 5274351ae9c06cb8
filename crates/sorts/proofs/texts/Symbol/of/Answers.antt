-- The text stands at the front of an array of zeros.
use Rattle.std.proofs.Common.{rules}
use Rattle.vocab.specs.InPlace.{IsPadded-copied}
use Rattle.sorts.proofs.texts.Symbol.of.Goals as goal

pub invariant_of-result : goal.invariant_of-result
invariant_of-result c = rw c.copy_from_slice.ensures.after (IsPadded-copied 32 c.bytes-text.result.now (search rules))
