use Rattle.std.proofs.Common.{◌≡◌, ◌-◌, ◌++◌, take, drop, replicate}
use Rattle.vocab.specs.Range.{product}
use Rattle.meaning.specs.Space.{cast_bases}
use Rattle.profiles.specs.Weights.{place_values}
use Rattle.profiles.proofs.space.weights_of.Given as goal

abbrev pub invariant-loop-i : goal.invariant-loop-i
invariant-loop-i l = record {
  weight : l.weight ≡ product (drop l.i (cast_bases l.fn.size));
  weights : l.weights ≡ take l.i (place_values (cast_bases l.fn.size)) ++ replicate (8 - l.i) 0;
}
