-- A study whose reports are written out by hand.
use Rattle.std.specs.Prelude.{[], ◌∷◌, codes}
use Rattle.vocab.specs.declared.kinds.Kind.TheVariants.{Choice}
use Rattle.vocab.specs.declared.kinds.Sort.TheVariants.{Voter}
use Rattle.vocab.specs.Size.{full_size}
use Rattle.vocab.specs.Study.{Question}
use Rattle.vocab.specs.Tree.{All, Equal, Leaf, Var}

-- one voter, two alternatives, and the axiom that each voter is itself
abbrev pub one_axiom : Question
one_axiom = record {
  size = full_size Choice 1 2;
  conflicts = 100;
  axioms = record { name = codes "same"; sentence = All Voter (Leaf (Equal (Var 0) (Var 0))) } ∷ [];
}
