-- The study whose axioms are some instances of another study, each an axiom of its own.
use Rattle.std.specs.Prelude.{ℕ, ◌+◌, List, [], ◌∷◌, ◌++◌, codes, slice_get, Option, Some, None}
use Rattle.vocab.specs.Study.{Question}
use Rattle.vocab.specs.Titled.{Titled}
use Rattle.vocab.specs.Tree.{Tree}
use Rattle.vocab.specs.Tree as tree
use Rattle.closing.specs.Closed.{closed_body}
use Rattle.verdicts.specs.Numbers.{number_text}
use Rattle.sharp_verdicts.specs.declared.instances.Cited.{Cited}
use Rattle.sharp_verdicts.specs.Instances.{values_at}

-- the name of the axiom at a place: `i0`, `i1` and so on
abbrev pub instance_name : ℕ → List ℕ
instance_name k = codes "i" ++ number_text k

-- where there is no axiom, its closed body is false
abbrev pub closed_at : Option Titled → List ℕ → Tree
closed_at None values = tree.Not (tree.Leaf (tree.Equal (tree.Const 0) (tree.Const 0)))
closed_at (Some a) values = closed_body a values

module _ (study : Question) where
  -- an instance as an axiom of its own, at a place
  abbrev pub axiom_of : ℕ → Cited → Titled
  axiom_of place c = record { name = instance_name place; sentence = closed_at (slice_get study.axioms c.«axiom») (values_at study c) }

  -- some instances, from a place on
  abbrev pub axioms_from : ℕ → List Cited → List Titled
  axioms_from place [] = []
  axioms_from place (c ∷ instances) = axiom_of place c ∷ axioms_from (place + 1) instances

  -- the study of some instances
  abbrev pub derived_study : List Cited → Question
  derived_study instances = record { size = study.size; conflicts = study.conflicts; axioms = axioms_from 0 instances }
