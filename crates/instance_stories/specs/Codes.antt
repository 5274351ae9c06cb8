-- Instances as numbers, by axiom and then by number: the numbers of their origins.
use Rattle.std.specs.Prelude.{ℕ, ◌+◌, ◌*◌, ◌<◌, List, [], ◌∷◌, map}
use Rattle.sharp_verdicts.specs.declared.instances.Cited.{Cited}
use Rattle.grounding.specs.Rising.{RisesFrom}

-- the number of an instance
abbrev pub code_of : Cited → ℕ
code_of c = (c.«axiom» + 1) * 4294967296 + c.number

-- the instances rise by axiom and number
abbrev pub AreRisingInstances : List Cited → Type 0
AreRisingInstances instances = RisesFrom 0 (map code_of instances)

-- the number of each instance leaves room for its axiom
abbrev pub HaveAxiomRoom : List Cited → Type 0
HaveAxiomRoom [] = Unit {0}
HaveAxiomRoom (c ∷ instances) = (c.number < 4294967296) × HaveAxiomRoom instances
