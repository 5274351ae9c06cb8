-- The marks of some of the instances of a core.
use Rattle.std.specs.Prelude.{ℕ, List, [], ◌∷◌, get_or, if◌then◌else◌}
use Rattle.meaning.specs.declared.cores.Witness.{Witness}
use Rattle.sharp_verdicts.specs.declared.instances.Cited.{Cited}
use Rattle.sharp_verdicts.specs.Instances.{has_instance}

-- the instance that is the axiom at a place of a derived study
abbrev pub derived_instance : List Cited → ℕ → Cited
derived_instance instances k = get_or instances k (record { «axiom» = 0; number = 0 })

-- of the marks of instances those of the instances of a list
abbrev pub marks_kept : List Cited → List Cited → List Witness → List Witness
marks_kept listed [] marks = []
marks_kept listed (c ∷ cs) [] = []
marks_kept listed (c ∷ cs) (m ∷ marks) = if has_instance listed c then m ∷ marks_kept listed cs marks else marks_kept listed cs marks
