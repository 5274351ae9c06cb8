-- What holds of the clauses of derived studies: the statement of the law.
use Rattle.std.specs.Prelude.{◌≡◌, ℕ, List, length, slice_get, Some, None, IsTrue}
use Rattle.std.specs.List.{list_all}
use Rattle.vocab.specs.Study.{Question, IsStudy}
use Rattle.cnf.specs.Sat.{Clause}
use Rattle.meaning.specs.declared.clauses.Origin.{Origin}
use Rattle.meaning.specs.declared.clauses.Origin.TheVariants.{Frame, Instance}
use Rattle.meaning.specs.Space.{below}
use Rattle.meaning.specs.StudyClauses.{Sourced, study_clauses, clauses_for}
use Rattle.sharp_verdicts.specs.declared.instances.Cited.{Cited}
use Rattle.clause_form.specs.Refusals.{ground_fault}
use Rattle.sharp_verdicts.specs.Derived.{axioms_from}
use Rattle.sharp_verdicts.specs.Instances.{is_present}
use Rattle.sharp_verdicts.specs.Totals.{IsWithinTotal}
use Rattle.instance_stories.specs.Codes.{AreRisingInstances}

-- an origin is a frame, or one of some instances
abbrev pub IsFrameOrCited : List Cited → Origin → Type 0
IsFrameOrCited instances (Frame p) = Unit {0}
IsFrameOrCited instances (Instance a k) = (i : ℕ) × (slice_get instances i ≡ Some (record { «axiom» = a; number = k }))

-- the clauses of a derived study
abbrev pub derived_clauses : Question → List Cited → List Clause
derived_clauses study instances = clauses_for study.size (axioms_from study 0 instances) (below (length instances))

-- each clause of a study whose origin is a frame or one of some instances stands among the clauses of the study of these instances
abbrev pub InstanceClausesStand : Type 0
InstanceClausesStand =
    (study : Question) (core : List ℕ) (instances : List Cited) (j : ℕ) (s : Sourced) → slice_get (study_clauses study.size study.axioms core) j ≡ Some s → IsFrameOrCited instances s.origin
    → (place : ℕ) × (slice_get (derived_clauses study instances) place ≡ Some s.clause)

-- the clauses of the study of some instances of a study within the limits are never refused
abbrev pub DerivedClausesFit : Type 0
DerivedClausesFit =
    (study : Question) (instances : List Cited) → IsStudy study → IsWithinTotal study → IsTrue (list_all (is_present study) instances) → AreRisingInstances instances
    → ground_fault study.size (axioms_from study 0 instances) (below (length instances)) ≡ None
