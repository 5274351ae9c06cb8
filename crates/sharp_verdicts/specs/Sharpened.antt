-- What sharpening comes to, and of what its logs are evidence.
use Rattle.std.specs.Prelude.{List, [], ◌∷◌, ◌||◌, IsTrue, IsFalse, Any, slice_get, Bool, false}
use Rattle.std.specs.List.{list_all, list_any}
use Rattle.std.specs.Option.{option_map_or}
use Rattle.vocab.specs.Study.{Question}
use Rattle.meaning.specs.declared.cores.Witness.{Witness}
use Rattle.meaning.specs.declared.cores.Witness.TheVariants.{Rule, Open}
use Rattle.search_logs.specs.declared.logs.SearchLog.{SearchLog}
use Rattle.search_logs.specs.Spent.{AreSpentLogs}
use Rattle.sharp_verdicts.specs.declared.instances.Cited.{Cited}
use Rattle.sharp_verdicts.specs.declared.sharp.Sharp.{Sharp}
use Rattle.sharp_verdicts.specs.Derived.{derived_study}
use Rattle.sharp_verdicts.specs.Instances.{same_instance, is_present}
use Rattle.sharp_verdicts.specs.Right.{IsSharpRight, pointed}

-- a search over a derived study chose the axiom that is an instance
abbrev pub chose : List Cited → SearchLog → Cited → Bool
chose derived log c = list_any (λ k. option_map_or (λ d. same_instance c d) (slice_get derived k) false) log.chosen

-- a log is of a search without an instance of a list: it did not choose that instance, and it chose the others
pub record IsWithoutInstance (derived instances : List Cited) (c : Cited) (log : SearchLog) : Type 0 where
  pub lacks : IsFalse (chose derived log c)
  pub has_rest : IsTrue (list_all (λ d. same_instance d c || chose derived log d) instances)

-- the mark of an instance has its evidence: where it is open, a search without that instance spent its limit
abbrev pub HasMarkEvidence : List SearchLog → (derived instances : List Cited) → Cited → Witness → Type 0
HasMarkEvidence logs derived instances c (Rule table) = Unit {0}
HasMarkEvidence logs derived instances c (Open limit) = Any (IsWithoutInstance derived instances c) logs

-- each instance of the front of a list has its evidence
abbrev pub HaveMarkEvidence : List SearchLog → (derived instances front : List Cited) → List Witness → Type 0
HaveMarkEvidence logs derived instances [] marks = Unit {0}
HaveMarkEvidence logs derived instances (c ∷ cs) [] = Unit {0}
HaveMarkEvidence logs derived instances (c ∷ cs) (m ∷ marks) = HasMarkEvidence logs derived instances c m × HaveMarkEvidence logs derived instances cs marks

module _ (study : Question) where
  -- what sharpening comes to is right: its verdict is; the axioms of the derived study are instances of the study; each of its logs is of a search over the derived study that spent its limit; and each open mark has its log
  pub record IsSharpened (s : Sharp) : Type 0 where
    pub right : IsSharpRight study (pointed s)
    pub derived : IsTrue (list_all (is_present study) s.derived)
    pub logs : AreSpentLogs (derived_study study s.derived) s.logs
    pub evidence : HaveMarkEvidence s.logs s.derived s.instances s.instances s.marks
