-- The instances that a proof names, and a proof that is reduced over their study.
use Rattle.std.specs.Prelude.{◌≡◌, length, ℕ, ◌<◌, ◌≤◌, suc, All, Bool, true, false, List, slice_get, slice_index_or, Some, IsTrue}
use Rattle.vocab.specs.Study.{Question}
use Rattle.cnf.specs.declared.derivations.Line.{Line}
use Rattle.cnf.specs.Trimmed.{is_cited_in}
use Rattle.meaning.specs.declared.clauses.Origin.TheVariants.{Instance}
use Rattle.meaning.specs.StudyClauses.{Sourced}
use Rattle.grounding.specs.Rising.{includes}
use Rattle.search_logs.specs.Spent.{AreSpentLogs}
use Rattle.core_reduce.specs.declared.answers.Reduced.{Reduced}
use Rattle.core_reduce.specs.Answers.{IsRefutation}
use Rattle.sharp_verdicts.specs.declared.instances.Cited.{Cited}
use Rattle.sharp_verdicts.specs.Instances.{is_present}
use Rattle.instance_studies.specs.Instances.{AreInstancesOf}
use Rattle.instance_stories.specs.Codes.{code_of, AreRisingInstances, HaveAxiomRoom}
use Rattle.instance_grounds.specs.Laws.{IsFrameOrCited}

-- an instance that is there, by its number
abbrev pub HasPresent : Question → ℕ → Type 0
HasPresent study n = (c : Cited) × (IsTrue (is_present study c)) × (code_of c ≡ n)

-- the numbers of the instances of which flagged clauses come, among the clauses up to a place
pub record AreCodes (study : Question) (sources : List Sourced) (flags : List Bool) (upto : ℕ) (codes : List ℕ) : Type 0 where
  pub few : length codes ≤ upto
  pub high : All (λ n. 4294967296 ≤ n) codes
  pub present : (n : ℕ) → IsTrue (includes codes n) → HasPresent study n
  pub named : (j : ℕ) (s : Sourced) (a k : ℕ) → j < upto → slice_get sources j ≡ Some s → s.origin ≡ Instance a k → slice_index_or flags j false ≡ true → IsTrue (includes codes (code_of (record { «axiom» = a; number = k })))

-- the instances of which a hint names a clause: they are there, rise, are few enough, and cover each clause
-- that a hint names
pub record AreInstancesCited (study : Question) (sources : List Sourced) (lines : List Line) (instances : List Cited) : Type 0 where
  pub own : AreInstancesOf study instances
  pub rising : AreRisingInstances instances
  pub small : HaveAxiomRoom instances
  pub cover : (j : ℕ) (s : Sourced) → slice_get sources j ≡ Some s → IsTrue (is_cited_in lines (suc j)) → IsFrameOrCited instances s.origin

-- a reduced proof is right: its refutation is, and its logs are of searches that spent their limit
pub record IsReducedTo (study : Question) (r : Reduced) : Type 0 where
  pub refutation : IsRefutation study r.logs r.refutation
  pub logs : AreSpentLogs study r.logs
