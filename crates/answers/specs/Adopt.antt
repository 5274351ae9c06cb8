-- `adopt STUDY PROOF`.
use Rattle.std.specs.Prelude.{◌≡◌, ℕ, ◌≤◌, List, length, Some, Ok, IsTrue}
use Rattle.std.specs.List.{list_all}
use Rattle.edge.specs.Shelf.{Files}
use Rattle.vocab.specs.Study.{Question}
use Rattle.cnf.specs.declared.derivations.Line.{Line}
use Rattle.cnf.specs.Derived.{IsAccepted}
use Rattle.meaning.specs.declared.cores.Witness.{Witness}
use Rattle.meaning.specs.declared.stories.Lemma.{Lemma}
use Rattle.meaning.specs.StudyClauses.{study_clauses}
use Rattle.meaning.specs.Variables.{variable_count}
use Rattle.clause_form.specs.Cited.{is_axiom_cited}
use Rattle.clause_text.specs.ReadLrat.{read_lrat}
use Rattle.search_logs.specs.Spent.{all_places}
use Rattle.verdicts.specs.declared.verdicts.Verdict.TheVariants.{Impossible}
use Rattle.verdicts.specs.Report.{report_text}
use Rattle.answers.specs.declared.runs.Run.{Run}
use Rattle.answers.specs.Runs.{IsBare}
use Rattle.answers.specs.FileLimits.{most_proof_bytes}
use Rattle.answers.specs.Studies.{OverStudy}
use Rattle.answers.specs.Grounding.{all_clauses, OverClauses}
use Rattle.answers.specs.Export.{exported_formula}
use Rattle.answers.specs.Evidence.{IsFound}
use Rattle.answers.specs.Lrat.{said_of}

-- the bytes of a proof, within their limit, give a derivation that is accepted from the clauses of all axioms
pub record IsRefutedBy (study : Question) (bytes : List ℕ) (lines : List Line) : Type 0 where
  pub fits : length bytes ≤ most_proof_bytes
  pub read : read_lrat (variable_count study.size) bytes ≡ Ok lines
  pub accepted : IsAccepted (all_clauses study) lines

-- each axiom of a core has a clause that some hint of the derivation names
abbrev pub AreCited : Question → List Line → List ℕ → Type 0
AreCited study lines core =
    IsTrue (list_all (is_axiom_cited (study_clauses study.size study.axioms (all_places study)) lines) core)

-- the run has found that no rule satisfies the axioms of a core, of which each is cited; and the text is its
-- report
pub record IsRetold (study : Question) (lines : List Line) (run : Run) (text : List ℕ) : Type 0 where
  pub core : List ℕ
  pub story : List Lemma
  pub witnesses : List Witness
  pub found : IsFound study run (Impossible core story witnesses)
  pub cited : AreCited study lines core
  pub is : text ≡ report_text study (Impossible core story witnesses)

-- the proof of a file is refused, with what `lrat` says of it over what `export` writes; or it is retold
pub data Adopts (files : Files) (proof : List ℕ) (study : Question) (run : Run) (text : List ℕ) : Type 0 where
  proof_refused : (bytes : List ℕ) → files proof ≡ Some bytes
      → (said_of (exported_formula study) bytes).status ≡ 1
      → text ≡ (said_of (exported_formula study) bytes).text → IsBare run 1
      → Adopts files proof study run text
  proof_retold : (bytes : List ℕ) (lines : List Line) → files proof ≡ Some bytes
      → IsRefutedBy study bytes lines → IsRetold study lines run text
      → Adopts files proof study run text

abbrev pub IsAdoption : Files → List ℕ → List ℕ → Run → List ℕ → Type 0
IsAdoption files name proof run text =
    OverStudy files name run text (λ study. OverClauses study run text (Adopts files proof study run text))
