-- `adopt`, from a derivation that was read to its report.
use Rattle.std.proofs.Common.{◌≡◌, ◌≢◌, ◌∙◌, refl, sym, ap, subst, true, ℕ, List, [], ◌∷◌, Option, None, Some, IfSome, Result, Ok, Err, IfOk, ◌≤◌, arith}
use Rattle.std.proofs.lemmas.Bool.{and_from}
use Rattle.edge.specs.Shelf.{Files}
use Rattle.vocab.specs.Size.{Extent}
use Rattle.vocab.specs.Study.{Question}
use Rattle.cnf.specs.declared.derivations.Line.{Line}
use Rattle.cnf.specs.declared.derivations.LineFault.{LineFault}
use Rattle.meaning.specs.Variables.{variable_count}
use Rattle.verdicts.specs.declared.verdicts.Verdict.TheVariants.{Impossible}
use Rattle.verdicts.specs.Laws.{IsReportable}
use Rattle.verdicts.specs.Report.{is_right}
use Rattle.clause_form.specs.declared.refusals.GroundFault.{GroundFault}
use Rattle.clause_form.specs.declared.refusals.GroundFault.TheVariants.{NoMemory}
use Rattle.clause_form.specs.Refusals.{IsRefused}
use Rattle.adopt.specs.declared.telling.Adopted.{Adopted}
use Rattle.adopt.specs.Told.{IsAdopted}
use Rattle.words.specs.Words.{Adopt}
use Rattle.answers.specs.Studies.{GivesStudy, study_refused, study_given}
use Rattle.answers.specs.Grounding.{all_clauses, clauses_fault, clauses_made}
use Rattle.answers.specs.Export.{exported_formula}
use Rattle.answers.specs.Lrat.{Said, said_of, of_derivation}
use Rattle.answers.specs.Adopt.{Adopts, proof_refused, proof_retold, IsAdoption}
use Rattle.answers.specs.Call.{AreFiles, are_told, none_read}
use Rattle.command_parts.specs.declared.answer.Answer.{Answer}
use Rattle.command_parts.specs.declared.answer.Answer.TheVariants as answer
use Rattle.command_parts.specs.declared.answer.Stop.{Stop}
use Rattle.command_parts.specs.Answers.{HasText, run_of, text_of}
use Rattle.command_parts.specs.GivenProof.{IsDerivation, RefusesProof}
use Rattle.command_parts.specs.Opened.{IsStudyRead, Refuses}
use Rattle.search_commands.specs.Retold.{IsDerivationJudged, lines_retold, line_refused}
use Rattle.answers.proofs.LimitLemmas.{variables_few}
use Rattle.search_commands.proofs.ClauseLemmas.{no_clauses}
use Rattle.search_commands.proofs.DecideLemmas.{reported_text}
use Rattle.command_parts.proofs.OpenLemmas.{given}
use Rattle.command_parts.proofs.PairLemmas.{IsPairCommand}
use Rattle.command_parts.proofs.ProofTextLemmas.{said_within}

pub adopt_command : (name proof : List ℕ) (workers : ℕ) → IsPairCommand (Some (Adopt name proof workers)) name proof
adopt_command name proof workers = record { two = refl; statuses = refl }

-- ---- the report

module _ (study : Question) (lines : List Line) (a : Adopted) (taken : IsAdopted study lines a) where
  abbrev report : Answer
  report = answer.Report study (Impossible a.core a.story a.witnesses) a.logs

  right : is_right study (Impossible a.core a.story a.witnesses) ≡ true
  right = and_from _ _ taken.told.accepted taken.told.core

  pub report_text : IsReportable study → HasText report
  report_text whole = reported_text study a.logs (Impossible a.core a.story a.witnesses) whole (right, (taken.told.tidy, taken.told.logged))

-- ---- the proof

-- a kind of the size of a study has its variables
pub count_is : (study : Question) (size : Extent) (variables : ℕ) → study.size ≡ size → variables ≡ variable_count size → variables ≡ variable_count study.size
count_is study size variables same is = is ∙ ap (λ (s : Extent). variable_count s) (sym same)

-- which are few enough for a proof to be read over them
pub variables_short : (study : Question) → IsReportable study → (variables : ℕ) → variables ≡ variable_count study.size → variables ≤ 10000000
variables_short study whole variables is = let few = variables_few study.size whole.size in omega (arith, few, is)

module _ (told : Option Files) (proof : List ℕ) (study : Question) (variables : ℕ) (count : variables ≡ variable_count study.size) where
  -- a derivation that was read is judged
  pub lines_judged : (lines : List Line) (result : Result Answer Stop) → IsDerivation told proof variables lines → IfOk result (IsDerivationJudged study lines)
      → IfOk result (λ answer. (files : Files) → told ≡ Some files → Adopts files proof study (run_of answer) (text_of answer))
  lines_judged lines (Err stop) read judged = tt
  lines_judged lines (Ok answer) read judged = λ files e. by_judgement files e judged
    where
      is : (files : Files) → told ≡ Some files → IsDerivation told proof (variable_count study.size) lines
      is files e = subst (λ (n : ℕ). IsDerivation told proof n lines) count read

      by_judgement : (files : Files) → told ≡ Some files → IsDerivationJudged study lines answer → Adopts files proof study (run_of answer) (text_of answer)
      by_judgement files e (lines_retold accepted retold) =
          let d = is files e in
          proof_retold d.bytes lines (d.held files e) (record { fits = d.fits; read = d.gives; accepted = accepted }) retold
      by_judgement files e (line_refused at fault first text bare) =
          let d = is files e in
          let said : said_of (exported_formula study) d.bytes ≡ of_derivation (Some (at, fault)) =
          said_within (exported_formula study) d.bytes (Ok lines) d.fits d.gives ∙ ap (λ (o : Option (ℕ × LineFault)). of_derivation o) first in
          proof_refused d.bytes (d.held files e) (ap (λ (s : Said). s.status) said) (text ∙ ap (λ (s : Said). s.text) (sym said)) bare

  -- a proof that gives none is refused
  pub proof_judged : (answer : Answer) → RefusesProof told proof variables answer → (files : Files) → told ≡ Some files → Adopts files proof study (run_of answer) (text_of answer)
  proof_judged answer refuses files e =
      let r : RefusesProof told proof (variable_count study.size) answer = subst (λ (n : ℕ). RefusesProof told proof n answer) count refuses in
      let s = r.said files e (all_clauses study) in
      proof_refused s.bytes s.held (sym s.ends.ends ∙ r.bare.ends) s.is r.bare

-- ---- the row

module _ (told : Option Files) (name proof : List ℕ) where
  -- a study whose clauses were made is taken
  pub clauses_taken : (study : Question) → IsStudyRead told name study → clauses_fault study ≡ None
      → IfSome told (λ files. (study : Question) × GivesStudy files name study × (clauses_fault study ≡ None))
  clauses_taken study read none = go told refl
    where
      go : (o : Option Files) → told ≡ o → IfSome o (λ files. (study : Question) × GivesStudy files name study × (clauses_fault study ≡ None))
      go None e = tt
      go (Some files) e = (study, given told name study files read e, none)

  -- the proof is judged over its clauses
  pub adopted_rows : (study : Question) (result : Result Answer Stop) → IsStudyRead told name study → clauses_fault study ≡ None
      → IfOk result (λ answer. (files : Files) → told ≡ Some files → Adopts files proof study (run_of answer) (text_of answer))
      → (files : Files) → AreFiles told (name ∷ proof ∷ []) files → IfOk result (λ answer. IsAdoption files name proof (run_of answer) (text_of answer))
  adopted_rows study (Ok answer) read none judged files (are_told e) = study_given study (given told name study files read e) (clauses_made none (judged files e))
  adopted_rows study (Ok answer) read none judged files (none_read e) = absurd (cc)
  adopted_rows study (Err stop) read none judged files h = tt

  -- the clauses are refused
  pub clauses_row : (study : Question) (fault : GroundFault) → IsStudyRead told name study → fault ≢ NoMemory → IsRefused fault (clauses_fault study)
      → (files : Files) → AreFiles told (name ∷ proof ∷ []) files
      → IsAdoption files name proof (run_of (answer.NoClauses study fault)) (text_of (answer.NoClauses study fault))
  clauses_row study fault read known is files (are_told e) = study_given study (given told name study files read e) (no_clauses study fault _ known is)
  clauses_row study fault read known is files (none_read e) = absurd (cc)

  -- the study is refused
  pub refused_row : (answer : Answer) → Refuses told name answer → (files : Files) → AreFiles told (name ∷ proof ∷ []) files
      → IsAdoption files name proof (run_of answer) (text_of answer)
  refused_row answer refuses files (are_told e) = study_refused (refuses.line files e) refuses.bare
  refused_row answer refuses files (none_read e) = absurd (cc)
