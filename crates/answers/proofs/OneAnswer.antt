-- The rows of the table exclude one another.
use Rattle.std.proofs.Common.{◌≡◌, ◌∙◌, sym, refl, subst, ap, ap₂, ℕ, List, length, Option, None, Some, Ok, Err, arith}
use Rattle.edge.specs.Shelf.{Files}
use Rattle.vocab.specs.Study.{Question}
use Rattle.clause_text.specs.ReadDimacs.{Formula, read_dimacs}
use Rattle.sharp_verdicts.specs.Judged.{judged_text}
use Rattle.words.specs.Words.{Request, Check, Export, Lrat, Axioms, Gain, request_of}
use Rattle.answers.specs.declared.runs.Run.{Run}
use Rattle.answers.specs.Runs.{IsBare}
use Rattle.answers.specs.FileLimits.{HasFile, HoldsTooMany, most_study_bytes, most_cnf_bytes}
use Rattle.answers.specs.StudyLines.{study_line}
use Rattle.answers.specs.Studies.{RefusesStudy, too_long, no_study, OverStudy, study_refused, study_given}
use Rattle.answers.specs.Check.{IsJudged, judgement, judged, judgement_status, judged_status}
use Rattle.answers.specs.Grounding.{clauses_fault, refusal_line, OverClauses, clauses_refused, clauses_made}
use Rattle.answers.specs.Export.{IsExported}
use Rattle.answers.specs.Lrat.{GivesFormula, RefusesFormula, too_long as long_cnf, no_formula, cnf_line, IsLratAnswer, formula_refused, proof_judged, said_of}
use Rattle.answers.specs.Gain.{Gains, other_kind, of_sets, said_of_gain}
use Rattle.answers.specs.Lawful.{IsBenchAnswer}
use Rattle.answers.specs.Laws.{IsSettled, AreSame, AnswersAreOne}
use Rattle.answers.proofs.RowLemmas.{some_same, same_reading, one_study, not_refused, one_formula}

-- two runs that tell of no search and of nothing sharp are one, where their statuses are
one_run : (run run' : Run) (s s' : ℕ) → IsBare run s → IsBare run' s' → s ≡ s' → run ≡ run'
one_run run run' s s' b b' e =
    let ends : run.status ≡ run'.status = b.ends ∙ e ∙ sym b'.ends in
    let verdicts : run.verdict ≡ run'.verdict = b.no_verdict ∙ sym b'.no_verdict in
    let logs : run.logs ≡ run'.logs = b.no_logs ∙ sym b'.no_logs in
    let sharps : run.sharp ≡ run'.sharp = b.no_sharp ∙ sym b'.no_sharp in
    λ i. record { status = ends i; verdict = verdicts i; logs = logs i; sharp = sharps i }

module _ (files : Files) (name : List ℕ) where
  long_or_not : (limit : ℕ) (h : HoldsTooMany files limit name) (bytes : List ℕ) → HasFile files limit name bytes → ⊥
  long_or_not limit h bytes h' =
      let same : h.bytes ≡ bytes = some_same (files name) h.bytes bytes h.held h'.held in
      let l : length h.bytes ≡ length bytes = ap length same in
      let long = h.long in
      let fits = h'.fits in
      omega (arith, l, long, fits)

  pub one_refusal : (text text' : List ℕ) → RefusesStudy files name text → RefusesStudy files name text' → text ≡ text'
  one_refusal text text' (too_long h t) (too_long h' t') = t ∙ sym t'
  one_refusal text text' (too_long h t) (no_study bytes fault h' read t') = absurd (long_or_not most_study_bytes h bytes h')
  one_refusal text text' (no_study bytes fault h read t) (too_long h' t') = absurd (long_or_not most_study_bytes h' bytes h)
  one_refusal text text' (no_study bytes fault h read t) (no_study bytes' fault' h' read' t') =
      let same = same_reading files name bytes bytes' (Err fault) (Err fault') h h' read read' in
      let faults : fault ≡ fault' = cc in
      t ∙ ap study_line faults ∙ sym t'

  -- commands over a study have one answer, where the rest has
  one_over : (run run' : Run) (text text' : List ℕ) (P P' : Question → Type 0) → ((study : Question) → P study → P' study → AreSame run run' text text')
      → OverStudy files name run text P → OverStudy files name run' text' P' → AreSame run run' text text'
  one_over run run' text text' P P' rest (study_refused r b) (study_refused r' b') = (one_run run run' 3 3 b b' refl, one_refusal text text' r r')
  one_over run run' text text' P P' rest (study_refused r b) (study_given s g p) = absurd (not_refused files name s text g r)
  one_over run run' text text' P P' rest (study_given s g p) (study_refused r b) = absurd (not_refused files name s text' g r)
  one_over run run' text text' P P' rest (study_given s g p) (study_given s' g' p') = rest s' (subst P (one_study files name s s' g g') p) p'

  -- the file of a text of clauses is refused with one line, and not where it gives clauses
  pub one_cnf : (text text' : List ℕ) → RefusesFormula files name text → RefusesFormula files name text' → text ≡ text'
  one_cnf text text' (long_cnf h t) (long_cnf h' t') = t ∙ sym t'
  one_cnf text text' (long_cnf h t) (no_formula bytes fault h' read t') = absurd (long_or_not most_cnf_bytes h bytes h')
  one_cnf text text' (no_formula bytes fault h read t) (long_cnf h' t') = absurd (long_or_not most_cnf_bytes h' bytes h)
  one_cnf text text' (no_formula bytes fault h read t) (no_formula bytes' fault' h' read' t') =
      let same : bytes ≡ bytes' = some_same (files name) bytes bytes' h.held h'.held in
      let both : Err fault ≡ Err fault' = sym read ∙ ap read_dimacs same ∙ read' in
      let faults : fault ≡ fault' = cc in
      t ∙ ap cnf_line faults ∙ sym t'

  pub cnf_given : (formula : Formula) (text : List ℕ) → GivesFormula files name formula → RefusesFormula files name text → ⊥
  cnf_given formula text g (long_cnf h t) = long_or_not most_cnf_bytes h g.bytes g.holds
  cnf_given formula text g (no_formula bytes fault h read t) =
      let same : bytes ≡ g.bytes = some_same (files name) bytes g.bytes h.held g.holds.held in
      let both : Err fault ≡ Ok formula = sym read ∙ ap read_dimacs same ∙ g.read in
      absurd (cc)

-- commands over the clauses of a study have one answer, where the rest has
one_clauses : (study : Question) (run run' : Run) (text text' : List ℕ) (P P' : Type 0) → (P → P' → AreSame run run' text text')
    → OverClauses study run text P → OverClauses study run' text' P' → AreSame run run' text text'
one_clauses study run run' text text' P P' rest (clauses_refused fault e t b) (clauses_refused fault' e' t' b') =
    (one_run run run' 3 3 b b' refl, t ∙ ap (refusal_line study) (some_same (clauses_fault study) fault fault' e e') ∙ sym t')
one_clauses study run run' text text' P P' rest (clauses_refused fault e t b) (clauses_made e' p') = let no : None ≡ Some fault = sym e' ∙ e in absurd (cc)
one_clauses study run run' text text' P P' rest (clauses_made e p) (clauses_refused fault e' t b) = let no : None ≡ Some fault = sym e ∙ e' in absurd (cc)
one_clauses study run run' text text' P P' rest (clauses_made e p) (clauses_made e' p') = rest p p'

module _ (files : Files) (run run' : Run) (text text' : List ℕ) where
  one_export : (name : List ℕ) → IsExported files name run text → IsExported files name run' text' → AreSame run run' text text'
  one_export name a a' =
      one_over files name run run' text text' _ _ (λ s. one_clauses s run run' text text' _ _ (λ p p'. (one_run run run' 0 0 p.0 p'.0 refl, p.1 ∙ sym p'.1))) a a'

  pub one_lrat : (name proof : List ℕ) → IsLratAnswer files name proof run text → IsLratAnswer files name proof run' text' → AreSame run run' text text'
  one_lrat name proof (formula_refused r b) (formula_refused r' b') = (one_run run run' 3 3 b b' refl, one_cnf files name text text' r r')
  one_lrat name proof (formula_refused r b) (proof_judged f bytes g held b' t') = absurd (cnf_given files name f text g r)
  one_lrat name proof (proof_judged f bytes g held b t) (formula_refused r b') = absurd (cnf_given files name f text' g r)
  one_lrat name proof (proof_judged f bytes g held b t) (proof_judged f' bytes' g' held' b' t') =
      let formulas : f ≡ f' = one_formula files name f f' g g' in
      let same : bytes ≡ bytes' = some_same (files proof) bytes bytes' held held' in
      let said : said_of f bytes ≡ said_of f' bytes' = ap₂ said_of formulas same in
      (one_run run run' _ _ b b' (ap (λ s. s.status) said), t ∙ ap (λ s. s.text) said ∙ sym t')

  one_judged : (report : List ℕ) (study : Question) → IsJudged files report study run text → IsJudged files report study run' text' → AreSame run run' text text'
  one_judged report study j j' =
      let same : j.bytes ≡ j'.bytes = some_same (files report) j.bytes j'.bytes j.held j'.held in (
        one_run run run' _ _ j.ends j'.ends (ap (λ b. judged_status (judged study b)) same),
        j.is ∙ ap (λ b. judged_text (judged study b)) same ∙ sym j'.is,
      )

  one_gain : (report : List ℕ) (study : Question) → Gains files report study run text → Gains files report study run' text' → AreSame run run' text text'
  one_gain report study (other_kind ne t b) (other_kind ne' t' b') = (one_run run run' 3 3 b b' refl, t ∙ sym t')
  one_gain report study (other_kind ne t b) (of_sets is j) = absurd (ne is)
  one_gain report study (of_sets is j) (other_kind ne t b) = absurd (ne is)
  one_gain report study (of_sets is j) (of_sets is' j') =
      let same : j.bytes ≡ j'.bytes = some_same (files report) j.bytes j'.bytes j.held j'.held in (
        one_run run run' _ _ j.ends j'.ends (ap (λ b. judgement_status (judgement study b)) same),
        j.is ∙ ap (λ b. said_of_gain study (judgement study b)) same ∙ sym j'.is,
      )

  one_row : (request : Option Request) → IsSettled request → IsBenchAnswer request files run text → IsBenchAnswer request files run' text' → AreSame run run' text text'
  one_row None settled a a' = (one_run run run' 2 2 a.0 a'.0 refl, a.1 ∙ sym a'.1)
  one_row (Some (Check study report workers)) settled a a' = one_over files study run run' text text' _ _ (one_judged report) a a'
  one_row (Some (Export study workers)) settled a a' = one_export study a a'
  one_row (Some (Lrat cnf proof)) settled a a' = one_lrat cnf proof a a'
  one_row (Some (Axioms kind)) settled a a' = (one_run run run' 0 0 a.0 a'.0 refl, a.1 ∙ sym a'.1)
  one_row (Some (Gain study report)) settled a a' = one_over files study run run' text text' _ _ (one_gain report) a a'
  one_row request settled a a' = absurd settled

pub one_answer : AnswersAreOne
one_answer words files run run' text text' settled a a' = one_row files run run' text text' (request_of words) settled a a'
