-- What `decide` prints and what `sample` says holds; and where its limit is large, `decide` decides.
use Rattle.std.proofs.Common.{◌≡◌, ◌≢◌, refl, sym, subst, ap, ◌∙◌, true≢false, eqb-true, filter, ℕ, ◌<◌, ◌≤◌, ◌^◌, inl, inr, true, not, List, [], ◌∷◌, length, Some, arith}
use Rattle.std.specs.Cmp.Lexicographic.{pointwise}
use Rattle.std.specs.Prelude.{◌==◌, Any, None}
use Rattle.std.specs.List.{list_all}
use Rattle.std.proofs.lemmas.Bool.{and_parts, or_cases}
use Rattle.vocab.specs.Size.{IsSize}
use Rattle.vocab.specs.Study.{Question}
use Rattle.cnf.proofs.SpentLaws.{spent_is_short}
use Rattle.meaning.specs.declared.cores.Witness.{Witness}
use Rattle.meaning.specs.declared.cores.Witness.TheVariants.{Rule, Open}
use Rattle.meaning.specs.declared.stories.Lemma.{Lemma}
use Rattle.meaning.specs.Cores.{is_core_from, is_core_right, is_witness}
use Rattle.meaning.specs.StudyClauses.{clauses_for}
use Rattle.meaning.specs.Stories.{is_story}
use Rattle.meaning.specs.Truth.{satisfies}
use Rattle.meaning.specs.Variables.{variable_count}
use Rattle.meaning.proofs.StoryLaws.{no_rule}
use Rattle.verdicts.specs.declared.verdicts.Verdict.{Verdict}
use Rattle.verdicts.specs.declared.verdicts.Verdict.TheVariants.{Possible, Impossible, Undecided}
use Rattle.verdicts.specs.Report.{is_right, report_text}
use Rattle.verdicts.specs.Laws.{is_rule_given}
use Rattle.samples.proofs.Samples.{samples_once, samples_sized}
use Rattle.study.proofs.WholeStudies.{studies_whole}
use Rattle.search_logs.specs.declared.logs.SearchLog.{SearchLog}
use Rattle.search_logs.specs.Spent.{has_place, IsOfAll, IsWithout, HaveEvidence, AreSpentLogs}
use Rattle.sharp_verdicts.specs.declared.sharp.Sharp.{Sharp}
use Rattle.answers.specs.declared.runs.Run.{Run}
use Rattle.answers.specs.Runs.{IsBare}
use Rattle.answers.specs.Grounding.{OverClauses, clauses_refused, clauses_made}
use Rattle.answers.specs.Evidence.{IsBacked, IsFound, Decides, by_verdict, by_limit}
use Rattle.verdicts.specs.Claims.{Claims}
use Rattle.answers.specs.Decide.{IsReported}
use Rattle.answers.specs.Proof.{Proves, refuted, possible, undecided}
use Rattle.answers.specs.Sample.{IsSummed}
use Rattle.answers.specs.RowLaws.{IsNeeded, by_rule, by_mark, IsImpossibilityRight, IsPrinted, a_rule, an_impossibility, DecidedHolds, IsWithoutOpen, IsConclusiveRun, EnoughDecides, EnoughProves, IsSampleRight, SampledHolds}
use Rattle.answers.proofs.RowLemmas.{some_same, over_study, past_clauses, not_three, granted}

-- the witnesses of a right core
core_witnesses : (study : Question) (core : List ℕ) (story : List Lemma) (witnesses : List Witness) → is_right study (Impossible core story witnesses) ≡ true
    → (is_story study.size study.axioms core story ≡ true) × (pointwise (is_witness study.size study.axioms study.conflicts core) core witnesses ≡ true)
core_witnesses study core story witnesses right =
    let p = and_parts (is_story study.size study.axioms core story) (is_core_right study.size study.axioms study.conflicts core witnesses) right in
    let q = and_parts (is_core_from 0 (length study.axioms) core) _ p.1 in
    (p.0, q.1)

module _ (study : Question) (logs : List SearchLog) (core : List ℕ) where
  -- each axiom of a core has its rule or its log
  needed_from : (rest : List ℕ) (witnesses : List Witness) → pointwise (is_witness study.size study.axioms study.conflicts core) rest witnesses ≡ true
      → HaveEvidence study logs core rest witnesses → (k : ℕ) → has_place rest k ≡ true → IsNeeded study logs core k
  needed_from [] witnesses h marks k here = absurd (true≢false (sym here))
  needed_from (c ∷ rest) [] h marks k here = absurd (true≢false (sym h))
  needed_from (c ∷ rest) (Rule table ∷ witnesses) h marks k here =
      let p = and_parts (satisfies study.size study.axioms (filter (λ d. not (d == c)) core) table) _ h in
      elim (or_cases (c == k) (has_place rest k) here) [
        | inl same ↦ by_rule table (subst (λ (j : ℕ). satisfies study.size study.axioms (filter (λ d. not (d == j)) core) table ≡ true) (eqb-true c k same) p.0)
        | inr later ↦ needed_from rest witnesses p.1 marks.1 k later
      ]
  needed_from (c ∷ rest) (Open limit ∷ witnesses) h marks k here =
      let p = and_parts (limit == study.conflicts) _ h in
      elim (or_cases (c == k) (has_place rest k) here) [
        | inl same ↦ by_mark (subst (λ (j : ℕ). Any (IsWithout study core j) logs) (eqb-true c k same) marks.0)
        | inr later ↦ needed_from rest witnesses p.1 marks.1 k later
      ]

  pub impossible : (story : List Lemma) (witnesses : List Witness) → is_right study (Impossible core story witnesses) ≡ true
      → IsBacked study logs (Impossible core story witnesses) → AreSpentLogs study logs → IsSize study.size → IsImpossibilityRight study logs core story witnesses
  impossible story witnesses right backed spent size =
      let parts = core_witnesses study core story witnesses right in
      record {
        none = no_rule study.size size study.axioms core story parts.0;
        witnessed = (and_parts (is_story study.size study.axioms core story) (is_core_right study.size study.axioms study.conflicts core witnesses) right).1;
        logged = backed.1;
        accepted = parts.0;
        tidy = backed.0;
        needed = needed_from core witnesses parts.1 backed.1;
        spent = spent;
      }

found_printed : (study : Question) (run : Run) (text : List ℕ) (verdict : Verdict) → IsSize study.size → IsFound study run verdict → text ≡ report_text study verdict → IsPrinted study run text
found_printed study run text (Possible table) size f is = a_rule table f.told is f.right
found_printed study run text (Impossible core story witnesses) size f is =
    an_impossibility core story witnesses f.told is (impossible study run.logs core story witnesses f.right f.backed f.logs size)
found_printed study run text Undecided size f is = absurd (true≢false (sym f.claims_some))

-- with status 0 the run has found a verdict
pub found_at : (study : Question) (run : Run) (verdict : Verdict) → run.status ≡ 0 → Decides study run verdict → IsFound study run verdict
found_at study run verdict zero_is (by_verdict f) = f
found_at study run verdict zero_is (by_limit u v) = let four : 0 ≡ 4 = sym zero_is ∙ u.ends in absurd (omega (arith, four))

pub decided_hold : DecidedHolds
decided_hold files name run text study row g zero_is =
    let r = granted files name run text (λ s. IsReported s run text) study g zero_is row in
    found_printed study run text r.verdict (studies_whole g.bytes study g.read).1 (found_at study run r.verdict zero_is r.decides) r.is

-- ---- `sample`

found_claims : (study : Question) (run : Run) (verdict : Verdict) → IsSize study.size → IsFound study run verdict → Claims study verdict
found_claims study run (Possible table) size f = f.right
found_claims study run (Impossible core story witnesses) size f = no_rule study.size size study.axioms core story (core_witnesses study core story witnesses f.right).0
found_claims study run Undecided size f = absurd (true≢false (sym f.claims_some))

summed_right : (n : ℕ) (study : Question) (run : Run) (text : List ℕ) → IsSize study.size → run.status ≡ 0 → IsSummed n study run text → IsSampleRight n study run text
summed_right n study run text size zero_is r =
    let f = found_at study run r.verdict zero_is r.decides in
    record { verdict = r.verdict; told = f.told; is = r.is; holds = found_claims study run r.verdict size f }

pub sampled_hold : SampledHolds
sampled_hold n run text study row sample zero_is =
    let same : row.0 ≡ study = samples_once n row.0 study row.1 sample in
    let summed = past_clauses row.0 run text (IsSummed n row.0 run text) (not_three run zero_is) row.2 in
    subst (λ (s : Question). IsSampleRight n s run text) same (summed_right n row.0 run text (samples_sized n row.0 row.1) zero_is summed)

-- ---- a large limit

-- there is no log of a search that spent its limit
pub no_logs : (study : Question) (logs : List SearchLog) → 3 ^ variable_count study.size ≤ study.conflicts → AreSpentLogs study logs → logs ≡ []
no_logs study [] enough spent = refl
no_logs study (log ∷ logs) enough spent =
    let less : study.conflicts < 3 ^ variable_count study.size =
    spent_is_short (variable_count study.size) (clauses_for study.size study.axioms log.chosen) study.conflicts log.lines spent.0.spent in
    absurd (omega (arith, enough, less))

pub none_among : (logs : List SearchLog) (P : SearchLog → Type 0) → logs ≡ [] → Any P logs → ⊥
none_among logs P none some = let few : length logs ≡ 0 = ap length none in omega (arith, few, some.2)

-- so no mark is open
all_given : (study : Question) (logs : List SearchLog) (core rest : List ℕ) (witnesses : List Witness) → logs ≡ []
    → pointwise (is_witness study.size study.axioms study.conflicts core) rest witnesses ≡ true → HaveEvidence study logs core rest witnesses → list_all is_rule_given witnesses ≡ true
all_given study logs core [] [] none h marks = refl
all_given study logs core [] (w ∷ witnesses) none h marks = absurd (true≢false (sym h))
all_given study logs core (c ∷ rest) [] none h marks = refl
all_given study logs core (c ∷ rest) (Rule table ∷ witnesses) none h marks =
    let p = and_parts (satisfies study.size study.axioms (filter (λ d. not (d == c)) core) table) _ h in
    all_given study logs core rest witnesses none p.1 marks.1
all_given study logs core (c ∷ rest) (Open limit ∷ witnesses) none h marks = absurd (none_among logs (IsWithout study core c) none marks.0)

found_given : (study : Question) (run : Run) (verdict : Verdict) → run.logs ≡ [] → IsFound study run verdict
    → (core : List ℕ) (story : List Lemma) (witnesses : List Witness) → run.verdict ≡ Some (Impossible core story witnesses) → list_all is_rule_given witnesses ≡ true
found_given study run verdict none f core story witnesses told =
    let same : verdict ≡ Impossible core story witnesses = some_same run.verdict _ _ f.told told in
    let right : is_right study (Impossible core story witnesses) ≡ true = subst (λ (v : Verdict). is_right study v ≡ true) same f.right in
    let backed : IsBacked study run.logs (Impossible core story witnesses) = subst (λ (v : Verdict). IsBacked study run.logs v) same f.backed in
    all_given study run.logs core core witnesses none (core_witnesses study core story witnesses right).1 backed.1

-- where nothing is sharpened, no sharpening is told of
pub no_sharpening : (run : Run) → run.sharp ≡ None → (s : Sharp) → run.sharp ≡ Some s → IsWithoutOpen s
no_sharpening run none s told = let no : None ≡ Some s = sym none ∙ told in absurd (cc)

pub conclusive : (study : Question) (run : Run) (verdict : Verdict) → 3 ^ variable_count study.size ≤ study.conflicts → Decides study run verdict → IsConclusiveRun run
conclusive study run verdict enough (by_verdict f) =
    let none = no_logs study run.logs enough f.logs in
    record {
      decided = λ four. let no : 0 ≡ 4 = sym f.ends ∙ four in absurd (omega (arith, no));
      no_log = none;
      marked = found_given study run verdict none f;
      sharp = no_sharpening run f.no_sharp;
    }
conclusive study run verdict enough (by_limit u v) = absurd (none_among run.logs (IsOfAll study) (no_logs study run.logs enough u.logs) u.spent)

pub bare_conclusive : (run : Run) (status : ℕ) → status ≢ 4 → IsBare run status → IsConclusiveRun run
bare_conclusive run status other bare = record {
  decided = λ four. other (sym bare.ends ∙ four);
  no_log = bare.no_logs;
  marked = λ core story witnesses told. let no : None ≡ Some (Impossible core story witnesses) = sym bare.no_verdict ∙ told in absurd (cc);
  sharp = no_sharpening run bare.no_sharp;
}

conclusive_row : (study : Question) (run : Run) (text : List ℕ) → 3 ^ variable_count study.size ≤ study.conflicts → OverClauses study run text (IsReported study run text) → IsConclusiveRun run
conclusive_row study run text enough (clauses_refused fault e t bare) = bare_conclusive run 3 (λ no. absurd (omega (arith, no))) bare
conclusive_row study run text enough (clauses_made e r) = conclusive study run r.verdict enough r.decides

pub enough_decided : EnoughDecides
enough_decided files name run text study row g enough =
    conclusive_row study run text enough (over_study files name run text (λ s. OverClauses s run text (IsReported s run text)) study g row)

proved_conclusive : (study : Question) (run : Run) (text : List ℕ) → 3 ^ variable_count study.size ≤ study.conflicts → Proves study run text → IsConclusiveRun run
proved_conclusive study run text enough (refuted lines r bare is) = bare_conclusive run 0 (λ no. absurd (omega (arith, no))) bare
proved_conclusive study run text enough (possible table f is) = conclusive study run (Possible table) enough (by_verdict f)
proved_conclusive study run text enough (undecided u is) = absurd (none_among run.logs (IsOfAll study) (no_logs study run.logs enough u.logs) u.spent)

proved_row : (study : Question) (run : Run) (text : List ℕ) → 3 ^ variable_count study.size ≤ study.conflicts → OverClauses study run text (Proves study run text) → IsConclusiveRun run
proved_row study run text enough (clauses_refused fault e t bare) = bare_conclusive run 3 (λ no. absurd (omega (arith, no))) bare
proved_row study run text enough (clauses_made e r) = proved_conclusive study run text enough r

pub enough_proved : EnoughProves
enough_proved files name run text study row g enough =
    proved_row study run text enough (over_study files name run text (λ s. OverClauses s run text (Proves s run text)) study g row)
