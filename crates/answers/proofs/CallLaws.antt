-- Where no fault is counted, a call answers what was asked.
use Rattle.std.proofs.Common.{◌≡◌, ◌≢◌, ◌∙◌, ap, ap₂, sym, subst, ℕ, ◌≤◌, ◌⊎◌, inl, inr, true, false, true≢false, List, [], ◌∷◌, length, Option, None, Some, arith, refl}
use Rattle.std.specs.Prelude.{nat_le}
use Rattle.std.specs.List.{list_all}
use Rattle.std.proofs.lemmas.Bool.{cases_lt, leb-true}
use Rattle.edge.specs.Faults.{Rose}
use Rattle.edge.specs.Shelf.{Files}
use Rattle.vocab.specs.declared.kinds.Kind.{Kind}
use Rattle.vocab.specs.declared.kinds.Kind.TheVariants.{Sets}
use Rattle.vocab.specs.Study.{Question}
use Rattle.verdicts.specs.Report.{IsSomeReport}
use Rattle.clause_text.specs.ReadDimacs.{Formula}
use Rattle.samples.specs.Sample.{IsSampleStudy}
use Rattle.words.specs.Words.{Request, Decide, Check, Export, Proof, Lrat, Axioms, Sample, Adopt, Gain, Sharpen, request_of}
use Rattle.sharp_verdicts.specs.Totals.{passes_clause_limits, total}
use Rattle.answers.specs.declared.runs.Run.{Run}
use Rattle.answers.specs.FileLimits.{most_report_bytes}
use Rattle.verdicts.specs.declared.verdicts.Verdict.{Verdict}
use Rattle.samples.proofs.Samples.{samples_once}
use Rattle.answers.specs.Studies.{GivesStudy, OverStudy}
use Rattle.answers.specs.Grounding.{clauses_fault, OverClauses, clauses_refused, clauses_made}
use Rattle.answers.specs.Evidence.{Decides, by_verdict, by_limit}
use Rattle.answers.specs.Check.{judgement, judgement_status}
use Rattle.answers.specs.Decide.{IsReported}
use Rattle.answers.specs.Adopt.{Adopts, proof_refused, proof_retold}
use Rattle.answers.specs.Export.{exported_formula, IsWritten}
use Rattle.answers.specs.Proof.{Proves, refuted, possible, undecided}
use Rattle.answers.specs.Lrat.{GivesFormula, IsLratAnswer, formula_refused, proof_judged, said_of}
use Rattle.answers.specs.Sample.{IsSampled}
use Rattle.answers.specs.Gain.{Gains, other_kind, of_sets}
use Rattle.answers.specs.Sharpen.{Sharpens, total_refused, decided, sharpened}
use Rattle.answers.specs.Lawful.{IsBenchAnswer, Lawful}
use Rattle.answers.specs.Devices.{Devices}
use Rattle.answers.specs.Call.{IsCall, AreFiles, are_told, none_read, HasReadCause, at_first, at_second, files_of, statuses_of}
use Rattle.answers.specs.Laws.{IsRightText, AreQuiet, HasNoFault, IsDecidedOrWanting, CallsAreComplete}
use Rattle.answers.proofs.AmongLemmas.{of_one}
use Rattle.answers.proofs.ReportLaws.{by_report, checked_right, listed, reportable}
use Rattle.answers.proofs.OneAnswer.{cnf_given}
use Rattle.answers.proofs.RowLemmas.{row_of, over_study, one_formula, some_same}

few_statuses : (request : Option Request) → list_all (λ s. nat_le s 7) (statuses_of request) ≡ true
few_statuses None = refl
few_statuses (Some (Decide study workers)) = refl
few_statuses (Some (Check study report workers)) = refl
few_statuses (Some (Export study workers)) = refl
few_statuses (Some (Proof study workers)) = refl
few_statuses (Some (Lrat cnf proof)) = refl
few_statuses (Some (Axioms kind)) = refl
few_statuses (Some (Sample number)) = refl
few_statuses (Some (Adopt study proof workers)) = refl
few_statuses (Some (Gain study report)) = refl
few_statuses (Some (Sharpen study workers)) = refl

-- each status is at most 7
pub low_status : (words : List (List ℕ)) (d : Devices) (run : Run) → IsCall words d run → run.status ≤ 7
low_status words d run call = leb-true run.status 7 (of_one (λ s. nat_le s 7) (statuses_of (request_of words)) run.status (few_statuses (request_of words)) call.status)

no_read_cause : (request : Option Request) (d : Devices) (names : List (List ℕ)) → AreQuiet d names → HasReadCause request d.told d.left_before d.left_now d.faults_before d.faults_now names → ⊥
no_read_cause request d names quiet (at_first name others is rose stay) = (subst (λ (xs : List (List ℕ)). AreQuiet d xs) is quiet).0 rose
no_read_cause request d names quiet (at_second name second is rose taken) = (subst (λ (xs : List (List ℕ)). AreQuiet d xs) is quiet).1.0 rose

-- a count that is 0 before and after did not rise
pub not_rose : (before now : ℕ) → before ≡ 0 → now ≡ 0 → ¬ Rose before now
not_rose before now e f rose = let none : Rose 0 0 = subst (λ (b : ℕ). Rose b 0) e (subst (λ (n : ℕ). Rose before n) f rose) in omega (arith, none)

-- where no count rose, none of some files did
pub all_quiet : (d : Devices) → ((name : List ℕ) → ¬ Rose (d.faults_before name) (d.faults_now name)) → (names : List (List ℕ)) → AreQuiet d names
all_quiet d none [] = tt
all_quiet d none (name ∷ names) = (none name, all_quiet d none names)

-- ---- what a row says where nothing is refused

pub given_clauses : (study : Question) (run : Run) (text : List ℕ) (P : Type 0) → clauses_fault study ≡ None → OverClauses study run text P → P
given_clauses study run text P none (clauses_refused fault e t bare) = let no : None ≡ Some fault = sym none ∙ e in absurd (cc)
given_clauses study run text P none (clauses_made e p) = p

-- the rest of a command over the clauses of a study
pub rest_of : (files : Files) (name : List ℕ) (run : Run) (text : List ℕ) (P : Question → Type 0) (study : Question) → GivesStudy files name study → clauses_fault study ≡ None
    → OverStudy files name run text (λ s. OverClauses s run text (P s)) → P study
rest_of files name run text P study g none row =
    given_clauses study run text (P study) none (over_study files name run text (λ s. OverClauses s run text (P s)) study g row)

by_decides : (study : Question) (run : Run) (verdict : Verdict) → Decides study run verdict → IsDecidedOrWanting run
by_decides study run verdict (by_verdict found) = inl found.ends
by_decides study run verdict (by_limit u is) = inr (inl u.ends)

by_shown : (study : Question) (run : Run) (text : List ℕ) → Proves study run text → IsDecidedOrWanting run
by_shown study run text (refuted lines r bare t) = inl bare.ends
by_shown study run text (possible table found t) = inl found.ends
by_shown study run text (undecided u t) = inr (inl u.ends)

by_judged : (files : Files) (name proof : List ℕ) (run : Run) (text : List ℕ) (formula : Formula) (bytes : List ℕ) → GivesFormula files name formula
    → files proof ≡ Some bytes → (said_of formula bytes).status ≡ 0 → IsLratAnswer files name proof run text → run.status ≡ 0
by_judged files name proof run text formula bytes g held zero_is (formula_refused r b) = absurd (cnf_given files name formula text g r)
by_judged files name proof run text formula bytes g held zero_is (proof_judged f bytes' g' held' b t) =
    let formulas : f ≡ formula = one_formula files name f formula g' g in
    let same : bytes' ≡ bytes = some_same (files proof) bytes' bytes held' held in
    b.ends ∙ ap (λ s. s.status) (ap₂ said_of formulas same) ∙ zero_is

by_adopted : (files : Files) (proof : List ℕ) (run : Run) (text : List ℕ) (study : Question) (bytes : List ℕ) → files proof ≡ Some bytes
    → (said_of (exported_formula study) bytes).status ≡ 0 → Adopts files proof study run text → run.status ≡ 0
by_adopted files proof run text study bytes held zero_is (proof_refused bytes' held' one is bare) =
    let same : bytes' ≡ bytes = some_same (files proof) bytes' bytes held' held in
    let no : 1 ≡ 0 = sym one ∙ ap (λ (b : List ℕ). (said_of (exported_formula study) b).status) same ∙ zero_is in
    absurd (omega (arith, no))
by_adopted files proof run text study bytes held zero_is (proof_retold bytes' lines held' refutes retold) = retold.found.ends

by_gained : (files : Files) (report : List ℕ) (run : Run) (text : List ℕ) (study : Question) (bytes : List ℕ) → study.size.kind ≡ Sets → files report ≡ Some bytes
    → judgement_status (judgement study bytes) ≡ 0 → Gains files report study run text → run.status ≡ 0
by_gained files report run text study bytes sets held zero_is (other_kind other t bare) = absurd (other sets)
by_gained files report run text study bytes sets held zero_is (of_sets same said) =
    said.ends.ends ∙ ap (λ b. judgement_status (judgement study b)) (some_same (files report) said.bytes bytes said.held held) ∙ zero_is

by_sharpened : (study : Question) (run : Run) (text : List ℕ) → passes_clause_limits (total study) ≡ false → Sharpens study run text → IsDecidedOrWanting run
by_sharpened study run text within (total_refused over is bare) = absurd (true≢false (sym over ∙ within))
by_sharpened study run text within (decided less reported other) = by_decides study run reported.verdict reported.decides
by_sharpened study run text within (sharpened less s) = inl s.ends

by_summed : (n : ℕ) (study : Question) (run : Run) (text : List ℕ) → IsSampleStudy n study → clauses_fault study ≡ None → IsSampled n run text → IsDecidedOrWanting run
by_summed n study run text sample none row =
    let same : row.0 ≡ study = samples_once n row.0 study row.1 sample in
    let made = given_clauses row.0 run text _ (subst (λ (s : Question). clauses_fault s ≡ None) (sym same) none) row.2 in
    by_decides row.0 run made.verdict made.decides

module _ (words : List (List ℕ)) (d : Devices) (run : Run) (call : IsCall words d run) (calm : HasNoFault words d) where
  no_read_fault : run.status ≢ 5
  no_read_fault five = no_read_cause (request_of words) d (files_of (request_of words)) calm.files (call.read_fault five)

  no_write_fault : run.status ≢ 6
  no_write_fault six = calm.sink (call.write_fault six)

  -- the answer is lawful, or memory was wanting
  settled : (files : Files) → AreFiles d.told (files_of (request_of words)) files → ((text : List ℕ) × Lawful words files run text) ⊎ (run.status ≡ 7)
  settled files are = elim (cases_lt run.status 5) [
    | inl low ↦ let a = call.lawful files are (omega (arith, low)) in inl (a.text, a.lawful)
    | inr high ↦ elim (cases_lt run.status 6) [
      | inl five ↦ absurd (no_read_fault (omega (arith, five, high)))
      | inr more ↦ elim (cases_lt run.status 7) [
        | inl six ↦ absurd (no_write_fault (omega (arith, six, more)))
        | inr most ↦ inr (let few : run.status ≤ 7 = low_status words d run call in omega (arith, most, few))
      ]
    ]
  ]

  -- a row of the table, where the shelf tells its files
  pub settled_row : (request : Option Request) (files : Files) → request_of words ≡ request → d.told ≡ Some files
      → ((text : List ℕ) × IsBenchAnswer request files run text) ⊎ (run.status ≡ 7)
  settled_row request files asked told = elim (settled files (are_told told)) [
    | inl a ↦ inl (a.0, row_of words files run a.0 request asked a.1)
    | inr seven ↦ inr seven
  ]

  decide_settled : (files : Files) (name : List ℕ) (workers : ℕ) (study : Question) → d.told ≡ Some files → request_of words ≡ Some (Decide name workers)
      → GivesStudy files name study → clauses_fault study ≡ None → IsDecidedOrWanting run
  decide_settled files name workers study told asked g none = elim (settled_row (Some (Decide name workers)) files asked told) [
    | inl a ↦ let made : IsReported study run a.0 = rest_of files name run a.0 _ study g none a.1 in by_decides study run made.verdict made.decides
    | inr seven ↦ inr (inr seven)
  ]

  export_settled : (files : Files) (name : List ℕ) (workers : ℕ) (study : Question) → d.told ≡ Some files → request_of words ≡ Some (Export name workers)
      → GivesStudy files name study → clauses_fault study ≡ None → (run.status ≡ 0) ⊎ (run.status ≡ 7)
  export_settled files name workers study told asked g none = elim (settled_row (Some (Export name workers)) files asked told) [
    | inl a ↦ let made : IsWritten study run a.0 = rest_of files name run a.0 _ study g none a.1 in inl made.0.ends
    | inr seven ↦ inr seven
  ]

  proof_settled : (files : Files) (name : List ℕ) (workers : ℕ) (study : Question) → d.told ≡ Some files → request_of words ≡ Some (Proof name workers)
      → GivesStudy files name study → clauses_fault study ≡ None → IsDecidedOrWanting run
  proof_settled files name workers study told asked g none = elim (settled_row (Some (Proof name workers)) files asked told) [
    | inl a ↦ by_shown study run a.0 (rest_of files name run a.0 (λ s. Proves s run a.0) study g none a.1)
    | inr seven ↦ inr (inr seven)
  ]

  lrat_settled : (files : Files) (name proof bytes : List ℕ) (formula : Formula) → d.told ≡ Some files → request_of words ≡ Some (Lrat name proof)
      → GivesFormula files name formula → files proof ≡ Some bytes → (said_of formula bytes).status ≡ 0 → (run.status ≡ 0) ⊎ (run.status ≡ 7)
  lrat_settled files name proof bytes formula told asked g held zero_is = elim (settled_row (Some (Lrat name proof)) files asked told) [
    | inl a ↦ inl (by_judged files name proof run a.0 formula bytes g held zero_is a.1)
    | inr seven ↦ inr seven
  ]

  adopt_settled : (files : Files) (name proof bytes : List ℕ) (workers : ℕ) (study : Question) → d.told ≡ Some files → request_of words ≡ Some (Adopt name proof workers)
      → GivesStudy files name study → clauses_fault study ≡ None → files proof ≡ Some bytes → (said_of (exported_formula study) bytes).status ≡ 0 → (run.status ≡ 0) ⊎ (run.status ≡ 7)
  adopt_settled files name proof bytes workers study told asked g none held zero_is = elim (settled_row (Some (Adopt name proof workers)) files asked told) [
    | inl a ↦ inl (by_adopted files proof run a.0 study bytes held zero_is (rest_of files name run a.0 (λ s. Adopts files proof s run a.0) study g none a.1))
    | inr seven ↦ inr seven
  ]

  check_settled : (files : Files) (name report bytes : List ℕ) (workers : ℕ) (study : Question) → d.told ≡ Some files → request_of words ≡ Some (Check name report workers)
      → GivesStudy files name study → files report ≡ Some bytes → IsRightText study bytes → length bytes ≤ most_report_bytes → (run.status ≡ 0) ⊎ (run.status ≡ 7)
  check_settled files name report bytes workers study told asked g held c fits = elim (settled files (are_told told)) [
    | inl a ↦ inl ((checked_right words files run a.0 name report bytes workers study a.1 asked g held).1 (c, fits))
    | inr seven ↦ inr seven
  ]

  gain_settled : (files : Files) (name report bytes : List ℕ) (study : Question) → d.told ≡ Some files → request_of words ≡ Some (Gain name report)
      → GivesStudy files name study → study.size.kind ≡ Sets → files report ≡ Some bytes → IsSomeReport study bytes → length bytes ≤ most_report_bytes
      → (run.status ≡ 0) ⊎ (run.status ≡ 7)
  gain_settled files name report bytes study told asked g sets held c fits = elim (settled_row (Some (Gain name report)) files asked told) [
    | inl a ↦ inl (
        by_gained files report run a.0 study bytes sets held (by_report study bytes (reportable files name study g) (listed files name study g) c fits)
        (over_study files name run a.0 _ study g a.1)
        )
    | inr seven ↦ inr seven
  ]

  sharpen_settled : (files : Files) (name : List ℕ) (workers : ℕ) (study : Question) → d.told ≡ Some files → request_of words ≡ Some (Sharpen name workers)
      → GivesStudy files name study → clauses_fault study ≡ None → passes_clause_limits (total study) ≡ false → IsDecidedOrWanting run
  sharpen_settled files name workers study told asked g none within = elim (settled_row (Some (Sharpen name workers)) files asked told) [
    | inl a ↦ by_sharpened study run a.0 within (rest_of files name run a.0 (λ s. Sharpens s run a.0) study g none a.1)
    | inr seven ↦ inr (inr seven)
  ]

  without_files : (request : Option Request) → request_of words ≡ request → files_of request ≡ [] → ((text : List ℕ) × Lawful words (λ name. None) run text) ⊎ (run.status ≡ 7)
  without_files request asked none = settled (λ name. None) (none_read (subst (λ (r : Option Request). files_of r ≡ []) (sym asked) none))

  sample_settled : (number : ℕ) (study : Question) → request_of words ≡ Some (Sample number) → IsSampleStudy number study → clauses_fault study ≡ None
      → IsDecidedOrWanting run
  sample_settled number study asked sample none = elim (without_files (Some (Sample number)) asked refl) [
    | inl a ↦ by_summed number study run a.0 sample none (row_of words (λ name. None) run a.0 (Some (Sample number)) asked a.1)
    | inr seven ↦ inr (inr seven)
  ]

  axioms_settled : (kind : Kind) → request_of words ≡ Some (Axioms kind) → (run.status ≡ 0) ⊎ (run.status ≡ 7)
  axioms_settled kind asked = elim (without_files (Some (Axioms kind)) asked refl) [
    | inl a ↦ inl (row_of words (λ name. None) run a.0 (Some (Axioms kind)) asked a.1).0.ends
    | inr seven ↦ inr seven
  ]

  usage_settled : request_of words ≡ None → (run.status ≡ 2) ⊎ (run.status ≡ 7)
  usage_settled asked = elim (without_files None asked refl) [
    | inl a ↦ inl (row_of words (λ name. None) run a.0 None asked a.1).0.ends
    | inr seven ↦ inr seven
  ]

pub calls_complete : CallsAreComplete
calls_complete words d run call calm = record {
  decide = decide_settled words d run call calm;
  export = export_settled words d run call calm;
  proof = proof_settled words d run call calm;
  lrat = lrat_settled words d run call calm;
  sample = sample_settled words d run call calm;
  check = check_settled words d run call calm;
  adopt = adopt_settled words d run call calm;
  gain = gain_settled words d run call calm;
  sharpen = sharpen_settled words d run call calm;
  axioms = axioms_settled words d run call calm;
  usage = usage_settled words d run call calm;
  no_read_fault = no_read_fault words d run call calm;
  no_write_fault = no_write_fault words d run call calm;
}
