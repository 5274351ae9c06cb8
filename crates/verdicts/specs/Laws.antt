-- What holds of reports: the statements of the laws. Each is proved as the contract of a function of the same name in src/laws.rt.
use Rattle.std.specs.Prelude.{◌≡◌, ◌≢◌, ℕ, ◌<◌, ◌≤◌, ◌+◌, ◌^◌, ◌==◌, ◌↔◌, Bool, true, false, nat_lt, not, filter, List, [], ◌∷◌, ◌++◌, length, slice_get, Some, None, IsTrue}
use Rattle.std.specs.List.{list_all, list_any}
use Rattle.vocab.specs.Limits.{instance_count}
use Rattle.vocab.specs.Name.{is_name}
use Rattle.vocab.specs.Size.{IsSize}
use Rattle.vocab.specs.Study.{Question, IsStudy, HasFewAxioms}
use Rattle.vocab.specs.Titled.{Titled}
use Rattle.meaning.specs.declared.cores.Witness.{Witness}
use Rattle.meaning.specs.declared.cores.Witness.TheVariants.{Rule, Open}
use Rattle.meaning.specs.declared.stories.Lemma.{Lemma}
use Rattle.meaning.specs.Space.{below}
use Rattle.meaning.specs.Truth.{is_axiom_true, satisfies}
use Rattle.meaning.specs.Instances.{IsFirstFailure}
use Rattle.verdicts.specs.declared.refusals.Refusal.{Refusal}
use Rattle.verdicts.specs.declared.refusals.Refusal.TheVariants.{Form, Fails}
use Rattle.verdicts.specs.declared.verdicts.Confirmed.{Confirmed as Claim}
use Rattle.verdicts.specs.declared.verdicts.Verdict.{Verdict}
use Rattle.verdicts.specs.declared.verdicts.Verdict.TheVariants.{Possible, Impossible}
use Rattle.verdicts.specs.Report.{lemma_count, has_text, report_text_in, own_version, report_text, is_right, is_claim, IsReport, IsSomeReport}
use Rattle.verdicts.specs.Claims.{IsClaimed, ClaimHolds}
use Rattle.verdicts.specs.Places.{Standing}
use Rattle.verdicts.specs.Lines.{is_version}
use Rattle.verdicts.specs.Faults.{table_fault}
use Rattle.verdicts.specs.FirstFault.{Good, Refused, Confirmed, Faulty}
use Rattle.verdicts.specs.Judge.{line_fault, judge, has_no_end, ended, conclude, answer, answer_within, pieces}

-- what the laws ask of a study: the bench takes it, at a size, and its axioms have names
pub record IsReportable (study : Question) : Type 0 where
  pub taken : IsStudy study
  pub size : IsSize study.size
  pub names : IsTrue (list_all (λ a. is_name a.name) study.axioms)

-- ---- texts of verdicts

-- each right verdict has a text: all that it names is in range
abbrev pub RightVerdictsHaveTexts : Type 0
RightVerdictsHaveTexts = (study : Question) → IsReportable study → (verdict : Verdict) → IsTrue (is_right study verdict) → IsTrue (has_text study verdict)

-- there is a report of this version
abbrev pub IsVersion : ℕ → Type 0
IsVersion version = (1 ≤ version) × (version ≤ 2)

-- different verdicts that have a text have different texts, and so have the two versions of one verdict
abbrev pub AreTextsDistinct : Type 0
AreTextsDistinct =
    (study : Question) → IsReportable study → (v w : ℕ) → IsVersion v → IsVersion w
    → (x y : Verdict) → IsTrue (has_text study x) → IsTrue (has_text study y)
    → report_text_in study v x ≡ report_text_in study w y → (v ≡ w) × (x ≡ y)

-- no line is longer than 4,096 bytes, its line end not counted
abbrev pub HasShortLines : List ℕ → Type 0
HasShortLines text = IsTrue (list_all (λ line. not (nat_lt 4096 (length line))) (pieces text))

-- no line of the text of a right verdict of a study of few axioms is longer, in a version that the size may have,
-- where a machine word counts its lemmas
abbrev pub LinesAreShort : Type 0
LinesAreShort =
    (study : Question) → IsReportable study → HasFewAxioms study → (version : ℕ) → IsTrue (is_version study.size version)
    → (verdict : Verdict) → IsTrue (is_right study verdict) → lemma_count verdict < 2 ^ 64
    → HasShortLines (report_text_in study version verdict)

-- the size may have the version that is printed, and so what is printed of a right verdict that claims something
-- is its report
abbrev pub PrintedTextsAreReports : Type 0
PrintedTextsAreReports =
    (study : Question) → IsTrue (is_version study.size (own_version study))
    × ((text : List ℕ) (verdict : Verdict) → IsTrue (is_claim study verdict) → IsTrue (is_right study verdict)
    → text ≡ report_text study verdict → IsReport study verdict text)

-- ---- confirmed reports

-- what the judge confirms is the report of a right verdict
abbrev pub IsJudgeSound : Type 0
IsJudgeSound = (study : Question) (text : List ℕ) (verdict : Verdict) → answer study text ≡ Confirmed verdict → IsReport study verdict text

-- the judge confirms the report of each right verdict of a study of few axioms, where a machine word counts its lemmas
abbrev pub IsJudgeComplete : Type 0
IsJudgeComplete =
    (study : Question) → IsReportable study → HasFewAxioms study → (text : List ℕ) (verdict : Verdict)
    → IsReport study verdict text → lemma_count verdict < 2 ^ 64 → answer study text ≡ Confirmed verdict

-- lines none of which has a line end within it are answered as the text that has them, each with its line end
abbrev pub LinesAreAnswered : Type 0
LinesAreAnswered = (study : Question) (lines : List (List ℕ)) → IsTrue (list_all has_no_end lines) →
    answer study (ended lines) ≡ conclude (length lines + 1) [] (judge study lines)

-- lines without a fault have given at most as many lemmas as they are
abbrev pub LemmasAreFew : Type 0
LemmasAreFew = (study : Question) (lines : List (List ℕ)) (s : Standing) → judge study lines ≡ Good s → length s.earlier ≤ length lines

-- what the report of a right verdict claims holds
abbrev pub RightClaimsHold : Type 0
RightClaimsHold = (study : Question) → IsSize study.size → (text : List ℕ) (claim : Claim) → IsClaimed study text claim → ClaimHolds study claim

-- a confirmed rule satisfies all axioms of the study
abbrev pub IsRuleConfirmed : Question → List ℕ → List ℕ → Type 0
IsRuleConfirmed study text table = answer study text ≡ Confirmed (Possible table) → IsTrue (satisfies study.size study.axioms (below (length study.axioms)) table)

-- no rule satisfies the core of a confirmed impossibility, and so none satisfies all axioms of the study
abbrev pub IsImpossibilityConfirmed : Question → List ℕ → List ℕ → List Lemma → List Witness → Type 0
IsImpossibilityConfirmed study text core story witnesses = answer study text ≡ Confirmed (Impossible core story witnesses) → (table : List ℕ) →
    ¬ IsTrue (satisfies study.size study.axioms core table) × ¬ IsTrue (satisfies study.size study.axioms (below (length study.axioms)) table)

-- the witness is a rule
abbrev pub is_rule_given : Witness → Bool
is_rule_given (Rule table) = true
is_rule_given (Open limit) = false

-- where no mark of a confirmed impossibility is open, no axiom of its core can be left out: some rule satisfies the others
abbrev pub IsCoreConfirmed : Question → List ℕ → List ℕ → List Lemma → List Witness → Type 0
IsCoreConfirmed study text core story witnesses = answer study text ≡ Confirmed (Impossible core story witnesses) → IsTrue (list_all is_rule_given witnesses) →
    (k : ℕ) → IsTrue (list_any (λ c. c == k) core) → (table : List ℕ) × IsTrue (satisfies study.size study.axioms (filter (λ c. not (c == k)) core) table)

-- what a confirmed report claims holds
abbrev pub ConfirmedClaimsHold : Type 0
ConfirmedClaimsHold = (study : Question) → IsSize study.size → (text : List ℕ) →
    ((table : List ℕ) → IsRuleConfirmed study text table)
    × ((core : List ℕ) (story : List Lemma) (witnesses : List Witness) → IsImpossibilityConfirmed study text core story witnesses × IsCoreConfirmed study text core story witnesses)

-- no proper prefix of a confirmed report is confirmed
abbrev pub HasNoConfirmedPrefix : Type 0
HasNoConfirmedPrefix = (study : Question) → IsReportable study → (text rest : List ℕ) → IsSomeReport study text → IsSomeReport study (text ++ rest) → rest ≡ []

-- where only so many bytes of a text are read, exactly those confirmed reports are confirmed that have no more
abbrev pub ConfirmedWithinLimit : Type 0
ConfirmedWithinLimit = (limit : ℕ) (study : Question) (text : List ℕ) (verdict : Verdict) →
    (answer_within limit study text ≡ Confirmed verdict) ↔ ((length text ≤ limit) × (answer study text ≡ Confirmed verdict))

-- ---- faulty lines

-- a line of this number is faulty, and none before it is
pub record IsFirstFault (study : Question) (lines : List (List ℕ)) (n : ℕ) (word : Refusal) : Type 0 where
  pub before : List (List ℕ)
  pub line : List ℕ
  pub more : List (List ℕ)
  pub standing : Standing
  pub split : lines ≡ before ++ line ∷ more
  pub number : n ≡ length before + 1
  pub faultless : judge study before ≡ Good standing
  pub fault : line_fault study standing line ≡ Some word

-- the judge names the first faulty line, and no line after it plays a part
abbrev pub FaultsAreFirst : Type 0
FaultsAreFirst = (study : Question) (lines : List (List ℕ)) (n : ℕ) (word : Refusal) → (judge study lines ≡ Refused n word) ↔ IsFirstFault study lines n word

-- the first of the axioms at some places that a table does not satisfy, by its name, and its least instance that is false of the table
pub record IsFirstFailing (study : Question) (table places name : List ℕ) (instance : ℕ) : Type 0 where
  pub before : List ℕ
  pub place : ℕ
  pub after : List ℕ
  pub failing : Titled
  pub split : places ≡ before ++ place ∷ after
  pub at : slice_get study.axioms place ≡ Some failing
  pub named : name ≡ failing.name
  pub satisfied : IsTrue (list_all (λ k. is_axiom_true study.size table (slice_get study.axioms k)) before)
  pub first : IsFirstFailure study.size table failing.sentence 0 (instance_count study.size failing.sentence) instance

-- a table has no fault exactly where it satisfies the axioms that are asked, and else names the first that fails
abbrev pub TableFaultsAreFirst : Type 0
TableFaultsAreFirst = (study : Question) (table places : List ℕ) → IsTrue (list_all (λ k. nat_lt k (length study.axioms)) places) →
    ((table_fault study table places ≡ None) ↔ IsTrue (list_all (λ k. is_axiom_true study.size table (slice_get study.axioms k)) places))
    × ((name : List ℕ) (instance : ℕ) → (table_fault study table places ≡ Some (Fails name instance)) ↔ IsFirstFailing study table places name instance)

-- a right report of a study of few axioms that is cut anywhere before its end has its first faulty line where it is cut, which is not what the grammar wants
abbrev pub CutReportsAreForm : Type 0
CutReportsAreForm =
    (study : Question) → IsReportable study → HasFewAxioms study → (verdict : Verdict) (text rest : List ℕ)
    → IsReport study verdict (text ++ rest) → lemma_count verdict < 2 ^ 64 → rest ≢ []
    → answer study text ≡ Faulty (length (pieces text)) Form
