-- What holds of sharp texts: the statements of the laws. Each is proved as the contract of a function of the same name in src/laws.rt.
use Rattle.std.specs.Prelude.{◌≡◌, ◌≢◌, ℕ, ◌<◌, ◌≤◌, ◌+◌, ◌^◌, ◌↔◌, List, [], ◌∷◌, ◌++◌, length, slice_get, codes, Some, None, IsTrue, IsFalse}
use Rattle.std.specs.List.{list_all}
use Rattle.vocab.specs.Size.{IsSize}
use Rattle.vocab.specs.Study.{Question, HasFewAxioms}
use Rattle.meaning.specs.declared.cores.Witness.TheVariants.{Rule}
use Rattle.meaning.specs.Space.{below}
use Rattle.verdicts.specs.Claims.{HasNoRule}
use Rattle.verdicts.specs.declared.refusals.Refusal.TheVariants.{Form, Fails}
use Rattle.verdicts.specs.declared.verdicts.Verdict.{Verdict}
use Rattle.verdicts.specs.Lines.{name_at}
use Rattle.verdicts.specs.FirstFault.{Good, Refused, Confirmed, Faulty}
use Rattle.verdicts.specs.Judge.{has_no_end, ended, pieces, answer}
use Rattle.verdicts.specs.Laws.{IsReportable, HasShortLines, is_rule_given}
use Rattle.sharp_verdicts.specs.declared.instances.Cited.{Cited}
use Rattle.sharp_verdicts.specs.declared.refusals.SharpRefusal.{SharpRefusal}
use Rattle.sharp_verdicts.specs.declared.refusals.SharpRefusal.TheVariants.{Report}
use Rattle.sharp_verdicts.specs.Instances.{has_instance, others_than, is_true_of}
use Rattle.sharp_verdicts.specs.Right.{Pointed, satisfies_instances, IsSharpRight}
use Rattle.sharp_verdicts.specs.SharpLines.{sharp_text}
use Rattle.sharp_verdicts.specs.SharpPlaces.{SharpStanding}
use Rattle.sharp_verdicts.specs.SharpFaults.{instances_fault}
use Rattle.sharp_verdicts.specs.SharpJudge.{sharp_line_fault, sharp_judge, sharp_conclude, sharp_answer, sharp_answer_within}

-- the text is that of this sharp verdict, which is right
pub record IsSharpText (study : Question) (v : Pointed) (text : List ℕ) : Type 0 where
  pub right : IsSharpRight study v
  pub is : text ≡ sharp_text study v

-- ---- confirmed texts

-- what the judge confirms is the text of a right sharp verdict
abbrev pub IsSharpJudgeSound : Type 0
IsSharpJudgeSound = (study : Question) (text : List ℕ) (v : Pointed) → sharp_answer study text ≡ Confirmed v → IsSharpText study v text

-- the judge confirms the text of each right sharp verdict of a study of few axioms, where a machine word counts its lemmas
abbrev pub IsSharpJudgeComplete : Type 0
IsSharpJudgeComplete =
    (study : Question) → IsReportable study → HasFewAxioms study → (text : List ℕ) (v : Pointed)
    → IsSharpText study v text → length v.story < 2 ^ 64 → sharp_answer study text ≡ Confirmed v

-- no line of the text of a right sharp verdict of a study of few axioms is longer than 4,096 bytes, where a machine word counts its lemmas
abbrev pub SharpLinesAreShort : Type 0
SharpLinesAreShort =
    (study : Question) → IsReportable study → HasFewAxioms study → (v : Pointed) → IsSharpRight study v
    → length v.story < 2 ^ 64 → HasShortLines (sharp_text study v)

-- different right sharp verdicts have different texts
abbrev pub AreSharpTextsDistinct : Type 0
AreSharpTextsDistinct =
    (study : Question) → IsReportable study → (v w : Pointed) → IsSharpRight study v → IsSharpRight study w
    → sharp_text study v ≡ sharp_text study w → v ≡ w

-- no proper prefix of a confirmed sharp text is confirmed
abbrev pub HasNoSharpPrefix : Type 0
HasNoSharpPrefix =
    (study : Question) → IsReportable study → (v w : Pointed) (text rest : List ℕ)
    → sharp_answer study text ≡ Confirmed v → sharp_answer study (text ++ rest) ≡ Confirmed w → rest ≡ []

-- a right sharp text of a study of few axioms that is cut anywhere before its end has its first faulty line where it is cut, which is not what the grammar wants
abbrev pub CutSharpTextsAreForm : Type 0
CutSharpTextsAreForm =
    (study : Question) → IsReportable study → HasFewAxioms study → (v : Pointed) (text rest : List ℕ)
    → IsSharpText study v (text ++ rest) → length v.story < 2 ^ 64 → rest ≢ []
    → sharp_answer study text ≡ Faulty (length (pieces text)) (Report Form)

-- lines none of which has a line end within it are answered as the text that has them, each with its line end
abbrev pub SharpLinesAreAnswered : Type 0
SharpLinesAreAnswered =
    (study : Question) (lines : List (List ℕ)) → IsTrue (list_all has_no_end lines)
    → sharp_answer study (ended lines) ≡ sharp_conclude study (length lines + 1) [] (sharp_judge study lines)

-- where only so many bytes of a text are read, exactly those confirmed sharp texts are confirmed that have no more
abbrev pub SharpConfirmedWithinLimit : Type 0
SharpConfirmedWithinLimit =
    (limit : ℕ) (study : Question) (text : List ℕ) (v : Pointed)
    → (sharp_answer_within limit study text ≡ Confirmed v) ↔ ((length text ≤ limit) × (sharp_answer study text ≡ Confirmed v))

-- lines without a fault have given at most as many lemmas as they are
abbrev pub SharpLemmasAreFew : Type 0
SharpLemmasAreFew = (study : Question) (lines : List (List ℕ)) (s : SharpStanding) → sharp_judge study lines ≡ Good s → length s.told.earlier ≤ length lines

-- the text of a sharp verdict has at least as many bytes as its story has lemmas
abbrev pub SharpLemmasFit : Type 0
SharpLemmasFit = (study : Question) (v : Pointed) (text : List ℕ) → text ≡ sharp_text study v → length v.story ≤ length text

-- no text is confirmed both as a report and as a sharp text
abbrev pub AreToldApart : Type 0
AreToldApart = (study : Question) (text : List ℕ) (verdict : Verdict) (v : Pointed) → answer study text ≡ Confirmed verdict → ¬ (sharp_answer study text ≡ Confirmed v)

-- the judge of reports refuses the first line of a sharp text, which is not what the grammar of reports wants
abbrev pub SharpTextsAreNoReports : Type 0
SharpTextsAreNoReports = (study : Question) (text rest : List ℕ) → text ≡ codes "bench sharp 1" ++ 10 ∷ rest → answer study text ≡ Faulty 1 Form

-- where at most so many bytes of a text are read, exactly the texts of right sharp verdicts that have no more are confirmed
abbrev pub SharpTextsAreConfirmed : Type 0
SharpTextsAreConfirmed =
    (limit : ℕ) (study : Question) → IsReportable study → HasFewAxioms study → limit < 2 ^ 64 → (text : List ℕ) (v : Pointed)
    → (sharp_answer_within limit study text ≡ Confirmed v) ↔ ((length text ≤ limit) × IsSharpText study v text)

-- ---- what they claim

-- no rule of the size makes the bodies of all of some instances true
abbrev pub HasNoRuleOfAll : Question → List Cited → Type 0
HasNoRuleOfAll study instances = (table : List ℕ) → ¬ IsTrue (satisfies_instances study instances table)

-- some rule makes the bodies of all of them but one true, whichever it is
abbrev pub HaveRulesOfOthers : Question → List Cited → Type 0
HaveRulesOfOthers study instances = (c : Cited) → IsTrue (has_instance instances c) → (table : List ℕ) × IsTrue (satisfies_instances study (others_than instances c) table)

-- what a sharp verdict claims: no rule makes the bodies of all listed instances true, so none satisfies the axioms of the core, and none all; the rule that is the mark of an instance makes the bodies of the others true; and so, where no mark is open, no listed instance can be left out
pub record SharpClaims (study : Question) (v : Pointed) : Type 0 where
  pub none : HasNoRuleOfAll study v.instances
  pub none_of_core : HasNoRule study v.core
  pub none_of_study : HasNoRule study (below (length study.axioms))
  pub rules : (k : ℕ) (c : Cited) (table : List ℕ) → slice_get v.instances k ≡ Some c → slice_get v.marks k ≡ Some (Rule table)
      → IsTrue (satisfies_instances study (others_than v.instances c) table)
  pub needed : IsTrue (list_all is_rule_given v.marks) → HaveRulesOfOthers study v.instances

-- what a right sharp verdict claims holds
abbrev pub SharpClaimsHold : Type 0
SharpClaimsHold = (study : Question) → IsSize study.size → (v : Pointed) → IsSharpRight study v → SharpClaims study v

-- and so does what a confirmed sharp text claims
abbrev pub ConfirmedSharpClaimsHold : Type 0
ConfirmedSharpClaimsHold =
    (study : Question) → IsSize study.size → (text : List ℕ) (v : Pointed) → sharp_answer study text ≡ Confirmed v → SharpClaims study v

-- ---- faulty lines

-- a line of this number is faulty, and none before it is
pub record IsFirstSharpFault (study : Question) (lines : List (List ℕ)) (n : ℕ) (word : SharpRefusal) : Type 0 where
  pub before : List (List ℕ)
  pub line : List ℕ
  pub more : List (List ℕ)
  pub standing : SharpStanding
  pub split : lines ≡ before ++ line ∷ more
  pub number : n ≡ length before + 1
  pub faultless : sharp_judge study before ≡ Good standing
  pub fault : sharp_line_fault study standing line ≡ Some word

-- the judge names the first faulty line, and no line after it plays a part
abbrev pub SharpFaultsAreFirst : Type 0
SharpFaultsAreFirst =
    (study : Question) (lines : List (List ℕ)) (n : ℕ) (word : SharpRefusal)
    → (sharp_judge study lines ≡ Refused n word) ↔ IsFirstSharpFault study lines n word

-- the first of some instances whose body is false of a table: the word has the name of its axiom, and its number
pub record IsFirstFalse (study : Question) (table : List ℕ) (instances : List Cited) (word : SharpRefusal) : Type 0 where
  pub before : List Cited
  pub cited : Cited
  pub after : List Cited
  pub split : instances ≡ before ++ cited ∷ after
  pub named : word ≡ Report (Fails (name_at study.axioms cited.«axiom») cited.number)
  pub true_before : IsTrue (list_all (is_true_of study table) before)
  pub fails : IsFalse (is_true_of study table cited)

-- a table has no fault exactly where the bodies of the instances that are asked are true of it, and else it names the first that is false
abbrev pub SharpTableFaultsAreFirst : Type 0
SharpTableFaultsAreFirst =
    (study : Question) (table : List ℕ) (instances : List Cited)
    → ((instances_fault study table instances ≡ None) ↔ IsTrue (list_all (is_true_of study table) instances))
    × ((word : SharpRefusal) → (instances_fault study table instances ≡ Some word) ↔ IsFirstFalse study table instances word)
