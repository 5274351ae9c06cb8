-- `gain STUDY REPORT`.
use Rattle.std.specs.Prelude.{◌≡◌, ◌≢◌, ℕ, ◌+◌, List, ◌++◌, codes, slice_index, Option, Some, None}
use Rattle.edge.specs.Shelf.{Files}
use Rattle.vocab.specs.declared.kinds.Kind.TheVariants.{Sets}
use Rattle.vocab.specs.Size.{Extent}
use Rattle.vocab.specs.Study.{Question}
use Rattle.meaning.specs.Space.{with_ballot}
use Rattle.meaning.specs.Texts.{ballot_text, outcome_text, profile_text}
use Rattle.verdicts.specs.declared.refusals.Refusal.{Refusal}
use Rattle.verdicts.specs.declared.verdicts.Verdict.{Verdict}
use Rattle.verdicts.specs.FirstFault.{Judgement, Confirmed, Faulty, TooLong}
use Rattle.verdicts.specs.Judge.{rule_in}
use Rattle.verdicts.specs.Numbers.{number_text}
use Rattle.verdicts.specs.Words.{answer_text}
use Rattle.choice_sets.specs.declared.gains.Manipulation.{Manipulation}
use Rattle.choice_sets.specs.Gains.{first_gain}
use Rattle.answers.specs.declared.runs.Run.{Run}
use Rattle.answers.specs.Runs.{IsBare}
use Rattle.answers.specs.Studies.{OverStudy}
use Rattle.answers.specs.Check.{judgement, judgement_status}

-- who gains where and by which ballot, numbered from 1; and the sets that the rule gives at the changed profile
-- and at the profile
abbrev pub gain_line : Extent → List ℕ → Manipulation → List ℕ
gain_line size table m =
    codes "voter " ++ (number_text (m.voter + 1) ++ (codes " at " ++ (profile_text size m.profile
    ++ (codes " gains by " ++ (ballot_text size m.ballot
    ++ (codes ": " ++ (outcome_text size (slice_index table (with_ballot size m.profile m.voter m.ballot))
    ++ (codes " over " ++ (outcome_text size (slice_index table m.profile) ++ codes "\n")))))))))

abbrev pub gain_text : Extent → List ℕ → Option Manipulation → List ℕ
gain_text size table None = codes "none\n"
gain_text size table (Some m) = gain_line size table m

-- what is said of the rule of a confirmed report
abbrev pub rule_gain_text : Extent → Option (List ℕ) → List ℕ
rule_gain_text size None = codes "no rule\n"
rule_gain_text size (Some table) = gain_text size table (first_gain size table)

-- what is said of a report: of one that is not confirmed, what `check` says
abbrev pub said_of_gain : Question → Judgement Verdict Refusal → List ℕ
said_of_gain study (Confirmed verdict) = rule_gain_text study.size (rule_in verdict)
said_of_gain study (Faulty line word) = answer_text (Faulty line word)
said_of_gain study TooLong = answer_text TooLong

-- the report of a file is judged over a study, and the text is what is said of the gains in its rule
pub record IsGainSaid (files : Files) (report : List ℕ) (study : Question) (run : Run) (text : List ℕ) : Type 0 where
  pub bytes : List ℕ
  pub held : files report ≡ Some bytes
  pub ends : IsBare run (judgement_status (judgement study bytes))
  pub is : text ≡ said_of_gain study (judgement study bytes)

-- a study of another kind is refused; over one of sets the report is judged
pub data Gains (files : Files) (report : List ℕ) (study : Question) (run : Run) (text : List ℕ) : Type 0 where
  other_kind : study.size.kind ≢ Sets → text ≡ codes "study: kind not sets\n" → IsBare run 3
      → Gains files report study run text
  of_sets : study.size.kind ≡ Sets → IsGainSaid files report study run text → Gains files report study run text

abbrev pub IsGained : Files → List ℕ → List ℕ → Run → List ℕ → Type 0
IsGained files name report run text = OverStudy files name run text (λ study. Gains files report study run text)
