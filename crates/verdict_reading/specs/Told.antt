-- What the lines of a text have come to: of a sharp text where its first line is the title of one, and else of a report.
use Rattle.std.specs.Prelude.{◌≡◌, ℕ, ◌+◌, ◌<◌, ◌==◌, Bool, true, false, List, [], ◌∷◌, ◌++◌, length, Option, Some, None}
use Rattle.vocab.specs.Study.{Question}
use Rattle.verdicts.specs.Places.{Standing}
use Rattle.verdicts.specs.FirstFault.{Good, Refused}
use Rattle.verdicts.specs.Judge.{judge, pieces, front, final}
use Rattle.sharp_verdicts.specs.Judged.{has_sharp_title}
use Rattle.sharp_verdicts.specs.SharpJudge.{sharp_judge}
use Rattle.sharp_verdicts.specs.SharpPlaces.{SharpStanding}
use Rattle.sharp_report.specs.SharpStands.{IsReadWithin}
use Rattle.verdict_reading.specs.declared.lines.Told.{Told}
use Rattle.verdict_reading.specs.declared.lines.Told.TheVariants as told
use Rattle.verdict_reading.specs.declared.text_collector.TextCollector.{TextCollector}
use Rattle.verdict_reading.specs.declared.text_collector.TextCollector.TheVariants as collector
use Rattle.verdict_reading.specs.declared.text_collector.TextRefusal.{TextRefusal}
use Rattle.verdict_reading.specs.declared.text_collector.TextRefusal.TheVariants as refusal
use Rattle.verdict_reading.specs.Collected.{Collects}
use Rattle.verdict_reading.specs.SharpCollected.{SharpCollects}

-- no line is faulty, of a sharp text or of a report, and what they have given is held
abbrev pub HasCollected : Question → (sharp : Bool) → TextCollector → List (List ℕ) → Type 0
HasCollected study false (collector.Report c) lines =
    (s : Standing) × (judge study lines ≡ Good s) × Collects study c s
HasCollected study true (collector.Sharp c) lines =
    (s : SharpStanding) × (sharp_judge study lines ≡ Good s) × SharpCollects study c s × IsReadWithin study (length lines) s
HasCollected study sharp c lines = ⊥

-- the line of this number is the first faulty one
abbrev pub IsFirstFaulty : Question → (sharp : Bool) → List (List ℕ) → (line : ℕ) → TextRefusal → Type 0
IsFirstFaulty study false lines n (refusal.Report word) = judge study lines ≡ Refused n word
IsFirstFaulty study true lines n (refusal.Sharp word) = sharp_judge study lines ≡ Refused n word
IsFirstFaulty study sharp lines n word = ⊥

-- what some lines have given is held, and one more line has a number
pub record IsAmongLines (study : Question) (c : TextCollector) : Type 0 where
  pub sharp : Bool
  pub lines : List (List ℕ)
  pub few : length lines < 4294967295
  pub has : HasCollected study sharp c lines

-- one more line is collected, or is the first faulty one
abbrev pub IsLineCollected : Question → (sharp : Bool) → List (List ℕ) → List ℕ → TextCollector → Option TextRefusal → Type 0
IsLineCollected study sharp lines text c None = HasCollected study sharp c (lines ++ text ∷ [])
IsLineCollected study sharp lines text c (Some word) = IsFirstFaulty study sharp (lines ++ text ∷ []) (length lines + 1) word

-- what is told of some lines, beside what is held of them, and of what follows the last line end
abbrev pub TellsOf : Question → (sharp : Bool) → TextCollector → List (List ℕ) → List ℕ → Told → Type 0
TellsOf study sharp c lines rest (told.Good line ended) =
    HasCollected study sharp c lines × (line ≡ length lines + 1) × (ended ≡ (length rest == 0))
TellsOf study sharp c lines rest (told.Refused line word) = IsFirstFaulty study sharp lines line word

-- the same of the lines of a text
abbrev pub TellsOfText : Question → TextCollector → List ℕ → Told → Type 0
TellsOfText study c text t = TellsOf study (has_sharp_title text) c (front (pieces text)) (final (pieces text)) t
