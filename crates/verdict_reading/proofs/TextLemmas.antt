-- One more line of a text, which may be a report or a sharp text.
use Rattle.std.proofs.Common.{◌≡◌, sym, ap, ◌∙◌, subst, ℕ, ◌+◌, Bool, true, false, List, [], ◌∷◌, ◌++◌, length, Option, Some, None, option_map, arith, length-append}
use Rattle.vocab.specs.Study.{Question}
use Rattle.verdicts.specs.declared.refusals.Refusal.{Refusal}
use Rattle.verdicts.specs.Places.{Standing, start}
use Rattle.verdicts.specs.FirstFault.{Good, Refused}
use Rattle.verdicts.specs.Judge.{advance, line_fault, after, judge_from, judge}
use Rattle.verdicts.proofs.FaultLaws.{past}
use Rattle.verdicts.proofs.FirstFaultLaws.{stops, after_good}
use Rattle.sharp_verdicts.specs.declared.refusals.SharpRefusal.{SharpRefusal}
use Rattle.sharp_laws.proofs.FaultLaws.{past as sharp_past}
use Rattle.sharp_verdicts.specs.SharpJudge.{advance_sharp, sharp_line_fault, sharp_after, sharp_judge_from, sharp_judge}
use Rattle.sharp_verdicts.specs.SharpPlaces.{SharpStanding, sharp_start}
use Rattle.sharp_report.specs.SharpStands.{IsReadWithin}
use Rattle.report_files.proofs.LineLemmas.{refused_more}
use Rattle.report_files.proofs.SharpLineLemmas.{sharp_refused_more}
use Rattle.verdict_reading.specs.declared.collector.Collector.{Collector}
use Rattle.verdict_reading.specs.declared.sharp_collector.SharpCollector.{SharpCollector}
use Rattle.verdict_reading.specs.declared.text_collector.TextCollector.TheVariants as collector
use Rattle.verdict_reading.specs.declared.text_collector.TextRefusal.{TextRefusal}
use Rattle.verdict_reading.specs.declared.text_collector.TextRefusal.TheVariants as refusal
use Rattle.verdict_reading.specs.Collected.{Collects, IsCollected}
use Rattle.verdict_reading.specs.SharpCollected.{SharpCollects, IsSharpCollected}
use Rattle.verdict_reading.specs.Told.{HasCollected, IsFirstFaulty, IsLineCollected}

-- ---- one more line

module _ (study : Question) (lines : List (List ℕ)) (text : List ℕ) where
  abbrev n : ℕ
  n = 1 + length lines

  number : n ≡ length lines + 1
  number = omega arith

  -- of a report
  report_told : (s : Standing) → judge study lines ≡ Good s → judge study (lines ++ text ∷ []) ≡ judge_from study n s (text ∷ [])
  report_told s e = after_good (line_fault study) (after study) 1 start s lines (text ∷ []) e

  report_next : (s : Standing) (c : Collector) (fault : Option Refusal) → judge study lines ≡ Good s → IsCollected study s text c fault
      → IsLineCollected study false lines text (collector.Report c) (option_map refusal.Report fault)
  report_next s c None e t = (advance study s t.0, report_told s e ∙ past study n s text [] t.0 t.1 t.2, t.3)
  report_next s c (Some word) e t = report_told s e ∙ stops (line_fault study) (after study) n s text [] word t ∙ ap (λ m. Refused m word) number

  pub report_taken : (sharp : Bool) (c after : Collector) (fault : Option Refusal) → HasCollected study sharp (collector.Report c) lines
      → ((s : Standing) → Collects study c s → IsCollected study s text after fault)
      → IsLineCollected study sharp lines text (collector.Report after) (option_map refusal.Report fault)
  report_taken false c after fault h go = report_next h.0 after fault h.1 (go h.0 h.2)
  report_taken true c after fault h go = absurd h

  -- of a sharp text
  sharp_told : (s : SharpStanding) → sharp_judge study lines ≡ Good s → sharp_judge study (lines ++ text ∷ []) ≡ sharp_judge_from study n s (text ∷ [])
  sharp_told s e = after_good (sharp_line_fault study) (sharp_after study) 1 sharp_start s lines (text ∷ []) e

  sharp_next : (s : SharpStanding) (c : SharpCollector) (fault : Option SharpRefusal) → sharp_judge study lines ≡ Good s → IsReadWithin study (length lines) s
      → IsSharpCollected study s text c fault → IsLineCollected study true lines text (collector.Sharp c) (option_map refusal.Sharp fault)
  sharp_next s c None e i t = (
    advance_sharp study s t.0,
    sharp_told s e ∙ sharp_past study n s text [] t.0 t.1 t.2,
    t.3,
    subst (λ m. IsReadWithin study m (advance_sharp study s t.0)) (sym (length-append lines (text ∷ []))) (t.4 (length lines) i),
  )
  sharp_next s c (Some word) e i t =
      sharp_told s e ∙ stops (sharp_line_fault study) (sharp_after study) n s text [] word t ∙ ap (λ m. Refused m word) number

  pub sharp_taken : (sharp : Bool) (c after : SharpCollector) (fault : Option SharpRefusal) → HasCollected study sharp (collector.Sharp c) lines
      → ((s : SharpStanding) → SharpCollects study c s → IsSharpCollected study s text after fault)
      → IsLineCollected study sharp lines text (collector.Sharp after) (option_map refusal.Sharp fault)
  sharp_taken false c after fault h go = absurd h
  sharp_taken true c after fault h go = sharp_next h.0 after fault h.1 h.3 (go h.0 h.2)

-- whatever lines follow the first faulty one
pub faulty_more : (study : Question) (sharp : Bool) (lines more : List (List ℕ)) (m : ℕ) (word : TextRefusal) → IsFirstFaulty study sharp lines m word → IsFirstFaulty study sharp (lines ++ more) m word
faulty_more study false lines more m (refusal.Report word) h = refused_more study lines more m word h
faulty_more study true lines more m (refusal.Sharp word) h = sharp_refused_more study lines more m word h
faulty_more study false lines more m (refusal.Sharp word) h = absurd h
faulty_more study true lines more m (refusal.Report word) h = absurd h
