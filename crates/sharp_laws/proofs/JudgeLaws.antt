-- A judge that reaches the end has read the text of a right sharp verdict.
use Rattle.std.proofs.Common.{◌≡◌, refl, sym, ap, ◌∙◌, subst, ℕ, List, [], ◌∷◌, ◌++◌, map, length, Some, None}
use Rattle.std.specs.List.{flat_map}
use Rattle.std.proofs.lemmas.List.{map-append}
use Rattle.vocab.specs.Study.{Question}
use Rattle.verdicts.specs.declared.refusals.Refusal.TheVariants.{Form}
use Rattle.verdicts.specs.FirstFault.{Told, Good, Refused, Confirmed}
use Rattle.verdicts.specs.Judge.{ended, pieces, front, final}
use Rattle.verdicts.proofs.FirstFaultLaws.{all_read}
use Rattle.verdicts.proofs.WholeTextLaws.{whole_pieces}
use Rattle.sharp_verdicts.specs.declared.refusals.SharpRefusal.{SharpRefusal}
use Rattle.sharp_verdicts.specs.declared.refusals.SharpRefusal.TheVariants.{Report}
use Rattle.sharp_verdicts.specs.Right.{Pointed, is_mark}
use Rattle.sharp_verdicts.specs.SharpLines.{SharpLine, sharp_line_text}
use Rattle.sharp_verdicts.specs.SharpPlaces.{SharpPlace, AtSharpNothing, SharpStanding, sharp_start, read_sharp_line}
use Rattle.sharp_verdicts.specs.SharpFaults.{listed_instances, sharp_fault}
use Rattle.sharp_verdicts.specs.SharpJudge.{advance_sharp, sharp_judge_from, sharp_judge, pointed_of, at_sharp_end, sharp_conclude, sharp_answer}
use Rattle.sharp_laws.specs.Laws.{IsSharpText}
use Rattle.sharp_laws.proofs.FitLaws.{line_fits}
use Rattle.sharp_laws.proofs.MarkLaws.{marks_full}
use Rattle.sharp_laws.proofs.SoundLaws.{SharpHolds, HasSharpRead, sharp_step_read}

module _ (study : Question) where
  -- a reader that has read these texts, each a line of such lines
  abbrev Ran : SharpStanding → List (List ℕ) → Type 0
  Ran s texts = (lines : List SharpLine) × HasSharpRead study s lines × (texts ≡ map (sharp_line_text study) lines)

  ran_next : (s : SharpStanding) (before : List (List ℕ)) (text : List ℕ) (l : SharpLine) → Ran s before → read_sharp_line study s text ≡ Some l → sharp_fault study s l ≡ None → Ran (advance_sharp study s l) (before ++ text ∷ [])
  ran_next s before text l r e f =
      let read = line_fits study s text l e in (
        r.0 ++ l ∷ [],
        sharp_step_read study s l r.0 r.1 read.0 f,
        ap (λ ts. ts ++ text ∷ []) r.2 ∙ ap (λ x. map (sharp_line_text study) r.0 ++ x ∷ []) read.1 ∙ sym (map-append (sharp_line_text study) r.0 (l ∷ [])),
      )

  ran : (s t : SharpStanding) (texts : List (List ℕ)) → HasSharpRead study s [] → sharp_judge_from study 1 s texts ≡ Good t → Ran t texts
  ran s t texts h e = all_read (read_sharp_line study) (sharp_fault study) (Report Form) (advance_sharp study) Ran ran_next 1 s t [] texts ([], h, refl) e

  at_end_is : (n : ℕ) (rest : List ℕ) (p : SharpPlace) (s : SharpStanding) (v : Pointed) → at_sharp_end study n rest p s ≡ Confirmed v
      → (rest ≡ []) × (p ≡ AtSharpNothing) × (pointed_of study s ≡ v)
  at_end_is n [] AtSharpNothing s v e = let same : pointed_of study s ≡ v = cc in (refl, refl, same)
  at_end_is n rest p s v e = absurd (cc)

  conclude_is : (n : ℕ) (rest : List ℕ) (told : Told SharpStanding SharpRefusal) (v : Pointed) → sharp_conclude study n rest told ≡ Confirmed v
      → (s : SharpStanding) × (told ≡ Good s) × (rest ≡ []) × (s.place ≡ AtSharpNothing) × (pointed_of study s ≡ v)
  conclude_is n rest (Refused line word) v e = absurd (cc)
  conclude_is n rest (Good s) v e = let r = at_end_is n rest s.place s v e in (s, refl, r.0, r.1, r.2)

  pub ended_map : (ls : List SharpLine) → ended (map (sharp_line_text study) ls) ≡ flat_map (λ line. sharp_line_text study line ++ 10 ∷ []) ls
  ended_map [] = refl
  ended_map (l ∷ ls) = ap (λ t. (sharp_line_text study l ++ 10 ∷ []) ++ t) (ended_map ls)

  -- lines that the judge reads to their end are those of a right sharp verdict
  lines_sound : (lines : List (List ℕ)) (s : SharpStanding) → sharp_judge study lines ≡ Good s → s.place ≡ AtSharpNothing → IsSharpText study (pointed_of study s) (ended lines)
  lines_sound lines s e place =
      let r = ran sharp_start s lines (refl, refl, refl, refl) e in
      let read = subst (λ p. SharpHolds study p s r.0) place r.1 in
      record {
        right = record {
          accepted = read.0.accepted;
          core = read.0.core;
          instances = refl;
          marks = marks_full (is_mark study (listed_instances study s)) (listed_instances study s) s.marks read.0.marks read.1;
        };
        is = ap ended r.2 ∙ ended_map r.0 ∙ ap (flat_map (λ line. sharp_line_text study line ++ 10 ∷ [])) read.2;
      }

  pub judge_sound : (text : List ℕ) (v : Pointed) → sharp_answer study text ≡ Confirmed v → IsSharpText study v text
  judge_sound text v e =
      let c = conclude_is (length (pieces text)) (final (pieces text)) (sharp_judge study (front (pieces text))) v e in
      subst (λ (w : Pointed). IsSharpText study w text) c.4
      (subst (λ (t : List ℕ). IsSharpText study (pointed_of study c.0) t) (sym (whole_pieces text c.2)) (lines_sound (front (pieces text)) c.0 c.1 c.3))
