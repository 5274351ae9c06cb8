-- A judge that reaches the end has read the report of a right verdict.
use Rattle.std.proofs.Common.{◌≡◌, refl, sym, ap, ◌∙◌, subst, ℕ, ◌+◌, Bool, true, false, List, [], ◌∷◌, ◌++◌, map, length, Option, Some, None, cond}
use Rattle.std.specs.Prelude.{nat_lt}
use Rattle.std.specs.List.{flat_map}
use Rattle.std.proofs.lemmas.List.{map-append}
use Rattle.std.proofs.lemmas.List.Splits.{join_with_byte-slice_split}
use Rattle.vocab.specs.Study.{Question}
use Rattle.verdicts.specs.Texts.{words_of, joined_words}
use Rattle.verdicts.specs.Lines.{Line, line_text}
use Rattle.verdicts.specs.declared.verdicts.Verdict.{Verdict}
use Rattle.verdicts.specs.Report.{IsReport}
use Rattle.verdicts.specs.Places.{Place, AtNothing, Standing, start, wanted}
use Rattle.verdicts.specs.declared.refusals.Refusal.{Refusal}
use Rattle.verdicts.specs.declared.refusals.Refusal.TheVariants.{Form}
use Rattle.verdicts.specs.Faults.{fault_of}
use Rattle.verdicts.specs.FirstFault.{Told, Good, Refused, Confirmed}
use Rattle.verdicts.specs.Judge.{advance, read_line, judge_from, judge, ended, pieces, front, final, at_end, conclude, answer}
use Rattle.verdicts.proofs.FirstFaultLaws.{all_read}
use Rattle.verdicts.proofs.WholeTextLaws.{whole_pieces}
use Rattle.verdicts.proofs.LineLaws.{wanted_read}
use Rattle.verdicts.proofs.FitLaws.{Fits, wanted_fits}
use Rattle.verdicts.proofs.SoundLaws.{Holds, printed, IsIdle, HasRead, step_read_so}
use Rattle.verdicts.proofs.VersionLaws.{IsAllowed, allowed_next}

pub not_long : (b : Bool) (o : Option Line) (l : Line) → cond b None o ≡ Some l → o ≡ Some l
not_long true o l e = absurd (cc)
not_long false o l e = e

module _ (study : Question) where
  -- a reader that has read these lines, all of them right, in a version that the size may have
  abbrev Reached : Standing → List Line → Type 0
  Reached s lines = HasRead study s lines × IsAllowed study s.place s

  -- a reader that has read these texts, each a line of such lines
  abbrev Ran : Standing → List (List ℕ) → Type 0
  Ran s texts = (lines : List Line) × Reached s lines × (texts ≡ map (line_text study) lines)

  pub read_is : (s : Standing) (text : List ℕ) (l : Line) → read_line study s text ≡ Some l → text ≡ line_text study l
  read_is s text l e =
      let w = not_long (nat_lt 4096 (length text)) (wanted study s.place (length s.earlier + 1) (words_of text)) l e in
      sym (join_with_byte-slice_split 32 text) ∙ ap joined_words (wanted_read study s.place (length s.earlier + 1) (words_of text) l w)

  reached_next : (s : Standing) (before : List Line) (l : Line) → Reached s before
      → Fits study s.place (length s.earlier + 1) l → fault_of study s l ≡ None
      → Reached (advance study s l) (before ++ l ∷ [])
  reached_next s before l h g f = (step_read_so study s l before h.0 g f, allowed_next study s l h.1 g f)

  -- a line that is read is one that fits there
  pub read_fits : (s : Standing) (text : List ℕ) (l : Line) → read_line study s text ≡ Some l → Fits study s.place (length s.earlier + 1) l
  read_fits s text l e =
      let w = not_long (nat_lt 4096 (length text)) (wanted study s.place (length s.earlier + 1) (words_of text)) l e in
      wanted_fits study s.place (length s.earlier + 1) (words_of text) l w

  ran_next : (s : Standing) (before : List (List ℕ)) (text : List ℕ) (l : Line) → Ran s before → read_line study s text ≡ Some l → fault_of study s l ≡ None → Ran (advance study s l) (before ++ text ∷ [])
  ran_next s before text l r e f =
      (r.0 ++ l ∷ [], reached_next s r.0 l r.1 (read_fits s text l e) f, ap (λ ts. ts ++ text ∷ []) r.2 ∙ ap (λ x. map (line_text study) r.0 ++ x ∷ []) (read_is s text l e) ∙ sym (map-append (line_text study) r.0 (l ∷ [])))

  ran : (s t : Standing) (texts : List (List ℕ)) → Reached s [] → judge_from study 1 s texts ≡ Good t → Ran t texts
  ran s t texts h e = all_read (read_line study) (fault_of study) Form (advance study) Ran ran_next 1 s t [] texts ([], h, refl) e

at_end_is : (n : ℕ) (rest : List ℕ) (p : Place) (v : Verdict) → at_end n rest p ≡ Confirmed v → (rest ≡ []) × (p ≡ AtNothing v)
at_end_is n [] (AtNothing u) v e = let same : u ≡ v = cc in (refl, ap AtNothing same)
at_end_is n rest p v e = absurd (cc)

pub conclude_is : (n : ℕ) (rest : List ℕ) (told : Told Standing Refusal) (v : Verdict) → conclude n rest told ≡ Confirmed v → (s : Standing) × (told ≡ Good s) × (rest ≡ []) × (s.place ≡ AtNothing v)
conclude_is n rest (Refused line word) v e = absurd (cc)
conclude_is n rest (Good s) v e = let r = at_end_is n rest s.place v e in (s, refl, r.0, r.1)

pub ended_map : (study : Question) (ls : List Line) → ended (map (line_text study) ls) ≡ flat_map (λ line. line_text study line ++ 10 ∷ []) ls
ended_map study [] = refl
ended_map study (l ∷ ls) = ap (λ t. (line_text study l ++ 10 ∷ []) ++ t) (ended_map study ls)

module _ (study : Question) where
  idle : IsIdle study start
  idle = record { rows = refl; earlier = refl; suppose = refl; steps = refl; witnesses = refl }

  -- lines that the judge reads to their end are those of the report of a right verdict
  pub lines_sound : (lines : List (List ℕ)) (s : Standing) (v : Verdict) → judge study lines ≡ Good s → s.place ≡ AtNothing v → IsReport study v (ended lines)
  lines_sound lines s v e place =
      let r = ran study start s lines ((idle, refl), tt) e in
      let read = subst (λ p. Holds study p s × (printed study p s ≡ r.0)) place r.1.0 in
      let right = read.0 in
      record {
        claims_some = right.0.2;
        right = right.0.0;
        version = s.version;
        allowed = subst (λ p. IsAllowed study p s) place r.1.1;
        is = ap ended r.2 ∙ ended_map study r.0 ∙ ap (flat_map (λ line. line_text study line ++ 10 ∷ [])) (sym read.1);
      }

  pub concluded_sound : (n : ℕ) (lines : List (List ℕ)) (v : Verdict) → conclude n [] (judge study lines) ≡ Confirmed v → IsReport study v (ended lines)
  concluded_sound n lines v e =
      let c = conclude_is n [] (judge study lines) v e in
      lines_sound lines c.0 v c.1 c.3

pub judge_sound : (study : Question) (text : List ℕ) (v : Verdict) → answer study text ≡ Confirmed v → IsReport study v text
judge_sound study text v e =
    let c = conclude_is (length (pieces text)) (final (pieces text)) (judge study (front (pieces text))) v e in
    subst (λ (t : List ℕ). IsReport study v t) (sym (whole_pieces text c.2)) (lines_sound study (front (pieces text)) c.0 v c.1 c.3)

-- what holds of the parts after lines without a fault
pub good_holds : (study : Question) (s : Standing) (texts : List (List ℕ)) → judge study texts ≡ Good s → Holds study s.place s
good_holds study s texts e =
    (ran study start s texts ((idle study, refl), tt) e).1.0.0
