-- One more line.
use Rattle.std.proofs.Common.{◌≡◌, ◌≢◌, refl, sym, ap, ◌∙◌, subst, ℕ, ◌+◌, ◌⊎◌, inl, inr, List, [], ◌∷◌, ◌++◌, length, Option, Some, None, option_map, Result, Ok, Err, arith, length-append}
use Rattle.std.specs.Prelude.{MatchResult, OnOk}
use Rattle.std.specs.Option.{option_map_or}
use Rattle.lists.specs.declared.memory.NoMemory.{NoMemory as Wanting}
use Rattle.vocab.specs.Study.{Question}
use Rattle.verdicts.specs.declared.refusals.Refusal.{Refusal}
use Rattle.verdicts.specs.declared.refusals.Refusal.TheVariants.{Form}
use Rattle.verdicts.specs.Lines.{Line}
use Rattle.verdicts.specs.Places.{Standing, start}
use Rattle.verdicts.specs.Faults.{fault_of}
use Rattle.verdicts.specs.FirstFault.{Told, Good, Refused}
use Rattle.verdicts.specs.Judge.{read_line, line_fault, after, judge_from, judge}
use Rattle.verdicts.proofs.FaultLaws.{past}
use Rattle.verdicts.proofs.FirstFaultLaws.{stops, go_on, judge_append}
use Rattle.report_lines.specs.declared.lines.Line.{Line as HeldLine}
use Rattle.report_lines.specs.Held.{held_line}
use Rattle.report.specs.declared.faults.ReportFault.{ReportFault}
use Rattle.report.specs.declared.faults.ReportFault.TheVariants.{Line as AtLine, NoMemory}
use Rattle.report.specs.declared.progress.Progress.{Progress}
use Rattle.report.specs.declared.judging.Judging.{Judging}
use Rattle.report.specs.Stands.{Stands, StandsAs, StandsFor, StandsForSome}
use Rattle.report.specs.Taken.{Took, IsTaken}
use Rattle.verdicts.proofs.StepLaws.{lengths_same}

-- ---- one line

-- memory was wanting, or was not
is_wanting : (fault : Option ReportFault) → (fault ≡ Some NoMemory) ⊎ (fault ≢ Some NoMemory)
is_wanting None = inr (λ e. absurd (cc))
is_wanting (Some NoMemory) = inl refl
is_wanting (Some (AtLine line word)) = inr (λ e. absurd (cc))

-- what follows where memory sufficed
pub kept : {P : Type 0} (fault : Option ReportFault) (result : Result (Unit {0}) Wanting) → MatchResult result (λ _. fault ≢ Some NoMemory) (λ _. fault ≡ Some NoMemory) → (fault ≢ Some NoMemory → P) → OnOk result P
kept fault (Ok x) other f = f other
kept fault (Err e) wanting f = tt

-- so many lines, with this fault and judging
abbrev pub at : ℕ → Option ReportFault → Judging → Progress
at n fault r = record { judging = r; lines = n; fault = fault }

module _ (study : Question) where
  -- the number of the lemma that comes next
  pub next_number : (r : Judging) (s : Standing) (n k : ℕ) → Stands study r s → n ≡ k + 1 → k ≡ length r.earlier → n ≡ length s.earlier + 1
  next_number r s n k h e f = let same = lengths_same study r.earlier s.earlier h.earlier in omega (arith, e, f, same)

  -- what is held of a line is what the grammar wants
  pub line_of : (o : Option Line) (line : HeldLine) → Some line ≡ option_map (held_line study) o → (w : Line) × (o ≡ Some w) × (line ≡ held_line study w)
  line_of None line e = absurd (cc)
  line_of (Some w) line e = let same : line ≡ held_line study w = cc in (w, refl, same)

  none_of : (o : Option Line) → None ≡ option_map (held_line study) o → o ≡ None
  none_of None e = refl
  none_of (Some w) e = absurd (cc)

  -- a line that is not wanted
  pub unread : (s : Standing) (text : List ℕ) (r : Judging) → None ≡ option_map (held_line study) (read_line study s text) → IsTaken study s text r (Err Form)
  unread s text r e = ap (λ o. option_map_or (fault_of study s) o (Some Form)) (none_of (read_line study s text) e)

  -- a line that is taken, and one that is refused
  pub taken_line : (s : Standing) (text : List ℕ) (w : Line) (r : Judging) (line : HeldLine) → read_line study s text ≡ Some w → line ≡ held_line study w → Took study s w r None → IsTaken study s text r (Ok line)
  taken_line s text w r line e same h = (w, e, same, sym h.0, h.1 refl)

  pub refused_line : (s : Standing) (text : List ℕ) (w : Line) (r : Judging) (word : Refusal) → read_line study s text ≡ Some w → Took study s w r (Some word) → IsTaken study s text r (Err word)
  refused_line s text w r word e h = ap (λ o. option_map_or (fault_of study s) o (Some Form)) e ∙ sym h.0

  -- what is held then
  pub taken : (n : ℕ) (s : Standing) (text : List ℕ) (r : Judging) (line : HeldLine) → IsTaken study s text r (Ok line) → StandsAs study None r (judge_from study n s (text ∷ []))
  taken n s text r line h = subst (StandsAs study None r) (sym (past study n s text [] h.0 h.1 h.3)) (refl, h.4)

  pub refused : (n : ℕ) (s : Standing) (text : List ℕ) (r : Judging) (word : Refusal) → IsTaken study s text r (Err word) → StandsAs study (Some (AtLine n word)) r (judge_from study n s (text ∷ []))
  refused n s text r word h = subst (StandsAs study (Some (AtLine n word)) r) (sym (stops (line_fault study) (after study) n s text [] word h)) refl

  -- ---- after other lines

  longer : (n : ℕ) (lines : List (List ℕ)) (text : List ℕ) → n ≡ length lines → n + 1 ≡ length (lines ++ text ∷ [])
  longer n lines text e = omega (arith, e, length-append lines (text ∷ []))

  -- one more line, of this number, after a result
  abbrev more : ℕ → Told Standing Refusal → List ℕ → Told Standing Refusal
  more n told text = go_on (line_fault study) (after study) n told (text ∷ [])

  told_next : (lines : List (List ℕ)) (text : List ℕ) → judge study (lines ++ text ∷ []) ≡ more (1 + length lines) (judge study lines) text
  told_next lines text = judge_append (line_fault study) (after study) 1 start lines (text ∷ [])

  -- after a faulty line nothing changes
  pub still : (n : ℕ) (fault : ReportFault) (r : Judging) (lines : List (List ℕ)) (text : List ℕ) → StandsFor study (at n (Some fault) r) lines → StandsFor study (at (n + 1) (Some fault) r) (lines ++ text ∷ [])
  still n fault r lines text h =
      (longer n lines text h.0, subst (StandsAs study (Some fault) r) (sym (told_next lines text)) (by_told (judge study lines) h.1))
    where
      by_told : (told : Told Standing Refusal) → StandsAs study (Some fault) r told → StandsAs study (Some fault) r (more (1 + length lines) told text)
      by_told (Good s) k = let wrong : Some fault ≡ None = k.0 in absurd (cc)
      by_told (Refused line word) k = k

  -- the next line after lines without a fault
  pub step : (n : ℕ) (fault : Option ReportFault) (r after : Judging) (lines : List (List ℕ)) (text : List ℕ) → StandsFor study (at n None r) lines →
      ((s : Standing) → Stands study r s → StandsAs study fault after (judge_from study (n + 1) s (text ∷ []))) → StandsFor study (at (n + 1) fault after) (lines ++ text ∷ [])
  step n fault r after lines text h go =
      let number : n + 1 ≡ 1 + length lines = omega (arith, h.0) in
      (longer n lines text h.0, subst (StandsAs study fault after) (sym (told_next lines text)) (subst (λ k. StandsAs study fault after (more k (judge study lines) text)) number (by_told (judge study lines) h.1)))
    where
      by_told : (told : Told Standing Refusal) → StandsAs study None r told → StandsAs study fault after (more (n + 1) told text)
      by_told (Good s) k = go s k.1
      by_told (Refused line word) k = let wrong : None ≡ Some (AtLine line word) = k in absurd (cc)

  -- a checker with a fault stays ready
  pub still_ready : (n : ℕ) (fault : ReportFault) (r : Judging) (text : List ℕ) → StandsForSome study (at n (Some fault) r) → StandsForSome study (at (n + 1) (Some fault) r)
  still_ready n fault r text (inl e) = inl e
  still_ready n fault r text (inr (lines, h)) = inr (lines ++ text ∷ [], still n fault r lines text h)

  -- the next line leaves a checker ready
  pub step_ready : (n : ℕ) (fault : Option ReportFault) (r after : Judging) (text : List ℕ) → StandsForSome study (at n None r) →
      ((s : Standing) → Stands study r s → fault ≢ Some NoMemory → StandsAs study fault after (judge_from study (n + 1) s (text ∷ []))) → StandsForSome study (at (n + 1) fault after)
  step_ready n fault r after text (inl e) go = absurd (cc)
  step_ready n fault r after text (inr (lines, h)) go = elim (is_wanting fault) [
    | inl e ↦ inl e
    | inr other ↦ inr (lines ++ text ∷ [], step n fault r after lines text h (λ s k. go s k other))
  ]

  -- ---- at what a checker holds

  pub still_ready_at : (n : ℕ) (o : Option ReportFault) (fault : ReportFault) (r : Judging) (text : List ℕ) → o ≡ Some fault → StandsForSome study (at n o r) → StandsForSome study (at (n + 1) o r)
  still_ready_at n o fault r text e h = subst (λ x. StandsForSome study (at (n + 1) x r)) (sym e) (still_ready n fault r text (subst (λ x. StandsForSome study (at n x r)) e h))

  pub still_at : (n : ℕ) (o : Option ReportFault) (fault : ReportFault) (r : Judging) (lines : List (List ℕ)) (text : List ℕ) → o ≡ Some fault → StandsFor study (at n o r) lines → StandsFor study (at (n + 1) o r) (lines ++ text ∷ [])
  still_at n o fault r lines text e h = subst (λ x. StandsFor study (at (n + 1) x r) (lines ++ text ∷ [])) (sym e) (still n fault r lines text (subst (λ x. StandsFor study (at n x r) lines) e h))

  pub step_ready_at : (n : ℕ) (o fault : Option ReportFault) (r after : Judging) (text : List ℕ) → o ≡ None → StandsForSome study (at n o r) →
      ((s : Standing) → Stands study r s → fault ≢ Some NoMemory → StandsAs study fault after (judge_from study (n + 1) s (text ∷ []))) → StandsForSome study (at (n + 1) fault after)
  step_ready_at n o fault r after text e h go = step_ready n fault r after text (subst (λ x. StandsForSome study (at n x r)) e h) go

  pub step_at : (n : ℕ) (o fault : Option ReportFault) (r after : Judging) (lines : List (List ℕ)) (text : List ℕ) → o ≡ None → StandsFor study (at n o r) lines →
      ((s : Standing) → Stands study r s → StandsAs study fault after (judge_from study (n + 1) s (text ∷ []))) → StandsFor study (at (n + 1) fault after) (lines ++ text ∷ [])
  step_at n o fault r after lines text e h go = step n fault r after lines text (subst (λ x. StandsFor study (at n x r) lines) e h) go
