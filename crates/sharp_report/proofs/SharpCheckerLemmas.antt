-- One more line.
use Rattle.std.proofs.Common.{◌≡◌, ◌≢◌, refl, sym, ◌∙◌, subst, ℕ, ◌+◌, ◌<◌, ◌⊎◌, inl, inr, List, [], ◌∷◌, ◌++◌, length, Option, Some, None, Result, Ok, Err, arith, length-append}
use Rattle.std.specs.Prelude.{MatchResult, OnOk}
use Rattle.lists.specs.declared.memory.NoMemory.{NoMemory as Wanting}
use Rattle.vocab.specs.Study.{Question}
use Rattle.verdicts.specs.FirstFault.{Told, Good, Refused}
use Rattle.verdicts.proofs.FirstFaultLaws.{past, stops, go_on, judge_append}
use Rattle.verdicts.specs.declared.refusals.Refusal.TheVariants.{Form}
use Rattle.sharp_verdicts.specs.declared.refusals.SharpRefusal.{SharpRefusal}
use Rattle.sharp_verdicts.specs.declared.refusals.SharpRefusal.TheVariants.{Report}
use Rattle.sharp_verdicts.specs.SharpFaults.{sharp_fault}
use Rattle.sharp_verdicts.specs.SharpJudge.{advance_sharp, sharp_line_fault, sharp_after, sharp_judge_from, sharp_judge}
use Rattle.sharp_verdicts.specs.SharpPlaces.{SharpStanding, sharp_start, read_sharp_line}
use Rattle.sharp_report.specs.declared.faults.SharpFault.{SharpFault}
use Rattle.sharp_report.specs.declared.faults.SharpFault.TheVariants.{Line as AtLine, NoMemory}
use Rattle.sharp_report.specs.declared.judging.SharpJudging.{SharpJudging}
use Rattle.sharp_report.specs.declared.lines.SharpLine.{SharpLine as HeldLine}
use Rattle.sharp_report.specs.declared.progress.SharpProgress.{SharpProgress}
use Rattle.sharp_report.specs.SharpStands.{SharpStands, IsReadWithin, IsSharpRead, IsSharpTaken, SharpStandsAs, SharpStandsFor, IsSharpReady}

-- memory was wanting, or was not
is_wanting : (fault : Option SharpFault) → (fault ≡ Some NoMemory) ⊎ (fault ≢ Some NoMemory)
is_wanting None = inr (λ e. absurd (cc))
is_wanting (Some NoMemory) = inl refl
is_wanting (Some (AtLine line word)) = inr (λ e. absurd (cc))

-- what follows where memory sufficed
pub kept : {P : Type 0} (fault : Option SharpFault) (result : Result (Unit {0}) Wanting) → MatchResult result (λ _. fault ≢ Some NoMemory) (λ _. fault ≡ Some NoMemory) → (fault ≢ Some NoMemory → P) → OnOk result P
kept fault (Ok x) other f = f other
kept fault (Err e) wanting f = tt

-- so many lines, with this fault and judging
abbrev pub at : ℕ → Option SharpFault → SharpJudging → SharpProgress
at n fault r = record { judging = r; lines = n; fault = fault }

module _ (study : Question) where
  -- a line that is taken
  pub taken : (n count : ℕ) (s : SharpStanding) (text : List ℕ) (r : SharpJudging) (said : HeldLine) → IsReadWithin study count s → IsSharpTaken study s text r (Ok said) → SharpStandsAs study (count + 1) None r (sharp_judge_from study n s (text ∷ []))
  taken n count s text r said i h = subst (SharpStandsAs study (count + 1) None r) (sym (past (read_sharp_line study) (sharp_fault study) (Report Form) (advance_sharp study) n s text [] h.0 h.1 h.3)) (refl, h.4, h.5 count i)

  -- a line that is refused
  pub refused : (n count : ℕ) (s : SharpStanding) (text : List ℕ) (r : SharpJudging) (word : SharpRefusal) → IsSharpTaken study s text r (Err word) → SharpStandsAs study (count + 1) (Some (AtLine n word)) r (sharp_judge_from study n s (text ∷ []))
  refused n count s text r word h =
      subst (SharpStandsAs study (count + 1) (Some (AtLine n word)) r) (sym (stops (sharp_line_fault study) (sharp_after study) n s text [] word h)) refl

  -- ---- after other lines

  longer : (n : ℕ) (lines : List (List ℕ)) (text : List ℕ) → n ≡ length lines → n + 1 ≡ length (lines ++ text ∷ [])
  longer n lines text e = omega (arith, e, length-append lines (text ∷ []))

  -- one more line, of this number, after a result
  abbrev more : ℕ → Told SharpStanding SharpRefusal → List ℕ → Told SharpStanding SharpRefusal
  more n told text = go_on (sharp_line_fault study) (sharp_after study) n told (text ∷ [])

  told_next : (lines : List (List ℕ)) (text : List ℕ) → sharp_judge study (lines ++ text ∷ []) ≡ more (1 + length lines) (sharp_judge study lines) text
  told_next lines text = judge_append (sharp_line_fault study) (sharp_after study) 1 sharp_start lines (text ∷ [])

  -- after a faulty line nothing changes
  still : (n : ℕ) (fault : SharpFault) (r : SharpJudging) (lines : List (List ℕ)) (text : List ℕ) → SharpStandsFor study (at n (Some fault) r) lines → SharpStandsFor study (at (n + 1) (Some fault) r) (lines ++ text ∷ [])
  still n fault r lines text h =
      (longer n lines text h.0, subst (SharpStandsAs study (length (lines ++ text ∷ [])) (Some fault) r) (sym (told_next lines text)) (by_told (sharp_judge study lines) h.1))
    where
      by_told : (told : Told SharpStanding SharpRefusal) → SharpStandsAs study (length lines) (Some fault) r told → SharpStandsAs study (length (lines ++ text ∷ [])) (Some fault) r (more (1 + length lines) told text)
      by_told (Good s) k = let wrong : Some fault ≡ None = k.0 in absurd (cc)
      by_told (Refused line word) k = k

  -- the next line after lines without a fault
  step : (n : ℕ) (fault : Option SharpFault) (r after : SharpJudging) (lines : List (List ℕ)) (text : List ℕ) → SharpStandsFor study (at n None r) lines →
      ((s : SharpStanding) (count : ℕ) → SharpStands study r s → IsReadWithin study count s → SharpStandsAs study (count + 1) fault after (sharp_judge_from study (n + 1) s (text ∷ []))) → SharpStandsFor study (at (n + 1) fault after) (lines ++ text ∷ [])
  step n fault r after lines text h go =
      let number : n + 1 ≡ 1 + length lines = omega (arith, h.0) in
      let one : length lines + 1 ≡ length (lines ++ text ∷ []) = omega (arith, length-append lines (text ∷ [])) in (
        longer n lines text h.0,
        subst (SharpStandsAs study (length (lines ++ text ∷ [])) fault after) (sym (told_next lines text))
            (subst (λ k. SharpStandsAs study k fault after (more (1 + length lines) (sharp_judge study lines) text)) one
            (subst (λ k. SharpStandsAs study (length lines + 1) fault after (more k (sharp_judge study lines) text)) number (by_told (sharp_judge study lines) h.1))),
      )
    where
      by_told : (told : Told SharpStanding SharpRefusal) → SharpStandsAs study (length lines) None r told → SharpStandsAs study (length lines + 1) fault after (more (n + 1) told text)
      by_told (Good s) k = go s (length lines) k.1 k.2
      by_told (Refused line word) k = let wrong : None ≡ Some (AtLine line word) = k in absurd (cc)

  -- ---- at what a checker holds

  pub still_ready_at : (n : ℕ) (o : Option SharpFault) (fault : SharpFault) (r : SharpJudging) (text : List ℕ) → o ≡ Some fault → IsSharpReady study (at n o r) → IsSharpReady study (at (n + 1) o r)
  still_ready_at n o fault r text e (inl w) = inl w
  still_ready_at n o fault r text e (inr (lines, h)) = inr (lines ++ text ∷ [], subst (λ x. SharpStandsFor study (at (n + 1) x r) (lines ++ text ∷ [])) (sym e) (still n fault r lines text (subst (λ x. SharpStandsFor study (at n x r) lines) e h)))

  pub still_at : (n : ℕ) (o : Option SharpFault) (fault : SharpFault) (r : SharpJudging) (lines : List (List ℕ)) (text : List ℕ) → o ≡ Some fault → SharpStandsFor study (at n o r) lines → SharpStandsFor study (at (n + 1) o r) (lines ++ text ∷ [])
  still_at n o fault r lines text e h = subst (λ x. SharpStandsFor study (at (n + 1) x r) (lines ++ text ∷ [])) (sym e) (still n fault r lines text (subst (λ x. SharpStandsFor study (at n x r) lines) e h))

  abbrev pub Goes : ℕ → Option SharpFault → SharpJudging → SharpJudging → List ℕ → Type 0
  Goes n fault r after text = (s : SharpStanding) (count : ℕ) → SharpStands study r s → IsReadWithin study count s → fault ≢ Some NoMemory → SharpStandsAs study (count + 1) fault after (sharp_judge_from study (n + 1) s (text ∷ []))

  pub step_at : (n : ℕ) (o fault : Option SharpFault) (r after : SharpJudging) (lines : List (List ℕ)) (text : List ℕ) → o ≡ None → SharpStandsFor study (at n o r) lines → Goes n fault r after text → fault ≢ Some NoMemory → SharpStandsFor study (at (n + 1) fault after) (lines ++ text ∷ [])
  step_at n o fault r after lines text e h go other = step n fault r after lines text (subst (λ x. SharpStandsFor study (at n x r) lines) e h) (λ s count k i. go s count k i other)

  pub step_ready_at : (n : ℕ) (o fault : Option SharpFault) (r after : SharpJudging) (text : List ℕ) → o ≡ None → IsSharpReady study (at n o r) → Goes n fault r after text → IsSharpReady study (at (n + 1) fault after)
  step_ready_at n o fault r after text e (inl w) go = let wrong : Some NoMemory ≡ None = sym w ∙ e in absurd (cc)
  step_ready_at n o fault r after text e (inr (lines, h)) go = elim (is_wanting fault) [
    | inl w ↦ inl w
    | inr other ↦ inr (lines ++ text ∷ [], step_at n o fault r after lines text e h go other)
  ]

  -- what the next line finds
  pub read_so_far : (n : ℕ) (o : Option SharpFault) (r : SharpJudging) → n < 4294967294 → o ≡ None → IsSharpReady study (at n o r) → IsSharpRead study r
  read_so_far n o r room e (inl w) = let wrong : Some NoMemory ≡ None = sym w ∙ e in absurd (cc)
  read_so_far n o r room e (inr (lines, h)) = by_told (sharp_judge study lines) h.1
    where
      by_told : (told : Told SharpStanding SharpRefusal) → SharpStandsAs study (length lines) o r told → IsSharpRead study r
      by_told (Good s) k = record { count = length lines; few = (let a = h.0 in omega (arith, a, room)); standing = s; stands = k.1; read = k.2 }
      by_told (Refused line word) k = let wrong : None ≡ Some (AtLine line word) = sym e ∙ k in absurd (cc)
