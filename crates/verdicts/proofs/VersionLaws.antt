-- Once its first line is read, a report has a version that the size may have.
use Rattle.std.proofs.Common.{◌≡◌, refl, ap, ◌∙◌, ℕ, ◌+◌, Bool, true, false, [], ◌∷◌, ◌++◌, length, None, cond}
use Rattle.std.specs.Prelude.{◌==◌}
use Rattle.vocab.specs.declared.kinds.Sort.TheVariants.{Profile}
use Rattle.vocab.specs.Size.{sort_count}
use Rattle.vocab.specs.Study.{Question}
use Rattle.meaning.specs.declared.stories.Lemma.{Lemma}
use Rattle.verdicts.specs.declared.refusals.Refusal.TheVariants.{StudyDiffers}
use Rattle.verdicts.specs.Lines.{Line, Title, Row, Clash, is_version}
use Rattle.verdicts.specs.Places.{Place, AtTitle, AtLemma, AtWitnessRow, Standing}
use Rattle.verdicts.specs.Faults.{fault_of}
use Rattle.verdicts.specs.Judge.{after_witness, after_lemma, after_row, advance}
use Rattle.verdicts.proofs.FitLaws.{Fits}
use Rattle.verdicts.proofs.SoundLaws.{none_unless}

one_version : (b : Bool) (s t : Standing) → s.version ≡ t.version → (cond b s t).version ≡ t.version
one_version true s t e = e
one_version false s t e = refl

module _ (study : Question) where
  after_row_keeps : (p : Place) (s : Standing) → (after_row study p s).version ≡ s.version
  after_row_keeps AtWitnessRow s = one_version (length s.rows == sort_count study.size Profile) _ s refl
  after_row_keeps p s = one_version (length s.rows == sort_count study.size Profile) _ s refl

  after_lemma_keeps : (s : Standing) → (after_lemma s).version ≡ s.version
  after_lemma_keeps s =
      one_version (length s.earlier == s.count) (after_witness s) (record s { place = AtLemma }) refl

  -- the title alone gives a version
  abbrev version_after : ℕ → Line → ℕ
  version_after n (Title version) = version
  version_after n l = n

  version_kept : (s : Standing) (l : Line) → (advance study s l).version ≡ version_after s.version l
  version_kept s (Row p o) = after_row_keeps s.place (record s { rows = s.rows ++ o ∷ [] })
  version_kept s (Clash r) =
      let lemma : Lemma = record { suppose = s.suppose; steps = s.steps; last = r } in
      after_lemma_keeps (record s { earlier = s.earlier ++ lemma ∷ []; suppose = []; steps = [] })
  version_kept s l = refl

  -- no line is read, or the size may have the version
  abbrev pub IsAllowed : Place → Standing → Type 0
  IsAllowed AtTitle s = Unit {0}
  IsAllowed p s = is_version study.size s.version ≡ true

  allowed_at : (p : Place) (s : Standing) → is_version study.size s.version ≡ true → IsAllowed p s
  allowed_at AtTitle s h = tt
  allowed_at p s h = h

  -- after a line without a fault
  allowed_after : (p : Place) (n : ℕ) (s : Standing) (l : Line) → IsAllowed p s → Fits study p n l
      → fault_of study s l ≡ None → is_version study.size (version_after s.version l) ≡ true
  allowed_after AtTitle n s (Title version) h f e = none_unless (is_version study.size version) StudyDiffers e
  allowed_after AtTitle n s l h f e = absurd f
  allowed_after p n s (Title version) h f e = absurd f
  allowed_after p n s l h f e = h

  pub allowed_next : (s : Standing) (l : Line) → IsAllowed s.place s
      → Fits study s.place (length s.earlier + 1) l → fault_of study s l ≡ None → IsAllowed (advance study s l).place (advance study s l)
  allowed_next s l h f e =
      allowed_at (advance study s l).place (advance study s l)
      (ap (is_version study.size) (version_kept s l) ∙ allowed_after s.place (length s.earlier + 1) s l h f e)
