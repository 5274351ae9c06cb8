-- Each line gives at most one lemma.
use Rattle.std.proofs.Common.{◌≡◌, refl, ap, ℕ, ◌+◌, ◌≤◌, Bool, true, false, List, [], ◌∷◌, ◌++◌, length, arith, cond, length-append}
use Rattle.std.specs.Prelude.{◌==◌}
use Rattle.vocab.specs.declared.kinds.Sort.TheVariants.{Profile}
use Rattle.vocab.specs.Size.{sort_count}
use Rattle.vocab.specs.Study.{Question}
use Rattle.meaning.specs.declared.cores.Witness.TheVariants.{Rule}
use Rattle.meaning.specs.declared.stories.Lemma.{Lemma}
use Rattle.verdicts.specs.declared.refusals.Refusal.TheVariants.{Form}
use Rattle.verdicts.specs.declared.verdicts.Verdict.TheVariants.{Possible}
use Rattle.verdicts.specs.Lines.{Line, Row, Clash}
use Rattle.verdicts.specs.Places.{Place, AtLemma, AtWitnessRow, AtEnd, Standing, start}
use Rattle.verdicts.specs.Faults.{fault_of}
use Rattle.verdicts.specs.FirstFault.{Good}
use Rattle.verdicts.specs.Judge.{after_witness, after_lemma, after_row, advance, read_line, judge}
use Rattle.verdicts.proofs.FirstFaultLaws.{all_read}

after_lemma_same : (s : Standing) → (after_lemma s).earlier ≡ s.earlier
after_lemma_same s = by_test (length s.earlier == s.count)
  where
    by_test : (b : Bool) → (cond b (after_witness s) (record s { place = AtLemma })).earlier ≡ s.earlier
    by_test true = refl
    by_test false = refl

module _ (study : Question) where
  table_same : (b : Bool) (s : Standing) → (cond b (record s { place = AtEnd (Possible s.rows) }) s).earlier ≡ s.earlier
  table_same true s = refl
  table_same false s = refl

  witness_same : (b : Bool) (s : Standing) → (cond b (after_witness (record s { rows = []; witnesses = s.witnesses ++ Rule s.rows ∷ [] })) s).earlier ≡ s.earlier
  witness_same true s = refl
  witness_same false s = refl

  after_row_same : (p : Place) (s : Standing) → (after_row study p s).earlier ≡ s.earlier
  after_row_same AtWitnessRow s = witness_same (length s.rows == sort_count study.size Profile) s
  after_row_same p s = table_same (length s.rows == sort_count study.size Profile) s

  same_fits : (m n : ℕ) → m ≡ n → m ≤ n + 1
  same_fits m n e = omega (arith, e)

  pub one_lemma : (s : Standing) (l : Line) → length (advance study s l).earlier ≤ length s.earlier + 1
  one_lemma s (Clash r) =
      let lemma : Lemma = record { suppose = s.suppose; steps = s.steps; last = r } in
      let same : length (advance study s (Clash r)).earlier ≡ length (s.earlier ++ lemma ∷ []) = ap length (after_lemma_same (record s { earlier = s.earlier ++ lemma ∷ []; suppose = []; steps = [] })) in
      let more : length (s.earlier ++ lemma ∷ []) ≡ length s.earlier + 1 = length-append s.earlier (lemma ∷ []) in
      omega (arith, same, more)
  one_lemma s (Row p o) = same_fits _ _ (ap length (after_row_same s.place (record s { rows = s.rows ++ o ∷ [] })))
  one_lemma s l = same_fits _ _ refl

  -- a reader whose lemmas are no more than the lines
  abbrev AreFew : Standing → List (List ℕ) → Type 0
  AreFew s lines = length s.earlier ≤ length lines

  few_next : (s : Standing) (before : List (List ℕ)) (text : List ℕ) (l : Line) → AreFew s before → AreFew (advance study s l) (before ++ text ∷ [])
  few_next s before text l h = omega (arith, h, one_lemma s l, length-append before (text ∷ []))

  pub lemmas_few : (lines : List (List ℕ)) (s : Standing) → judge study lines ≡ Good s → length s.earlier ≤ length lines
  lemmas_few lines s e =
      all_read (read_line study) (fault_of study) Form (advance study) AreFew (λ s before text l h r f. few_next s before text l h) 1 start s [] lines (omega arith) e
