-- What the lines so far have given is in range, at each place.
use Rattle.std.proofs.Common.{◌≡◌, refl, ℕ, ◌+◌, ◌-◌, ◌≤◌, Bool, true, false, not, ◌&&◌, List, [], ◌∷◌, ◌++◌, length, Option, Some, None, cond, true≢false, sym, arith, ltb-true, ltb-false}
use Rattle.std.specs.Prelude.{◌==◌, nat_lt}
use Rattle.std.specs.List.{list_all}
use Rattle.std.specs.Option.{unwrap_or}
use Rattle.std.proofs.lemmas.Bool.{and_parts, ltb-false, not-true}
use Rattle.lists.proofs.TestLaws.{all_snoc}
use Rattle.meaning.specs.Cores.{is_core_from}
use Rattle.vocab.specs.declared.kinds.Sort.TheVariants.{Profile}
use Rattle.vocab.specs.declared.literals.Literal.{Literal}
use Rattle.vocab.specs.Size.{sort_count}
use Rattle.vocab.specs.Study.{Question}
use Rattle.meaning.specs.declared.stories.Lemma.{Lemma}
use Rattle.meaning.specs.declared.cores.Witness.TheVariants.{Open}
use Rattle.meaning.specs.Literals.{is_literal}
use Rattle.meaning.proofs.CoreLaws.{core_in_range}
use Rattle.verdicts.specs.declared.refusals.Refusal.TheVariants.{Core, Form}
use Rattle.verdicts.specs.Lines.{Line, Row, CoreIs, Suppose, Clash, WithOpen}
use Rattle.verdicts.specs.Places.{Place, AtSuppose, AtLemmas, AtWitnessRow, Standing, start}
use Rattle.verdicts.specs.Faults.{named_places, is_core, fault_of}
use Rattle.verdicts.specs.FirstFault.{Good}
use Rattle.verdicts.specs.Judge.{after_witness, after_lemma, after_row, advance, read_line, judge}
use Rattle.verdicts.proofs.FirstFaultLaws.{all_read}
use Rattle.verdicts.proofs.FitLaws.{Fits}
use Rattle.verdicts.proofs.JudgeLaws.{read_fits}
use Rattle.verdicts.proofs.SoundLaws.{none_unless}

-- a core has no more places than there are axioms
core_length : (end from : ℕ) (core : List ℕ) → is_core_from from end core ≡ true → length core ≤ end - from
core_length end from [] h = omega arith
core_length end from (k ∷ core) h =
    let p = and_parts (not (nat_lt k from) && nat_lt k end) (is_core_from (k + 1) end core) h in
    let q = and_parts (not (nat_lt k from)) (nat_lt k end) p.0 in
    omega (arith, ltb-false k from (not-true _ q.0), ltb-true k end q.1, core_length end (k + 1) core p.1)

module _ (study : Question) where
  -- what a lemma supposes is in range
  abbrev pub are_supposed : Lemma → Bool
  are_supposed lemma = list_all (is_literal study.size) lemma.suppose

  -- the core, and what lemmas suppose, are in range
  pub record IsInRange (s : Standing) : Type 0 where
    pub core : list_all (λ k. nat_lt k (length study.axioms)) s.core ≡ true
    pub few : length s.core ≤ length study.axioms
    pub earlier : list_all are_supposed s.earlier ≡ true
    pub suppose : list_all (is_literal study.size) s.suppose ≡ true

  -- ---- one line

  witness_in : (s : Standing) → IsInRange s → IsInRange (after_witness s)
  witness_in s h = record { core = h.core; few = h.few; earlier = h.earlier; suppose = h.suppose }

  one_of : (b : Bool) (s t : Standing) → IsInRange s → IsInRange t → IsInRange (cond b s t)
  one_of true s t h g = h
  one_of false s t h g = g

  row_in : (p : Place) (s : Standing) → IsInRange s → IsInRange (after_row study p s)
  row_in AtWitnessRow s h = one_of (length s.rows == sort_count study.size Profile) _ s (record { core = h.core; few = h.few; earlier = h.earlier; suppose = h.suppose }) h
  row_in p s h = one_of (length s.rows == sort_count study.size Profile) _ s (record { core = h.core; few = h.few; earlier = h.earlier; suppose = h.suppose }) h

  lemma_in : (s : Standing) → IsInRange s → IsInRange (after_lemma s)
  lemma_in s h = one_of (length s.earlier == s.count) _ _ (witness_in s h) (record { core = h.core; few = h.few; earlier = h.earlier; suppose = h.suppose })

  core_in : (s : Standing) (names : List (List ℕ)) → IsInRange s → fault_of study s (CoreIs names) ≡ None → IsInRange (advance study s (CoreIs names))
  core_in s names h e = by_places (named_places study.axioms names) (none_unless _ Core e)
    where
      by_places : (o : Option (List ℕ)) → is_core (length study.axioms) o ≡ true → IsInRange (record s { place = AtLemmas; core = unwrap_or o [] })
      by_places None t = absurd (true≢false (sym t))
      by_places (Some core) t = record { core = core_in_range 0 (length study.axioms) core t; few = omega (arith, core_length (length study.axioms) 0 core t); earlier = h.earlier; suppose = h.suppose }

  supposed_fits : (p : Place) (n : ℕ) (l : Literal) → Fits study p n (Suppose l) → is_literal study.size l ≡ true
  supposed_fits AtSuppose n l f = f
  supposed_fits p n l f = absurd f

  step_in : (p : Place) (n : ℕ) (s : Standing) (l : Line) → IsInRange s → Fits study p n l → fault_of study s l ≡ None → IsInRange (advance study s l)
  step_in p n s (Row q o) h f e = row_in s.place (record s { rows = s.rows ++ o ∷ [] }) (record { core = h.core; few = h.few; earlier = h.earlier; suppose = h.suppose })
  step_in p n s (CoreIs names) h f e = core_in s names h e
  step_in p n s (Suppose l) h f e = record { core = h.core; few = h.few; earlier = h.earlier; suppose = all_snoc (is_literal study.size) s.suppose l h.suppose (supposed_fits p n l f) }
  step_in p n s (Clash r) h f e =
      let lemma : Lemma = record { suppose = s.suppose; steps = s.steps; last = r } in
      lemma_in (record s { earlier = s.earlier ++ lemma ∷ []; suppose = []; steps = [] }) (record { core = h.core; few = h.few; earlier = all_snoc are_supposed s.earlier lemma h.earlier h.suppose; suppose = refl })
  step_in p n s (WithOpen name m) h f e = witness_in (record s { witnesses = s.witnesses ++ Open m ∷ [] }) (record { core = h.core; few = h.few; earlier = h.earlier; suppose = h.suppose })
  step_in p n s l h f e = record { core = h.core; few = h.few; earlier = h.earlier; suppose = h.suppose }

  -- ---- line by line

  -- after lines without a fault
  pub good_in_range : (s : Standing) (texts : List (List ℕ)) → judge study texts ≡ Good s → IsInRange s
  good_in_range s texts e =
      all_read (read_line study) (fault_of study) Form (advance study) (λ s before. IsInRange s)
      (λ s before text l h r f. step_in s.place (length s.earlier + 1) s l h (read_fits study s text l r) f)
      1 start s [] texts (record { core = refl; few = omega arith; earlier = refl; suppose = refl }) e
