-- What is read at the end of a text of which no line is faulty, or at its first faulty line.
use Rattle.std.proofs.Common.{◌≡◌, refl, sym, ap, ◌∙◌, subst, ℕ, ◌+◌, Bool, true, false, true≢false, List, [], ◌∷◌, length, Some, None, Result}
use Rattle.std.proofs.lemmas.Bool.{eqb-true}
use Rattle.std.specs.Prelude.{◌==◌, IfOk}
use Rattle.vocab.specs.Study.{Question}
use Rattle.meaning.specs.declared.cores.Witness.{Witness}
use Rattle.meaning.specs.declared.stories.Lemma.{Lemma}
use Rattle.verdicts.specs.declared.refusals.Refusal.{Refusal}
use Rattle.verdicts.specs.declared.refusals.Refusal.TheVariants.{Form}
use Rattle.verdicts.specs.declared.verdicts.Confirmed.TheVariants as claim
use Rattle.verdicts.specs.declared.verdicts.Verdict.{Verdict}
use Rattle.verdicts.specs.declared.verdicts.Verdict.TheVariants.{Possible, Impossible, Undecided}
use Rattle.verdicts.specs.Places.{Place, Standing, AtNothing}
use Rattle.verdicts.specs.FirstFault.{Told, Good, beyond}
use Rattle.verdicts.specs.Judge.{at_end, conclude}
use Rattle.report_lines.specs.Held.{held_place}
use Rattle.sharp_verdicts.specs.declared.instances.Cited.{Cited}
use Rattle.sharp_verdicts.specs.declared.refusals.SharpRefusal.{SharpRefusal}
use Rattle.sharp_verdicts.specs.declared.refusals.SharpRefusal.TheVariants.{Report}
use Rattle.sharp_verdicts.specs.Judged.{AsReport, AsSharp}
use Rattle.sharp_verdicts.specs.SharpFaults.{listed_instances}
use Rattle.sharp_verdicts.specs.SharpJudge.{pointed_of, at_sharp_end, sharp_conclude}
use Rattle.sharp_verdicts.specs.SharpPlaces.{SharpPlace, AtSharpNothing, SharpStanding}
use Rattle.sharp_report.specs.SharpStands.{held_sharp_place}
use Rattle.verdict_reading.specs.declared.collector.Collector.{Collector}
use Rattle.verdict_reading.specs.declared.reading.Reading.{Reading}
use Rattle.verdict_reading.specs.declared.reading.Reading.TheVariants as reading
use Rattle.verdict_reading.specs.declared.sharp_collector.SharpCollector.{SharpCollector}
use Rattle.verdict_reading.specs.declared.sharp_verdict.SharpVerdict.{SharpVerdict}
use Rattle.verdict_reading.specs.declared.text_collector.TextCollector.TheVariants as collector
use Rattle.verdict_reading.specs.declared.text_collector.TextRefusal.TheVariants as refusal
use Rattle.verdict_reading.specs.Collected.{EndsAt, Collects, claim_at, verdict_at}
use Rattle.verdict_reading.specs.SharpCollected.{as_read, SharpCollects, is_at_end, sharp_verdict_at}
use Rattle.verdict_reading.specs.Told.{HasCollected, IsFirstFaulty}
use Rattle.verdict_reading.specs.Readings.{reading_of, judged_end, judged_lines}
use Rattle.std.proofs.lemmas.Option.{same_Some}
use Rattle.std.proofs.lemmas.List.{nil_from_length}

-- ---- the verdict that is read

module _ (s : Standing) where
  -- a rule
  pub possible_at : (p : Place) (rows : List ℕ) → EndsAt p s → claim_at (held_place p) ≡ Some claim.Possible → rows ≡ s.rows → Some (Possible rows) ≡ verdict_at p
  possible_at (AtNothing (Possible table)) rows h e same = ap (λ (t : List ℕ). Some (Possible t)) (same ∙ sym h)
  possible_at p rows h e same = absurd (cc)

  -- an impossibility
  pub impossible_at : (p : Place) (core : List ℕ) (story : List Lemma) (witnesses : List Witness) → EndsAt p s → claim_at (held_place p) ≡ Some claim.Impossible
      → core ≡ s.core → story ≡ s.earlier → witnesses ≡ s.witnesses → Some (Impossible core story witnesses) ≡ verdict_at p
  impossible_at (AtNothing (Impossible c t w)) core story witnesses h e one two three =
      ap (λ (x : List ℕ). Some (Impossible x story witnesses)) (one ∙ sym h.0)
      ∙ ap (λ (x : List Lemma). Some (Impossible c x witnesses)) (two ∙ sym h.1)
      ∙ ap (λ (x : List Witness). Some (Impossible c t x)) (three ∙ sym h.2)
  impossible_at p core story witnesses h e one two three = absurd (cc)

  -- none
  pub none_at : (p : Place) → EndsAt p s → claim_at (held_place p) ≡ None → None ≡ verdict_at p
  none_at (AtNothing (Possible table)) h e = absurd (cc)
  none_at (AtNothing (Impossible core story witnesses)) h e = absurd (cc)
  none_at (AtNothing Undecided) h e = absurd h
  none_at p h e = refl

abbrev verdict : List ℕ → List Lemma → List Cited → List Witness → SharpVerdict
verdict core story instances marks = record { core = core; story = story; instances = instances; marks = marks }

module _ (study : Question) (s : SharpStanding) where
  -- a sharp verdict
  pub sharp_at : (core : List ℕ) (story : List Lemma) (instances : List Cited) (marks : List Witness) (v : SharpVerdict) → s.place ≡ AtSharpNothing
      → v ≡ record { core = core; story = story; instances = instances; marks = marks }
      → core ≡ s.told.core → story ≡ s.told.earlier → instances ≡ listed_instances study s → marks ≡ s.marks → Some v ≡ sharp_verdict_at study s.place s
  sharp_at core story instances marks v at e one two three four =
      ap (λ (x : SharpVerdict). Some x) e
      ∙ ap (λ (x : List ℕ). Some (verdict x story instances marks)) one
      ∙ ap (λ (x : List Lemma). Some (verdict s.told.core x instances marks)) two
      ∙ ap (λ (x : List Cited). Some (verdict s.told.core s.told.earlier x marks)) three
      ∙ ap (λ (x : List Witness). Some (verdict s.told.core s.told.earlier (listed_instances study s) x)) four
      ∙ sym (ap (λ p. sharp_verdict_at study p s) at)

  -- none
  pub no_sharp_at : is_at_end (held_sharp_place s.place) ≡ false → None ≡ sharp_verdict_at study s.place s
  no_sharp_at e = by_place s.place e
    where
      by_place : (p : SharpPlace) → is_at_end (held_sharp_place p) ≡ false → None ≡ sharp_verdict_at study p s
      by_place AtSharpNothing e = absurd (true≢false e)
      by_place p e = refl

-- all lines of a sharp text are read
pub at_nothing : (p : SharpPlace) → is_at_end (held_sharp_place p) ≡ true → p ≡ AtSharpNothing
at_nothing AtSharpNothing e = refl
at_nothing p e = absurd (true≢false (sym e))

-- ---- a text of which no line is faulty

-- what is read of a report, and of a sharp text
abbrev report_end : (whole : Bool) → ℕ → List ℕ → Standing → Reading
report_end whole n rest s = reading_of (AsReport (judged_end conclude whole n rest (Good s)))

abbrev sharp_end : Question → (whole : Bool) → ℕ → List ℕ → SharpStanding → Reading
sharp_end study whole n rest s = reading_of (AsSharp (judged_end (sharp_conclude study) whole n rest (Good s)))

-- it is cut off
pub cut_off : (whole : Bool) (n : ℕ) (rest : List ℕ) (s : Standing) → whole ≡ false → reading.TooLong ≡ report_end whole n rest s
cut_off whole n rest s e = sym (ap (λ b. report_end b n rest s) e)

pub sharp_cut_off : (study : Question) (whole : Bool) (n : ℕ) (rest : List ℕ) (s : SharpStanding) → whole ≡ false → reading.SharpTooLong ≡ sharp_end study whole n rest s
sharp_cut_off study whole n rest s e = sym (ap (λ b. sharp_end study b n rest s) e)

-- bytes follow the last line end
pub followed : (whole ended : Bool) (n : ℕ) (rest : List ℕ) (s : Standing) → whole ≡ true → ended ≡ (length rest == 0) → ended ≡ false → reading.Faulty n Form ≡ report_end whole n rest s
followed whole ended n [] s e same other = absurd (true≢false (sym same ∙ other))
followed whole ended n (x ∷ rest) s e same other = sym (ap (λ b. report_end b n (x ∷ rest) s) e)

pub sharp_followed : (study : Question) (whole ended : Bool) (n : ℕ) (rest : List ℕ) (s : SharpStanding) → whole ≡ true → ended ≡ (length rest == 0) → ended ≡ false
    → reading.SharpFaulty n (Report Form) ≡ sharp_end study whole n rest s
sharp_followed study whole ended n [] s e same other = absurd (true≢false (sym same ∙ other))
sharp_followed study whole ended n (x ∷ rest) s e same other = sym (ap (λ b. sharp_end study b n (x ∷ rest) s) e)

module _ (whole ended : Bool) (n : ℕ) (rest : List ℕ) (all : whole ≡ true) (same : ended ≡ (length rest == 0)) (last : ended ≡ true) where
  module _ (s : Standing) where
    at_last : report_end whole n rest s ≡ reading_of (AsReport (at_end n [] s.place))
    at_last =
        ap (λ b. report_end b n rest s) all
        ∙ ap (λ (xs : List ℕ). reading_of (AsReport (at_end n xs s.place))) (nil_from_length rest (eqb-true _ _ (sym same ∙ last)))

    -- all of a verdict is read
    pub confirms : (verdict : Verdict) → Some verdict ≡ verdict_at s.place → reading.Confirmed verdict ≡ report_end whole n rest s
    confirms verdict e = by_place s.place e ∙ sym at_last
      where
        by_place : (p : Place) → Some verdict ≡ verdict_at p → reading.Confirmed verdict ≡ reading_of (AsReport (at_end n [] p))
        by_place (AtNothing v) e = let is : verdict ≡ v = cc in ap reading.Confirmed is
        by_place p e = absurd (cc)

    -- the report goes on
    pub goes_on : None ≡ verdict_at s.place → reading.Faulty n Form ≡ report_end whole n rest s
    goes_on e = by_place s.place e ∙ sym at_last
      where
        by_place : (p : Place) → None ≡ verdict_at p → reading.Faulty n Form ≡ reading_of (AsReport (at_end n [] p))
        by_place (AtNothing v) e = absurd (cc)
        by_place p e = refl

  module _ (study : Question) (s : SharpStanding) where
    at_sharp_last : sharp_end study whole n rest s ≡ reading_of (AsSharp (at_sharp_end study n [] s.place s))
    at_sharp_last =
        ap (λ b. sharp_end study b n rest s) all
        ∙ ap (λ (xs : List ℕ). reading_of (AsSharp (at_sharp_end study n xs s.place s))) (nil_from_length rest (eqb-true _ _ (sym same ∙ last)))

    -- all of a sharp verdict is read
    pub sharp_confirms : (v : SharpVerdict) → Some v ≡ sharp_verdict_at study s.place s → reading.SharpConfirmed v ≡ sharp_end study whole n rest s
    sharp_confirms v e = by_place s.place e ∙ sym at_sharp_last
      where
        by_place : (p : SharpPlace) → Some v ≡ sharp_verdict_at study p s → reading.SharpConfirmed v ≡ reading_of (AsSharp (at_sharp_end study n [] p s))
        by_place AtSharpNothing e = ap reading.SharpConfirmed (same_Some v (as_read (pointed_of study s)) e)
        by_place p e = absurd (cc)

    -- the text goes on
    pub sharp_goes_on : None ≡ sharp_verdict_at study s.place s → reading.SharpFaulty n (Report Form) ≡ sharp_end study whole n rest s
    sharp_goes_on e = by_place s.place e ∙ sym at_sharp_last
      where
        by_place : (p : SharpPlace) → None ≡ sharp_verdict_at study p s → reading.SharpFaulty n (Report Form) ≡ reading_of (AsSharp (at_sharp_end study n [] p s))
        by_place AtSharpNothing e = absurd (cc)
        by_place p e = refl

-- ---- what is told of some lines

module _ (study : Question) (lines : List (List ℕ)) (rest : List ℕ) where
  -- of a report
  pub report_ends : {E : Type 0} (sharp whole ended : Bool) (c : Collector) (line : ℕ) (result : Result Reading E) → HasCollected study sharp (collector.Report c) lines
      → line ≡ length lines + 1 → ((s : Standing) → Collects study c s → IfOk result (λ r. r ≡ report_end whole line rest s))
      → IfOk result (λ r. r ≡ reading_of (judged_lines study sharp whole lines rest))
  report_ends true whole ended c line result h e go = absurd h
  report_ends false whole ended c line result h e go =
      subst (λ (t : Told Standing Refusal). IfOk result (λ r. r ≡ reading_of (AsReport (judged_end conclude whole (length lines + 1) rest t)))) (sym h.1)
      (subst (λ n. IfOk result (λ r. r ≡ report_end whole n rest h.0)) e (go h.0 h.2))

  -- of a sharp text
  pub sharp_ends : {E : Type 0} (sharp whole ended : Bool) (c : SharpCollector) (line : ℕ) (result : Result Reading E) → HasCollected study sharp (collector.Sharp c) lines
      → line ≡ length lines + 1 → ((s : SharpStanding) → SharpCollects study c s → IfOk result (λ r. r ≡ sharp_end study whole line rest s))
      → IfOk result (λ r. r ≡ reading_of (judged_lines study sharp whole lines rest))
  sharp_ends false whole ended c line result h e go = absurd h
  sharp_ends true whole ended c line result h e go =
      subst (λ (t : Told SharpStanding SharpRefusal). IfOk result (λ r. r ≡ reading_of (AsSharp (judged_end (sharp_conclude study) whole (length lines + 1) rest t)))) (sym h.1)
      (subst (λ n. IfOk result (λ r. r ≡ sharp_end study whole n rest h.0)) e (go h.0 h.2))

  -- a line is faulty
  pub report_refused : (sharp whole : Bool) (line : ℕ) (word : Refusal) → IsFirstFaulty study sharp lines line (refusal.Report word)
      → reading.Faulty line word ≡ reading_of (judged_lines study sharp whole lines rest)
  report_refused true whole line word h = absurd h
  report_refused false true line word h = sym (ap (λ (t : Told Standing Refusal). reading_of (AsReport (conclude (length lines + 1) rest t))) h)
  report_refused false false line word h = sym (ap (λ (t : Told Standing Refusal). reading_of (AsReport (beyond t))) h)

  pub sharp_text_refused : (sharp whole : Bool) (line : ℕ) (word : SharpRefusal) → IsFirstFaulty study sharp lines line (refusal.Sharp word)
      → reading.SharpFaulty line word ≡ reading_of (judged_lines study sharp whole lines rest)
  sharp_text_refused false whole line word h = absurd h
  sharp_text_refused true true line word h = sym (ap (λ (t : Told SharpStanding SharpRefusal). reading_of (AsSharp (sharp_conclude study (length lines + 1) rest t))) h)
  sharp_text_refused true false line word h = sym (ap (λ (t : Told SharpStanding SharpRefusal). reading_of (AsSharp (beyond t))) h)
