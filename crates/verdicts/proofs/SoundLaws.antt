-- Lines without a fault are the lines of a verdict that is right so far.
use Rattle.meaning.specs.StoryFaults.{unless}
use Rattle.std.proofs.Common.{◌≡◌, refl, sym, ap, ◌∙◌, subst, ℕ, ◌+◌, ◌<◌, Bool, true, false, not, ◌&&◌, List, [], ◌∷◌, ◌++◌, map, length, Option, Some, None, arith, true≢false, cond, append_assoc, append-nil, length-append, eqb-true, lt-ltb}
use Rattle.std.specs.Prelude.{◌==◌, nat_lt, slice_get}
use Rattle.std.specs.List.{list_all}
use Rattle.std.specs.Str.{bytes_eq}
use Rattle.std.specs.Cmp.Lexicographic.{pointwise}
use Rattle.std.proofs.lemmas.Bool.{and_parts, and_from}
use Rattle.std.proofs.lemmas.List.{map-append}
use Rattle.std.proofs.lemmas.Slice.Eq.{bytes_eq-Decides}
use Rattle.vocab.specs.declared.kinds.Kind.{Kind}
use Rattle.vocab.specs.declared.kinds.Kind.TheVariants.{Choice, Ranking, Sets}
use Rattle.vocab.specs.declared.kinds.Sort.TheVariants.{Profile}
use Rattle.vocab.specs.declared.literals.Literal.{Literal}
use Rattle.vocab.specs.Literal.{opposite_of}
use Rattle.vocab.specs.Size.{ballot_places, sort_count, outcome_count}
use Rattle.vocab.specs.Study.{Question}
use Rattle.vocab.specs.Titled.{Titled}
use Rattle.meaning.specs.declared.stories.Reason.{Reason}
use Rattle.meaning.specs.declared.stories.StoryStep.{StoryStep}
use Rattle.meaning.specs.declared.stories.StoryFault.TheVariants.{Supposes}
use Rattle.meaning.specs.declared.stories.Lemma.{Lemma}
use Rattle.meaning.specs.Space.{below}
use Rattle.meaning.specs.Truth.{is_axiom_true}
use Rattle.meaning.specs.declared.cores.Witness.{Witness}
use Rattle.meaning.specs.declared.cores.Witness.TheVariants.{Rule, Open}
use Rattle.meaning.specs.Cores.{is_core_from}
use Rattle.meaning.specs.Stories.{is_decided, are_new, is_lemma, is_story}
use Rattle.meaning.specs.Literals.{is_literal}
use Rattle.std.specs.Option.{unwrap_or}
use Rattle.lists.proofs.TestLaws.{all_snoc}
use Rattle.lists.proofs.OptionLaws.{none_of_either, none_of_map}
use Rattle.cnf.proofs.LitLaws.{beq-equal}
use Rattle.meaning.proofs.StoryFaultLaws.{passes_reason, passes_literal}
use Rattle.meaning.proofs.CoreLaws.{core_in_range}
use Rattle.verdicts.specs.Lines.{Line, Title, KindIs, VotersAre, AlternativesAre, BallotsAre, AbsentIs, AxiomsAre, SaysPossible, SaysImpossible, SaysUndecided, RuleOf, Row, CoreIs, LemmasAre, Heading, Suppose, So, Clash, WithRule, WithOpen, End, name_at}
use Rattle.verdicts.specs.Reading.{read_axiom}
use Rattle.verdicts.specs.declared.verdicts.Verdict.{Verdict}
use Rattle.verdicts.specs.declared.verdicts.Verdict.TheVariants.{Possible, Impossible}
use Rattle.verdicts.specs.Report.{row_lines, step_line, lemma_lines, story_lines, domain_lines, head_lines, witness_lines, all_witness_lines, verdict_lines, report_lines, is_reason, is_lemma_text, has_text, is_right, is_claim}
use Rattle.verdicts.specs.Places.{Place, AtTitle, AtKind, AtVoters, AtAlternatives, AtBallots, AtAbsent, AtAxioms, AtVerdict, AtLimit, AtRule, AtRow, AtCore, AtLemmas, AtLemma, AtSuppose, AtStep, AtWitness, AtWitnessRow, AtEnd, AtNothing, Standing}
use Rattle.verdicts.specs.declared.refusals.Refusal.{Refusal}
use Rattle.verdicts.specs.Faults.{refusal_of, unless_so, same_kind, named_places, is_core, known_of, next_core, rest_of, failing, table_fault, name_fault, fault_of}
use Rattle.verdicts.specs.Judge.{witness_place, after_witness, after_lemma, advance}
use Rattle.verdicts.proofs.WordLaws.{text_named}
use Rattle.verdicts.proofs.LineLaws.{map_is, then_is}
use Rattle.verdicts.proofs.FitLaws.{Fits}
use Rattle.verdicts.proofs.PrefixLaws.{rows_snoc, story_snoc, witness_snoc, are_witnesses, witnesses_snoc, witnesses_full, are_lemmas, lemmas_snoc, story_done, new_snoc, are_steps, steps_snoc, forced_from, no_witness}
use Rattle.verdicts.specs.declared.refusals.Refusal.TheVariants as refusal
use Rattle.lists.proofs.NumberLaws.{less_of}

-- where there is no fault
pub none_unless : (b : Bool) (w : Refusal) → unless_so b w ≡ None → b ≡ true
none_unless true w e = refl
none_unless false w e = absurd (cc)

none_test : (b : Bool) (o : Option Refusal) → cond b o None ≡ None → b ≡ true → o ≡ None
none_test true o e t = e
none_test false o e t = absurd (true≢false (sym t))

kinds_same : (k j : Kind) → same_kind k j ≡ true → k ≡ j
kinds_same Choice Choice e = refl
kinds_same Ranking Ranking e = refl
kinds_same Sets Sets e = refl
kinds_same Choice Ranking e = absurd (true≢false (sym e))
kinds_same Choice Sets e = absurd (true≢false (sym e))
kinds_same Ranking Choice e = absurd (true≢false (sym e))
kinds_same Ranking Sets e = absurd (true≢false (sym e))
kinds_same Sets Choice e = absurd (true≢false (sym e))
kinds_same Sets Ranking e = absurd (true≢false (sym e))

names_same : (xs ys : List (List ℕ)) → pointwise bytes_eq xs ys ≡ true → xs ≡ ys
names_same [] [] e = refl
names_same [] (y ∷ ys) e = absurd (true≢false (sym e))
names_same (x ∷ xs) [] e = absurd (true≢false (sym e))
names_same (x ∷ xs) (y ∷ ys) e =
    let p = and_parts (bytes_eq x y) (pointwise bytes_eq xs ys) e in
    ap (λ z. z ∷ xs) ((bytes_eq-Decides x y).0 p.0) ∙ ap (λ zs. y ∷ zs) (names_same xs ys p.1)

places_names : (axioms : List Titled) (names : List (List ℕ)) (core : List ℕ) → named_places axioms names ≡ Some core → names ≡ map (name_at axioms) core
places_names axioms [] core e = let same : [] ≡ core = cc in ap (map (name_at axioms)) same
places_names axioms (name ∷ names) core e =
    let t = then_is _ (read_axiom axioms name) core e in
    let m = map_is (λ ks. t.0 ∷ ks) (named_places axioms names) core t.2 in
    ap (λ n. n ∷ names) (text_named (name_at axioms) (below (length axioms)) name t.0 t.1)
    ∙ ap (λ ns. name_at axioms t.0 ∷ ns) (places_names axioms names m.0 m.1)
    ∙ ap (map (name_at axioms)) m.2

module _ (study : Question) where
  abbrev P : ℕ
  P = sort_count study.size Profile

  abbrev K : ℕ
  K = outcome_count study.size.kind study.size.alternatives

  -- the lines from the title to the alternatives
  abbrev size_lines : ℕ → List Line
  size_lines version =
      Title version ∷ KindIs study.size.kind ∷ VotersAre study.size.voters
      ∷ AlternativesAre study.size.alternatives ∷ []

  -- an impossibility with its core, how many lemmas there will be, and those that are read
  abbrev told_lines : ℕ → Standing → List Line
  told_lines count s =
      SaysImpossible ∷ CoreIs (map (name_at study.axioms) s.core) ∷ LemmasAre count ∷ story_lines 1 s.earlier

  -- the lines that a reader has read
  abbrev opening : Standing → List Line
  opening s = head_lines study s.version ++ told_lines s.count s

  abbrev present : Standing → List Line
  present s = Heading (length s.earlier + 1) ∷ map Suppose s.suppose ++ map step_line s.steps

  abbrev or_zero : Option ℕ → ℕ
  or_zero None = 0
  or_zero (Some k) = k

  abbrev pub printed : Place → Standing → List Line
  printed AtTitle s = []
  printed AtKind s = Title s.version ∷ []
  printed AtVoters s = Title s.version ∷ KindIs study.size.kind ∷ []
  printed AtAlternatives s = Title s.version ∷ KindIs study.size.kind ∷ VotersAre study.size.voters ∷ []
  printed AtBallots s = size_lines s.version
  printed AtAbsent s = size_lines s.version ++ BallotsAre (ballot_places study.size) ∷ []
  printed AtAxioms s = size_lines s.version ++ domain_lines study s.version
  printed AtVerdict s = head_lines study s.version
  printed AtLimit s = head_lines study s.version ++ SaysUndecided ∷ []
  printed AtRule s = head_lines study s.version ++ SaysPossible ∷ []
  printed AtRow s = head_lines study s.version ++ SaysPossible ∷ RuleOf P ∷ row_lines 0 s.rows
  printed AtCore s = head_lines study s.version ++ SaysImpossible ∷ []
  printed AtLemmas s =
      head_lines study s.version ++ SaysImpossible ∷ CoreIs (map (name_at study.axioms) s.core) ∷ []
  printed AtLemma s = opening s
  printed AtSuppose s = opening s ++ present s
  printed AtStep s = opening s ++ present s
  printed AtWitness s = opening s ++ all_witness_lines study s.core s.witnesses
  printed AtWitnessRow s = (opening s ++ all_witness_lines study s.core s.witnesses) ++ WithRule (name_at study.axioms (or_zero (next_core s))) P ∷ row_lines 0 s.rows
  printed (AtEnd v) s = head_lines study s.version ++ verdict_lines study v
  printed (AtNothing v) s = report_lines study s.version v

  -- nothing is read of a table or a story
  pub record IsIdle (s : Standing) : Type 0 where
    pub rows : s.rows ≡ []
    pub earlier : s.earlier ≡ []
    pub suppose : s.suppose ≡ []
    pub steps : s.steps ≡ []
    pub witnesses : s.witnesses ≡ []

  abbrev pub HasCore : Standing → Type 0
  HasCore s = is_core_from 0 (length study.axioms) s.core ≡ true

  -- lemmas are still to come
  pub record IsTelling (s : Standing) : Type 0 where
    pub core : HasCore s
    pub rows : s.rows ≡ []
    pub witnesses : s.witnesses ≡ []
    pub lemmas : are_lemmas study s.core [] s.earlier ≡ true
    pub texts : list_all (is_lemma_text study) s.earlier ≡ true
    pub more : length s.earlier < s.count

  -- the present lemma is right so far
  pub record IsInLemma (s : Standing) : Type 0 where
    pub telling : IsTelling s
    pub literals : list_all (is_literal study.size) s.suppose ≡ true
    pub new : are_new [] s.suppose ≡ true
    pub last : (length s.earlier + 1 == s.count) ≡ true → s.suppose ≡ []
    pub texts : list_all (λ step. is_literal study.size step.literal && is_reason study step.reason) s.steps ≡ true
    pub steps : are_steps study s.core s.earlier s.suppose s.steps ≡ true

  -- the story is told
  pub record IsTold (s : Standing) : Type 0 where
    pub core : HasCore s
    pub story : is_story study.size study.axioms s.core s.earlier ≡ true
    pub all : length s.earlier ≡ s.count
    pub some : 0 < length s.earlier
    pub texts : list_all (is_lemma_text study) s.earlier ≡ true
    pub witnesses : are_witnesses study s.core s.core s.witnesses ≡ true

  abbrev pub AreRows : Standing → Type 0
  AreRows s = (list_all (λ o. nat_lt o K) s.rows ≡ true) × (0 < P → length s.rows < P)

  abbrev pub IsJudgedRight : Verdict → Type 0
  IsJudgedRight v = (is_right study v ≡ true) × (has_text study v ≡ true) × (is_claim study v ≡ true)

  -- the outcomes that are held are those of the rule, where the verdict has one
  abbrev pub HasRowsOf : Verdict → List ℕ → Type 0
  HasRowsOf (Possible table) rows = rows ≡ table
  HasRowsOf _ rows = Unit {0}

  -- what holds of the parts at a place
  abbrev pub Holds : Place → Standing → Type 0
  Holds AtBallots s = IsIdle s × ((s.version == 2) ≡ true)
  Holds AtAbsent s = IsIdle s × ((s.version == 2) ≡ true)
  Holds AtLimit s = ⊥
  Holds AtRow s = AreRows s
  Holds AtLemmas s = HasCore s × IsIdle s
  Holds AtLemma s = IsTelling s × (s.suppose ≡ []) × (s.steps ≡ [])
  Holds AtSuppose s = IsInLemma s × (s.steps ≡ [])
  Holds AtStep s = IsInLemma s
  Holds AtWitness s = IsTold s × (s.rows ≡ []) × (k : ℕ) × (next_core s ≡ Some k)
  Holds AtWitnessRow s = IsTold s × AreRows s × (k : ℕ) × (next_core s ≡ Some k)
  Holds (AtEnd v) s = IsJudgedRight v × HasRowsOf v s.rows
  Holds (AtNothing v) s = IsJudgedRight v × HasRowsOf v s.rows
  Holds _ s = IsIdle s

  -- a reader that has read these lines, all of them right
  abbrev pub HasRead : Standing → List Line → Type 0
  HasRead s lines = Holds s.place s × (printed s.place s ≡ lines)

  abbrev at : Place → Standing → Standing
  at p s = record s { place = p }

  satisfied : (table places : List ℕ) → table_fault study table places ≡ None → list_all (λ k. is_axiom_true study.size table (slice_get study.axioms k)) places ≡ true
  satisfied table [] e = refl
  satisfied table (k ∷ places) e = by_test (is_axiom_true study.size table (slice_get study.axioms k)) (slice_get study.axioms k) (satisfied table places) e
    where
      by_test : (b : Bool) (o : Option Titled) → (table_fault study table places ≡ None → list_all (λ k. is_axiom_true study.size table (slice_get study.axioms k)) places ≡ true) → cond b (table_fault study table places) (failing study table o) ≡ None → (b && list_all (λ k. is_axiom_true study.size table (slice_get study.axioms k)) places) ≡ true
      by_test true o h f = h f
      by_test false None h f = absurd (cc)
      by_test false (Some a) h f = absurd (cc)

  -- lines after a head
  assoc_head : (s : Standing) (ls more : List Line)
      → head_lines study s.version ++ (ls ++ more) ≡ (head_lines study s.version ++ ls) ++ more
  assoc_head s ls more = sym (append_assoc (head_lines study s.version) ls more)

  -- after the last row of a rule
  rule_row : 0 < P → (s : Standing) (p o : ℕ) → AreRows s → o < K → fault_of study (at AtRow s) (Row p o) ≡ None → HasRead (advance study (at AtRow s) (Row p o)) (printed AtRow s ++ Row p o ∷ [])
  rule_row some s p o h l e =
      let f = none_of_either (unless_so (p == length s.rows) refusal.Row) _ e in
      let same : p ≡ length s.rows = eqb-true p (length s.rows) (none_unless (p == length s.rows) refusal.Row f.0) in
      let longer : length (s.rows ++ o ∷ []) ≡ length s.rows + 1 = length-append s.rows (o ∷ []) in
      let inside = all_snoc (λ o. nat_lt o K) s.rows o h.0 (lt-ltb o K l) in
      let next : length s.rows ≡ p = sym same in
      let lines : printed AtRow (record s { rows = s.rows ++ o ∷ [] }) ≡ printed AtRow s ++ Row p o ∷ [] =
      ap (λ ls. head_lines study s.version ++ SaysPossible ∷ RuleOf P ∷ ls)
      (rows_snoc 0 s.rows o ∙ ap (λ q. row_lines 0 s.rows ++ Row q o ∷ []) (zero_more (length s.rows) ∙ next))
      ∙ assoc_head s (SaysPossible ∷ RuleOf P ∷ row_lines 0 s.rows) (Row p o ∷ []) in
      by_test (length s.rows + 1 == P) refl longer inside lines f.1
    where
      zero_more : (n : ℕ) → 0 + n ≡ n
      zero_more n = omega arith

      after : Standing
      after = record s { place = AtRow; rows = s.rows ++ o ∷ [] }

      end : Standing
      end = record after { place = AtEnd (Possible (s.rows ++ o ∷ [])) }

      by_test : (b : Bool) → (length s.rows + 1 == P) ≡ b
          → length (s.rows ++ o ∷ []) ≡ length s.rows + 1
          → list_all (λ o. nat_lt o K) (s.rows ++ o ∷ []) ≡ true
          → printed AtRow (record s { rows = s.rows ++ o ∷ [] }) ≡ printed AtRow s ++ Row p o ∷ []
          → cond (length s.rows + 1 == P) (table_fault study (s.rows ++ o ∷ []) (below (length study.axioms))) None ≡ None
          → HasRead (cond (length (s.rows ++ o ∷ []) == P) end after) (printed AtRow s ++ Row p o ∷ [])
      by_test true t longer inside lines f =
          let whole : (length (s.rows ++ o ∷ []) == P) ≡ true = ap (λ n. n == P) longer ∙ t in
          let none : table_fault study (s.rows ++ o ∷ []) (below (length study.axioms)) ≡ None = subst (λ b. cond b (table_fault study (s.rows ++ o ∷ []) (below (length study.axioms))) None ≡ None) t f in
          let rule = and_from _ _ whole inside in
          subst (λ b. HasRead (cond b end after) (printed AtRow s ++ Row p o ∷ [])) (sym whole) (((and_from _ _ rule (satisfied (s.rows ++ o ∷ []) (below (length study.axioms)) none), rule, refl), refl), lines)
      by_test false t longer inside lines f =
          let part : (length (s.rows ++ o ∷ []) == P) ≡ false = ap (λ n. n == P) longer ∙ t in
          let less : length (s.rows ++ o ∷ []) < P = less_of (length (s.rows ++ o ∷ [])) P (omega (arith, longer, h.1 some)) part in
          subst (λ b. HasRead (cond b end after) (printed AtRow s ++ Row p o ∷ [])) (sym part) ((inside, λ _. less), lines)

  -- where the next witness, or the end, is wanted
  to_witness : (s : Standing) → IsTold s → s.rows ≡ [] → (lines : List Line) → opening s ++ all_witness_lines study s.core s.witnesses ≡ lines → HasRead (after_witness s) lines
  to_witness s told empty lines e = by_next (next_core s) refl
    where
      by_next : (n : Option ℕ) → next_core s ≡ n → HasRead (record s { place = witness_place n (Impossible s.core s.earlier s.witnesses) }) lines
      by_next (Some k) h = ((record { core = told.core; story = told.story; all = told.all; some = told.some; texts = told.texts; witnesses = told.witnesses }, empty, k, h), e)
      by_next None h =
          let full = witnesses_full study s.core s.core s.witnesses h told.witnesses in
          let places : list_all (λ k. nat_lt k (length study.axioms)) s.core ≡ true = core_in_range 0 (length study.axioms) s.core told.core in
          let right = and_from _ _ told.story (and_from _ _ told.core full.0) in
          let text = and_from _ _ (and_from _ _ (and_from _ _ (lt-ltb 0 (length s.earlier) told.some) told.texts) places) full.1 in (
            ((right, text, refl), tt),
            ap (λ n. head_lines study s.version ++ (told_lines n s ++ all_witness_lines study s.core s.witnesses))
                told.all
                ∙ assoc_head s (told_lines s.count s) (all_witness_lines study s.core s.witnesses) ∙ e,
          )

  -- after a row of a witness
  witness_row : 0 < P → (s : Standing) (p o k : ℕ) → IsTold s → AreRows s → next_core s ≡ Some k → o < K → fault_of study (at AtWitnessRow s) (Row p o) ≡ None → HasRead (advance study (at AtWitnessRow s) (Row p o)) (printed AtWitnessRow s ++ Row p o ∷ [])
  witness_row some s p o k told h nk l e =
      let f = none_of_either (unless_so (p == length s.rows) refusal.Row) _ e in
      let same : p ≡ length s.rows = eqb-true p (length s.rows) (none_unless (p == length s.rows) refusal.Row f.0) in
      let longer : length (s.rows ++ o ∷ []) ≡ length s.rows + 1 = length-append s.rows (o ∷ []) in
      let inside = all_snoc (λ o. nat_lt o K) s.rows o h.0 (lt-ltb o K l) in
      let before = opening s ++ all_witness_lines study s.core s.witnesses in
      let named = WithRule (name_at study.axioms (or_zero (next_core s))) P in
      let lines : before ++ named ∷ row_lines 0 (s.rows ++ o ∷ []) ≡ (before ++ named ∷ row_lines 0 s.rows) ++ Row p o ∷ [] =
      ap (λ ls. before ++ named ∷ ls) (rows_snoc 0 s.rows o ∙ ap (λ q. row_lines 0 s.rows ++ Row q o ∷ []) (zero_more (length s.rows) ∙ sym same)) ∙ sym (append_assoc before (named ∷ row_lines 0 s.rows) (Row p o ∷ [])) in
      by_test (length s.rows + 1 == P) refl longer inside lines (none_test (length s.rows + 1 == P) _ f.1)
    where
      zero_more : (n : ℕ) → 0 + n ≡ n
      zero_more n = omega arith

      table : List ℕ
      table = s.rows ++ o ∷ []

      after : Standing
      after = record s { place = AtWitnessRow; rows = table }

      told_more : Standing
      told_more = record after { rows = []; witnesses = s.witnesses ++ Rule table ∷ [] }

      by_test : (b : Bool) → (length s.rows + 1 == P) ≡ b → length table ≡ length s.rows + 1 → list_all (λ o. nat_lt o K) table ≡ true → (opening s ++ all_witness_lines study s.core s.witnesses) ++ WithRule (name_at study.axioms (or_zero (next_core s))) P ∷ row_lines 0 table ≡ printed AtWitnessRow s ++ Row p o ∷ [] → ((length s.rows + 1 == P) ≡ true → table_fault study table (rest_of s.core (next_core s)) ≡ None) → HasRead (cond (length table == P) (after_witness told_more) after) (printed AtWitnessRow s ++ Row p o ∷ [])
      by_test true t longer inside lines f =
          let whole : (length table == P) ≡ true = ap (λ n. n == P) longer ∙ t in
          let rule = and_from _ _ whole inside in
          let none : table_fault study table (rest_of s.core (Some k)) ≡ None = subst (λ n. table_fault study table (rest_of s.core n) ≡ None) nk (f t) in
          let right = and_from _ _ rule (satisfied table (rest_of s.core (Some k)) none) in
          let witnesses = witnesses_snoc study s.core s.core s.witnesses k (Rule table) nk told.witnesses right rule in
          let ws : all_witness_lines study s.core (s.witnesses ++ Rule table ∷ []) ≡ all_witness_lines study s.core s.witnesses ++ witness_lines study k (Rule table) = witness_snoc study s.core s.witnesses k (Rule table) nk in
          let named : or_zero (next_core s) ≡ k = ap or_zero nk in
          let all : opening s ++ all_witness_lines study s.core (s.witnesses ++ Rule table ∷ []) ≡ printed AtWitnessRow s ++ Row p o ∷ [] =
          ap (λ ls. opening s ++ ls) ws
          ∙ sym (append_assoc (opening s) (all_witness_lines study s.core s.witnesses) (witness_lines study k (Rule table)))
          ∙ ap (λ j. (opening s ++ all_witness_lines study s.core s.witnesses) ++ WithRule (name_at study.axioms j) P ∷ row_lines 0 table) (sym named)
          ∙ lines in
          subst (λ b. HasRead (cond b (after_witness told_more) after) (printed AtWitnessRow s ++ Row p o ∷ [])) (sym whole) (to_witness told_more (record { core = told.core; story = told.story; all = told.all; some = told.some; texts = told.texts; witnesses = witnesses }) refl (printed AtWitnessRow s ++ Row p o ∷ []) all)
      by_test false t longer inside lines f =
          let part : (length table == P) ≡ false = ap (λ n. n == P) longer ∙ t in
          let less : length table < P = less_of (length table) P (omega (arith, longer, h.1 some)) part in
          subst (λ b. HasRead (cond b (after_witness told_more) after) (printed AtWitnessRow s ++ Row p o ∷ [])) (sym part) ((record { core = told.core; story = told.story; all = told.all; some = told.some; texts = told.texts; witnesses = told.witnesses }, (inside, λ _. less), k, nk), lines)

  -- the lines of the present lemma
  suppose_lines : (before : List Line) (n : ℕ) (sup : List Literal) (l : Literal) (st : List StoryStep) → st ≡ [] → before ++ (Heading n ∷ map Suppose (sup ++ l ∷ []) ++ map step_line st) ≡ (before ++ (Heading n ∷ map Suppose sup ++ map step_line st)) ++ Suppose l ∷ []
  suppose_lines before n sup l st e =
      subst (λ (xs : List StoryStep). before ++ (Heading n ∷ map Suppose (sup ++ l ∷ []) ++ map step_line xs) ≡ (before ++ (Heading n ∷ map Suppose sup ++ map step_line xs)) ++ Suppose l ∷ []) (sym e) (
      ap (λ ls. before ++ Heading n ∷ ls) (append-nil (map Suppose (sup ++ l ∷ [])) ∙ map-append Suppose sup (l ∷ []) ∙ ap (λ ls. ls ++ Suppose l ∷ []) (sym (append-nil (map Suppose sup))))
      ∙ sym (append_assoc before (Heading n ∷ map Suppose sup ++ []) (Suppose l ∷ []))
      )

  step_lines : (before : List Line) (n : ℕ) (sup : List Literal) (st : List StoryStep) (x : StoryStep) → before ++ (Heading n ∷ map Suppose sup ++ map step_line (st ++ x ∷ [])) ≡ (before ++ (Heading n ∷ map Suppose sup ++ map step_line st)) ++ step_line x ∷ []
  step_lines before n sup st x =
      ap (λ ls. before ++ (Heading n ∷ map Suppose sup ++ ls)) (map-append step_line st (x ∷ []))
      ∙ ap (λ ls. before ++ Heading n ∷ ls) (sym (append_assoc (map Suppose sup) (map step_line st) (step_line x ∷ [])))
      ∙ sym (append_assoc before (Heading n ∷ map Suppose sup ++ map step_line st) (step_line x ∷ []))

  not_last : (b : Bool) → unless (not b) Supposes ≡ None → b ≡ false
  not_last true e = absurd (cc)
  not_last false e = refl

  all_first : {A : Type 0} (a b : A → Bool) (xs : List A) → list_all (λ x. a x && b x) xs ≡ true → list_all a xs ≡ true
  all_first a b [] h = refl
  all_first a b (x ∷ xs) h = let p = and_parts (a x && b x) (list_all (λ x. a x && b x) xs) h in and_from _ _ (and_parts (a x) (b x) p.0).0 (all_first a b xs p.1)

  suppose_line : (s : Standing) (l : Literal) → IsInLemma s → s.steps ≡ [] → is_literal study.size l ≡ true → fault_of study (at AtSuppose s) (Suppose l) ≡ None → HasRead (advance study (at AtSuppose s) (Suppose l)) (printed AtSuppose s ++ Suppose l ∷ [])
  suppose_line s l h empty lit e =
      let f = none_of_either _ _ (none_of_map refusal_of _ e) in
      let other : (length s.earlier + 1 == s.count) ≡ false = not_last (length s.earlier + 1 == s.count) f.0 in
      let new : not (is_decided (known_of s) l) ≡ true = (passes_literal (known_of s) l).0 f.1 in
      let known : known_of s ≡ s.suppose = ap (λ (xs : List StoryStep). s.suppose ++ map (λ step. step.literal) xs) empty ∙ append-nil s.suppose in (
        (
          record {
            telling = telling_of h.telling;
            literals = all_snoc (is_literal study.size) s.suppose l h.literals lit;
            new = new_snoc study s.core [] s.suppose l h.new (subst (λ k. not (is_decided k l) ≡ true) known new);
            last = λ t. absurd (true≢false (sym t ∙ other));
            texts = h.texts;
            steps = subst (λ (xs : List StoryStep). are_steps study s.core s.earlier (s.suppose ++ l ∷ []) xs ≡ true) (sym empty) refl;
          },
          empty,
        ),
        suppose_lines (opening s) (length s.earlier + 1) s.suppose l s.steps empty,
      )
    where
      telling_of : IsTelling s → IsTelling (advance study (at AtSuppose s) (Suppose l))
      telling_of t = record { core = t.core; rows = t.rows; witnesses = t.witnesses; lemmas = t.lemmas; texts = t.texts; more = t.more }

  so_line : (s : Standing) (l : Literal) (r : Reason) → IsInLemma s → is_literal study.size l ≡ true → is_reason study r ≡ true → fault_of study s (So l r) ≡ None → HasRead (advance study s (So l r)) (printed AtStep s ++ So l r ∷ [])
  so_line s l r h lit reason e =
      let f = none_of_either _ _ (none_of_map refusal_of _ e) in
      let new : not (is_decided (known_of s) l) ≡ true = (passes_literal (known_of s) l).0 f.0 in
      let refuted = (passes_reason study.size study.axioms s.core s.earlier (known_of s ++ opposite_of l ∷ []) r).0 f.1 in
      let step : StoryStep = record { literal = l; reason = r } in (
        record {
          telling = telling_of h.telling;
          literals = h.literals;
          new = h.new;
          last = h.last;
          texts = all_snoc (λ step. is_literal study.size step.literal && is_reason study step.reason) s.steps step h.texts (and_from _ _ lit reason);
          steps = steps_snoc study s.core s.earlier s.suppose s.steps step h.steps new refuted;
        },
        step_lines (opening s) (length s.earlier + 1) s.suppose s.steps step,
      )
    where
      telling_of : IsTelling s → IsTelling (advance study s (So l r))
      telling_of t = record { core = t.core; rows = t.rows; witnesses = t.witnesses; lemmas = t.lemmas; texts = t.texts; more = t.more }

  no_witnesses : (core : List ℕ) → are_witnesses study core core [] ≡ true
  no_witnesses [] = refl
  no_witnesses (c ∷ core) = refl

  clash_line : (s : Standing) (r : Reason) → IsInLemma s → is_reason study r ≡ true → fault_of study s (Clash r) ≡ None → HasRead (advance study s (Clash r)) (printed AtStep s ++ Clash r ∷ [])
  clash_line s r h reason e =
      let refuted = (passes_reason study.size study.axioms s.core s.earlier (known_of s) r).0 (none_of_map refusal_of _ e) in
      let forced = forced_from study s.core s.earlier r s.suppose s.steps h.steps refuted in
      let right : is_lemma study.size study.axioms s.core s.earlier lemma ≡ true = and_from _ _ (and_from _ _ (and_from _ _ h.literals (all_first (λ step. is_literal study.size step.literal) (λ step. is_reason study step.reason) s.steps h.texts)) h.new) forced in
      let text : is_lemma_text study lemma ≡ true = and_from _ _ (and_from _ _ h.literals h.texts) reason in
      let texts = all_snoc (is_lemma_text study) s.earlier lemma h.telling.texts text in
      let longer : length (s.earlier ++ lemma ∷ []) ≡ length s.earlier + 1 = length-append s.earlier (lemma ∷ []) in
      let flip : 1 + length s.earlier ≡ length s.earlier + 1 = omega arith in
      let names = map (name_at study.axioms) s.core in
      let lines : opening next ≡ printed AtStep s ++ Clash r ∷ [] =
      ap (λ ls. head_lines study s.version ++ SaysImpossible ∷ CoreIs names ∷ LemmasAre s.count ∷ ls)
      (story_snoc 1 s.earlier lemma ∙ ap (λ n. story_lines 1 s.earlier ++ lemma_lines n lemma) flip)
      ∙ assoc_head s (told_lines s.count s) (lemma_lines (length s.earlier + 1) lemma)
      ∙ sym (append_assoc (opening s) (present s) (Clash r ∷ [])) in
      by_test (length (s.earlier ++ lemma ∷ []) == s.count) refl longer right texts lines
    where
      lemma : Lemma
      lemma = record { suppose = s.suppose; steps = s.steps; last = r }

      next : Standing
      next = record s { earlier = s.earlier ++ lemma ∷ []; suppose = []; steps = [] }

      none_left : (xs : List Literal) → xs ≡ [] → (length xs == 0) ≡ true
      none_left xs e = ap (λ (ys : List Literal). length ys == 0) e

      by_test : (b : Bool) → (length (s.earlier ++ lemma ∷ []) == s.count) ≡ b → length (s.earlier ++ lemma ∷ []) ≡ length s.earlier + 1 → is_lemma study.size study.axioms s.core s.earlier lemma ≡ true → list_all (is_lemma_text study) (s.earlier ++ lemma ∷ []) ≡ true → opening next ≡ printed AtStep s ++ Clash r ∷ [] → HasRead (after_lemma next) (printed AtStep s ++ Clash r ∷ [])
      by_test true t longer right texts lines =
          let last : (length s.earlier + 1 == s.count) ≡ true = ap (λ n. n == s.count) (sym longer) ∙ t in
          let story = story_done study s.core [] s.earlier lemma h.telling.lemmas right (none_left s.suppose (h.last last)) in
          let told : IsTold next = record {
            core = h.telling.core;
            story = story;
            all = eqb-true _ _ t;
            some = omega (arith, longer);
            texts = texts;
            witnesses = subst (λ (ms : List Witness). are_witnesses study s.core s.core ms ≡ true) (sym h.telling.witnesses) (no_witnesses s.core);
          } in
          let none : all_witness_lines study s.core s.witnesses ≡ [] = ap (all_witness_lines study s.core) h.telling.witnesses ∙ no_witness study s.core in
          subst (λ b. HasRead (cond b (after_witness next) (record next { place = AtLemma })) (printed AtStep s ++ Clash r ∷ [])) (sym t)
          (to_witness next told h.telling.rows (printed AtStep s ++ Clash r ∷ []) (ap (λ ls. opening next ++ ls) none ∙ append-nil (opening next) ∙ lines))
      by_test false t longer right texts lines =
          let less : length (s.earlier ++ lemma ∷ []) < s.count = less_of _ s.count (omega (arith, longer, h.telling.more)) t in
          let telling : IsTelling next = record { core = h.telling.core; rows = h.telling.rows; witnesses = h.telling.witnesses; lemmas = lemmas_snoc study s.core [] s.earlier lemma h.telling.lemmas right; texts = texts; more = less } in
          subst (λ b. HasRead (cond b (after_witness next) (record next { place = AtLemma })) (printed AtStep s ++ Clash r ∷ [])) (sym t) ((telling_at telling, refl, refl), lines)
        where
          telling_at : IsTelling next → IsTelling (record next { place = AtLemma })
          telling_at t = record { core = t.core; rows = t.rows; witnesses = t.witnesses; lemmas = t.lemmas; texts = t.texts; more = t.more }

  idle_at : (p : Place) (s : Standing) → IsIdle s → IsIdle (at p s)
  idle_at p s h = record { rows = h.rows; earlier = h.earlier; suppose = h.suppose; steps = h.steps; witnesses = h.witnesses }

  idle_from : (p : Place) (version : ℕ) (s : Standing) → IsIdle s
      → IsIdle (record s { place = p; version = version })
  idle_from p version s h = record {
    rows = h.rows;
    earlier = h.earlier;
    suppose = h.suppose;
    steps = h.steps;
    witnesses = h.witnesses;
  }

  telling_at : (p : Place) (s : Standing) → IsTelling s → IsTelling (at p s)
  telling_at p s t = record { core = t.core; rows = t.rows; witnesses = t.witnesses; lemmas = t.lemmas; texts = t.texts; more = t.more }

  in_lemma_at : (p : Place) (s : Standing) → IsInLemma s → IsInLemma (at p s)
  in_lemma_at p s h = record { telling = telling_at p s h.telling; literals = h.literals; new = h.new; last = h.last; texts = h.texts; steps = h.steps }

  told_at : (p : Place) (s : Standing) → IsTold s → IsTold (at p s)
  told_at p s t = record { core = t.core; story = t.story; all = t.all; some = t.some; texts = t.texts; witnesses = t.witnesses }

  core_line : (s : Standing) (names : List (List ℕ)) → IsIdle s → fault_of study (at AtCore s) (CoreIs names) ≡ None → HasRead (advance study (at AtCore s) (CoreIs names)) (printed AtCore s ++ CoreIs names ∷ [])
  core_line s names h e = by_places (named_places study.axioms names) refl (none_unless _ refusal.Core e)
    where
      by_places : (o : Option (List ℕ)) → named_places study.axioms names ≡ o → is_core (length study.axioms) o ≡ true → HasRead (record s { place = AtLemmas; core = unwrap_or o [] }) (printed AtCore s ++ CoreIs names ∷ [])
      by_places None d t = absurd (true≢false (sym t))
      by_places (Some core) d t =
          let idle : IsIdle (record s { place = AtLemmas; core = core }) =
          record { rows = h.rows; earlier = h.earlier; suppose = h.suppose; steps = h.steps; witnesses = h.witnesses } in
          let named = places_names study.axioms names core d in (
            (t, idle),
            ap (λ ns. head_lines study s.version ++ SaysImpossible ∷ CoreIs ns ∷ []) (sym named)
                ∙ assoc_head s (SaysImpossible ∷ []) (CoreIs names ∷ []),
          )

  lemmas_line : (s : Standing) (n : ℕ) → HasCore s → IsIdle s → 0 < n → HasRead (advance study (at AtLemmas s) (LemmasAre n)) (printed AtLemmas s ++ LemmasAre n ∷ [])
  lemmas_line s n c h l = (
    (
      record {
        core = c;
        rows = h.rows;
        witnesses = h.witnesses;
        lemmas = subst (λ (ls : List Lemma). are_lemmas study s.core [] ls ≡ true) (sym h.earlier) refl;
        texts = subst (λ (ls : List Lemma). list_all (is_lemma_text study) ls ≡ true) (sym h.earlier) refl;
        more = subst (λ (ls : List Lemma). length ls < n) (sym h.earlier) l;
      },
      h.suppose,
      h.steps,
    ),
    ap (λ (ls : List Lemma). head_lines study s.version ++ told_lines n (record s { earlier = ls })) h.earlier
        ∙ assoc_head s (SaysImpossible ∷ CoreIs (map (name_at study.axioms) s.core) ∷ []) (LemmasAre n ∷ []),
  )

  heading_line : (s : Standing) (n : ℕ) → IsTelling s → s.suppose ≡ [] → s.steps ≡ [] → n ≡ length s.earlier + 1 → HasRead (advance study (at AtLemma s) (Heading n)) (printed AtLemma s ++ Heading n ∷ [])
  heading_line s n t sup st e = (
    (
      record {
        telling = telling_at AtSuppose s t;
        literals = subst (λ (ls : List Literal). list_all (is_literal study.size) ls ≡ true) (sym sup) refl;
        new = subst (λ (ls : List Literal). are_new [] ls ≡ true) (sym sup) refl;
        last = λ _. sup;
        texts = subst (λ (xs : List StoryStep). list_all (λ step. is_literal study.size step.literal && is_reason study step.reason) xs ≡ true) (sym st) refl;
        steps = subst (λ (xs : List StoryStep). are_steps study s.core s.earlier s.suppose xs ≡ true) (sym st) refl;
      },
      st,
    ),
    ap (λ (ls : List Literal). opening s ++ (Heading (length s.earlier + 1) ∷ map Suppose ls ++ map step_line s.steps)) sup ∙ ap (λ (xs : List StoryStep). opening s ++ (Heading (length s.earlier + 1) ∷ [] ++ map step_line xs)) st ∙ ap (λ m. opening s ++ Heading m ∷ []) (sym e),
  )

  next_name : (o : Option ℕ) (k : ℕ) (name : List ℕ) → o ≡ Some k → name_fault study o name ≡ None → name_at study.axioms k ≡ name
  next_name o k name e f = (bytes_eq-Decides (name_at study.axioms k) name).0 (none_unless _ refusal.Core (subst (λ m. name_fault study m name ≡ None) e f))

  rule_witness_line : (s : Standing) (name : List ℕ) (n k : ℕ) → IsTold s → s.rows ≡ [] → next_core s ≡ Some k → fault_of study (at AtWitness s) (WithRule name n) ≡ None → HasRead (advance study (at AtWitness s) (WithRule name n)) (printed AtWitness s ++ WithRule name n ∷ [])
  rule_witness_line s name n k t empty nk e =
      let f = none_of_either (name_fault study (next_core s) name) _ e in
      let named = next_name (next_core s) k name nk f.0 in
      let count : n ≡ P = eqb-true n P (none_unless (n == P) refusal.Row f.1) in
      let before = opening s ++ all_witness_lines study s.core s.witnesses in (
        (told_at AtWitnessRow s t, (subst (λ (os : List ℕ). list_all (λ o. nat_lt o K) os ≡ true) (sym empty) refl, λ some. subst (λ (os : List ℕ). length os < P) (sym empty) some), k, nk),
        ap (λ (os : List ℕ). before ++ WithRule (name_at study.axioms (or_zero (next_core s))) P ∷ row_lines 0 os) empty
            ∙ ap (λ j. before ++ WithRule (name_at study.axioms j) P ∷ []) (ap or_zero nk)
            ∙ ap (λ m. before ++ WithRule m P ∷ []) named
            ∙ ap (λ m. before ++ WithRule name m ∷ []) (sym count),
      )

  open_witness_line : (s : Standing) (name : List ℕ) (n k : ℕ) → IsTold s → s.rows ≡ [] → next_core s ≡ Some k → fault_of study (at AtWitness s) (WithOpen name n) ≡ None → HasRead (advance study (at AtWitness s) (WithOpen name n)) (printed AtWitness s ++ WithOpen name n ∷ [])
  open_witness_line s name n k t empty nk e =
      let f = none_of_either (name_fault study (next_core s) name) _ e in
      let named = next_name (next_core s) k name nk f.0 in
      let limit = none_unless (n == study.conflicts) refusal.OpenMark f.1 in
      let witnesses = witnesses_snoc study s.core s.core s.witnesses k (Open n) nk t.witnesses limit refl in
      to_witness (record s { place = AtWitness; witnesses = s.witnesses ++ Open n ∷ [] }) (record { core = t.core; story = t.story; all = t.all; some = t.some; texts = t.texts; witnesses = witnesses }) empty (printed AtWitness s ++ WithOpen name n ∷ [])
      (ap (λ ls. opening s ++ ls) (witness_snoc study s.core s.witnesses k (Open n) nk)
      ∙ sym (append_assoc (opening s) (all_witness_lines study s.core s.witnesses) (witness_lines study k (Open n)))
      ∙ ap (λ m. (opening s ++ all_witness_lines study s.core s.witnesses) ++ WithOpen m n ∷ []) named)

  abbrev domain_if : Bool → List Line
  domain_if b = cond b (BallotsAre (ballot_places study.size) ∷ AbsentIs study.size.absent ∷ []) []

  -- after the alternatives the ballots are wanted, or the axioms
  alternatives_line : (s : Standing) (n : ℕ) → IsIdle s → n ≡ study.size.alternatives
      → HasRead (advance study s (AlternativesAre n)) (printed AtAlternatives s ++ AlternativesAre n ∷ [])
  alternatives_line s n h same = by_test (s.version == 2) refl
    where
      said : List Line
      said = printed AtAlternatives s ++ AlternativesAre n ∷ []

      lines : size_lines s.version ≡ said
      lines = ap (λ m. printed AtAlternatives s ++ AlternativesAre m ∷ []) (sym same)

      by_test : (b : Bool) → (s.version == 2) ≡ b
          → HasRead (record s { place = cond b AtBallots AtAxioms }) said
      by_test true t = ((idle_at AtBallots s h, t), lines)
      by_test false t = (
        idle_at AtAxioms s h,
        ap (λ b. size_lines s.version ++ domain_if b) t
            ∙ append-nil (size_lines s.version) ∙ lines,
      )

  absent_line : (s : Standing) (absent : Bool) → IsIdle s → (s.version == 2) ≡ true
      → absent ≡ study.size.absent
      → HasRead (advance study s (AbsentIs absent)) (printed AtAbsent s ++ AbsentIs absent ∷ [])
  absent_line s absent h two same = (
    idle_at AtAxioms s h,
    ap (λ b. size_lines s.version ++ domain_if b) two
        ∙ ap (λ a. printed AtAbsent s ++ AbsentIs a ∷ []) (sym same),
  )

  -- a line without a fault
  step_at : (p : Place) (s : Standing) (l : Line) → Holds p s → Fits study p (length s.earlier + 1) l → fault_of study (at p s) l ≡ None → HasRead (advance study (at p s) l) (printed p s ++ l ∷ [])
  step_at AtTitle s (Title version) h f e = (idle_from AtKind version s h, refl)
  step_at AtKind s (KindIs k) h f e = (
    idle_at AtVoters s h,
    ap (λ j. Title s.version ∷ KindIs j ∷ [])
        (sym (kinds_same k study.size.kind (none_unless _ refusal.StudyDiffers e))),
  )
  step_at AtVoters s (VotersAre n) h f e = (
    idle_at AtAlternatives s h,
    ap (λ m. Title s.version ∷ KindIs study.size.kind ∷ VotersAre m ∷ [])
        (sym (eqb-true n study.size.voters (none_unless _ refusal.StudyDiffers e))),
  )
  step_at AtAlternatives s (AlternativesAre n) h f e =
      alternatives_line s n h (eqb-true n study.size.alternatives (none_unless _ refusal.StudyDiffers e))
  step_at AtBallots s (BallotsAre places) h f e = (
    (idle_at AtAbsent s h.0, h.1),
    ap (λ ps. size_lines s.version ++ BallotsAre ps ∷ [])
        (sym ((bytes_eq-Decides places (ballot_places study.size)).0 (none_unless _ refusal.StudyDiffers e))),
  )
  step_at AtAbsent s (AbsentIs absent) h f e =
      let same = beq-equal absent study.size.absent (none_unless _ refusal.StudyDiffers e) in
      absent_line s absent h.0 h.1 same
  step_at AtAxioms s (AxiomsAre ns) h f e = (
    idle_at AtVerdict s h,
    ap (λ m. size_lines s.version ++ domain_lines study s.version ++ AxiomsAre m ∷ [])
        (sym (names_same ns _ (none_unless _ refusal.StudyDiffers e))),
  )
  step_at AtVerdict s SaysPossible h f e = (idle_at AtRule s h, refl)
  step_at AtVerdict s SaysImpossible h f e = (idle_at AtCore s h, refl)
  step_at AtVerdict s SaysUndecided h f e = absurd (cc)
  step_at AtLimit s l h f e = absurd h
  step_at AtRule s (RuleOf n) h f e =
      let count : n ≡ P = eqb-true n P (none_unless (n == P) refusal.Row e) in (
        (subst (λ (os : List ℕ). list_all (λ o. nat_lt o K) os ≡ true) (sym h.rows) refl, λ some. subst (λ (os : List ℕ). length os < P) (sym h.rows) some),
        ap (λ (os : List ℕ). head_lines study s.version ++ SaysPossible ∷ RuleOf P ∷ row_lines 0 os) h.rows
            ∙ ap (λ m. head_lines study s.version ++ SaysPossible ∷ RuleOf m ∷ []) (sym count)
            ∙ assoc_head s (SaysPossible ∷ []) (RuleOf n ∷ []),
      )
  step_at AtRow s (Row p o) h f e = rule_row (let some : 0 < P = omega (arith, f.0) in some) s p o h f.1 e
  step_at AtCore s (CoreIs ns) h f e = core_line s ns h e
  step_at AtLemmas s (LemmasAre n) h f e = lemmas_line s n h.0 h.1 f
  step_at AtLemma s (Heading n) h f e = heading_line s n h.0 h.1 h.2 f
  step_at AtSuppose s (Suppose l) h f e = suppose_line s l h.0 h.1 f e
  step_at AtSuppose s (So l r) h f e = so_line (at AtSuppose s) l r (in_lemma_at AtSuppose s h.0) f.0 f.1 e
  step_at AtSuppose s (Clash r) h f e = clash_line (at AtSuppose s) r (in_lemma_at AtSuppose s h.0) f e
  step_at AtStep s (So l r) h f e = so_line (at AtStep s) l r (in_lemma_at AtStep s h) f.0 f.1 e
  step_at AtStep s (Clash r) h f e = clash_line (at AtStep s) r (in_lemma_at AtStep s h) f e
  step_at AtWitness s (WithRule name n) h f e = rule_witness_line s name n h.2 h.0 h.1 h.3 e
  step_at AtWitness s (WithOpen name n) h f e = open_witness_line s name n h.2 h.0 h.1 h.3 e
  step_at AtWitnessRow s (Row p o) h f e = witness_row (let some : 0 < P = omega (arith, f.0) in some) s p o h.2 h.0 h.1 h.3 f.1 e
  step_at (AtEnd v) s End h f e = (h, refl)
  step_at p s l h f e = absurd f

  pub step_read_so : (s : Standing) (l : Line) (lines : List Line) → HasRead s lines → Fits study s.place (length s.earlier + 1) l → fault_of study s l ≡ None → HasRead (advance study s l) (lines ++ l ∷ [])
  step_read_so s l lines h f e = subst (λ ls. HasRead (advance study s l) (ls ++ l ∷ [])) h.1 (step_at s.place s l h.0 f e)
