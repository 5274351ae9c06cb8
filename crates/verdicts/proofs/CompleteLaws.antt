-- The judge finds no fault in the lines of a right verdict.
use Rattle.std.proofs.Common.{◌≡◌, refl, sym, ap, ◌∙◌, subst, ℕ, zero, suc, ◌+◌, ◌<◌, ◌⊎◌, inl, inr, Bool, true, false, not, ◌&&◌, List, [], ◌∷◌, ◌++◌, map, length, Some, None, option_map, option_and_then, arith, true≢false, cond, append_assoc, append-nil, length-append, eqb-true, lt-ltb, ltb-true, eq-eqb, ne_eqb}
use Rattle.std.specs.Prelude.{◌==◌, nat_lt, slice_get}
use Rattle.std.specs.List.{list_all}
use Rattle.std.specs.Str.{bytes_eq}
use Rattle.std.specs.Cmp.Lexicographic.{pointwise}
use Rattle.std.proofs.lemmas.Bool.{and_parts, and_from, or_cases}
use Rattle.std.proofs.lemmas.List.{map-append}
use Rattle.std.proofs.lemmas.Slice.Eq.{bytes_eq-Decides}
use Rattle.vocab.specs.declared.kinds.Kind.{Kind}
use Rattle.vocab.specs.declared.kinds.Kind.TheVariants.{Choice, Ranking, Sets}
use Rattle.vocab.specs.declared.kinds.Sort.TheVariants.{Profile}
use Rattle.vocab.specs.declared.literals.Literal.{Literal}
use Rattle.vocab.specs.Literal.{opposite_of}
use Rattle.vocab.specs.Name.{is_name}
use Rattle.vocab.specs.Size.{Extent, ballot_places, factorial, is_digit_set, is_full, sort_count, outcome_count}
use Rattle.vocab.specs.Study.{Question}
use Rattle.vocab.specs.Titled.{Titled}
use Rattle.meaning.specs.declared.stories.Reason.{Reason}
use Rattle.meaning.specs.declared.stories.StoryStep.{StoryStep}
use Rattle.meaning.specs.declared.stories.StoryFault.TheVariants.{Supposes}
use Rattle.meaning.specs.declared.stories.Lemma.{Lemma}
use Rattle.meaning.specs.Space.{below}
use Rattle.meaning.specs.Truth.{is_axiom_true}
use Rattle.meaning.specs.declared.cores.Witness.{Witness}
use Rattle.meaning.specs.declared.cores.Witness.TheVariants.{Rule, Open}
use Rattle.meaning.specs.Cores.{is_core_from, is_witness}
use Rattle.meaning.specs.Stories.{is_decided, refutes, are_new, are_forced, is_lemma, is_story_from, is_story}
use Rattle.meaning.specs.Literals.{is_literal}
use Rattle.std.specs.Option.{option_or, unwrap_or}
use Rattle.lists.proofs.TestLaws.{all_kept}
use Rattle.cnf.proofs.LitLaws.{beq-refl}
use Rattle.meaning.specs.StoryFaults.{unless, literal_fault, reason_fault}
use Rattle.meaning.proofs.SpaceLaws.{all_from, some_profile as size_has_profile}
use Rattle.meaning.proofs.StoryFaultLaws.{passes_reason, passes_literal}
use Rattle.verdicts.specs.Lines.{Line, Title, KindIs, VotersAre, AlternativesAre, BallotsAre, AbsentIs, AxiomsAre, SaysImpossible, Row, CoreIs, LemmasAre, Suppose, So, Clash, End, name_at, is_version}
use Rattle.verdicts.specs.Reading.{read_axiom}
use Rattle.verdicts.specs.declared.verdicts.Verdict.{Verdict}
use Rattle.verdicts.specs.declared.verdicts.Verdict.TheVariants.{Possible, Impossible, Undecided}
use Rattle.verdicts.specs.Report.{row_lines, step_line, lemma_lines, story_lines, domain_lines, head_lines, witness_lines, all_witness_lines, verdict_lines, report_lines, is_reason, is_lemma_text, is_witness_text, has_text, is_right, is_claim}
use Rattle.verdicts.specs.Places.{Place, AtBallots, AtAxioms, AtVerdict, AtRow, AtLemmas, AtLemma, AtSuppose, AtStep, AtWitness, AtWitnessRow, AtEnd, AtNothing, Standing, start}
use Rattle.verdicts.specs.declared.refusals.Refusal.{Refusal}
use Rattle.verdicts.specs.Faults.{refusal_of, unless_so, same_kind, named_places, is_core, next_after, rest_of, failing, table_fault, name_fault, fault_of}
use Rattle.verdicts.specs.Judge.{witness_place, after_witness, after_lemma, advance}
use Rattle.verdicts.proofs.WordLaws.{named_below}
use Rattle.verdicts.proofs.TextLaws.{names_own}
use Rattle.verdicts.specs.Laws.{IsReportable}
use Rattle.verdicts.proofs.LineLaws.{versions}
use Rattle.verdicts.proofs.FitLaws.{Fits, are_places}
use Rattle.verdicts.proofs.ReadLaws.{is_plain}
use Rattle.verdicts.specs.declared.refusals.Refusal.TheVariants as refusal
use Rattle.lists.proofs.Members.{IsIn}

pub so_none : (b : Bool) (w : Refusal) → b ≡ true → unless_so b w ≡ None
so_none b w e = ap (λ c. unless_so c w) e

same_self : (k : Kind) → same_kind k k ≡ true
same_self Choice = refl
same_self Ranking = refl
same_self Sets = refl

names_self : (ns : List (List ℕ)) → pointwise bytes_eq ns ns ≡ true
names_self [] = refl
names_self (n ∷ ns) = and_from _ _ ((bytes_eq-Decides n n).1 refl) (names_self ns)

plain_names : (axioms : List Titled) → list_all (λ a. is_name a.name) axioms ≡ true → list_all is_name (map (λ a. a.name) axioms) ≡ true
plain_names [] h = refl
plain_names (a ∷ axioms) h = let p = and_parts (is_name a.name) (list_all (λ a. is_name a.name) axioms) h in and_from _ _ p.0 (plain_names axioms p.1)

-- ---- versions

-- a size may have the versions that there are alone
pub allowed_known : (size : Extent) (version : ℕ) → is_version size version ≡ true → IsIn versions version
allowed_known size version h = elim (or_cases (version == 2) (version == 1 && is_full size) h) [
  | inl two ↦ inr (inl (sym (eqb-true version 2 two)))
  | inr one ↦ inl (sym (eqb-true version 1 (and_parts (version == 1) (is_full size) one).0))
]

-- the places of the ballots are among those of the rankings
ballots_are_places : (size : Extent) → are_places size.alternatives (ballot_places size) ≡ true
ballots_are_places size =
    let n = factorial size.alternatives in
    all_kept (λ place. nat_lt place n) (is_digit_set size.ballots) (below n)
    (all_from (λ place. nat_lt place n) n 0 (λ place low high. lt-ltb place n (omega (arith, high))))

-- the lines of an impossibility up to the last lemma
abbrev pub told_lines : Question → List ℕ → List Lemma → List Line
told_lines study core story =
    SaysImpossible ∷ CoreIs (map (name_at study.axioms) core) ∷ LemmasAre (length story) ∷ story_lines 1 story

-- strict: that there is no fault is asked too
module _ (study : Question) (is : IsReportable study) (strict : Bool) where
  abbrev P : ℕ
  P = sort_count study.size Profile

  abbrev K : ℕ
  K = outcome_count study.size.kind study.size.alternatives

  some_profile : 0 < P
  some_profile = size_has_profile study.size is.size

  abbrev pub Asked : Type 0 → Type 0
  Asked Q = strict ≡ true → Q

  -- lines (without a fault) lead from one standing to another
  abbrev pub Runs : Standing → List Line → Standing → Type 0
  Runs s [] t = s ≡ t
  Runs s (l ∷ ls) t = Fits study s.place (length s.earlier + 1) l × (is_plain l ≡ true) × Asked (fault_of study s l ≡ None) × Runs (advance study s l) ls t

  pub runs_append : (s t u : Standing) (a b : List Line) → Runs s a t → Runs t b u → Runs s (a ++ b) u
  runs_append s t u [] b r q = subst (λ (x : Standing). Runs x b u) (sym r) q
  runs_append s t u (l ∷ a) b r q = (r.0, r.1, r.2, runs_append (advance study s l) t u a b r.3 q)

  pub runs_to : (s t u : Standing) (a : List Line) → t ≡ u → Runs s a t → Runs s a u
  runs_to s t u a e r = subst (λ (x : Standing). Runs s a x) e r

  pub runs_from : (s t u : Standing) (a : List Line) → s ≡ t → Runs t a u → Runs s a u
  runs_from s t u a e r = subst (λ (x : Standing). Runs x a u) (sym e) r

  pub runs_over : (s t : Standing) (a b : List Line) → a ≡ b → Runs s a t → Runs s b t
  runs_over s t a b e r = subst (λ (ls : List Line). Runs s ls t) e r

  none_if : (table places : List ℕ) → list_all (λ k. is_axiom_true study.size table (slice_get study.axioms k)) places ≡ true → table_fault study table places ≡ None
  none_if table [] h = refl
  none_if table (k ∷ places) h =
      let p = and_parts (is_axiom_true study.size table (slice_get study.axioms k)) _ h in
      ap (λ b. cond b (table_fault study table places) (failing study table (slice_get study.axioms k))) p.0 ∙ none_if table places p.1

  module _ (mk fin : List ℕ → Standing) (asked : List ℕ)
      (fits : (rows : List ℕ) (p o : ℕ) → p < P → o < K → Fits study (mk rows).place (length (mk rows).earlier + 1) (Row p o))
      (faults : (rows : List ℕ) (p o : ℕ) → fault_of study (mk rows) (Row p o) ≡ option_or (unless_so (p == length rows) refusal.Row) (cond (length rows + 1 == P) (table_fault study (rows ++ o ∷ []) asked) None))
      (moves : (rows : List ℕ) (p o : ℕ) → advance study (mk rows) (Row p o) ≡ cond (length (rows ++ o ∷ []) == P) (fin (rows ++ o ∷ [])) (mk (rows ++ o ∷ []))) where
    rows_run : (done : List ℕ) (o : ℕ) (rest : List ℕ) → length (done ++ o ∷ rest) ≡ P → list_all (λ o. nat_lt o K) (o ∷ rest) ≡ true → Asked (table_fault study (done ++ o ∷ rest) asked ≡ None) → Runs (mk done) (row_lines (length done) (o ∷ rest)) (fin (done ++ o ∷ rest))
    rows_run done o [] n h e =
        let l : length (done ++ o ∷ []) ≡ length done + 1 = length-append done (o ∷ []) in
        let p = and_parts (nat_lt o K) true h in (
          fits done (length done) o (omega (arith, n, l)) (ltb-true o K p.0),
          refl,
          λ t. faults done (length done) o
              ∙ ap (λ b. option_or (unless_so b refusal.Row) (cond (length done + 1 == P) (table_fault study (done ++ o ∷ []) asked) None)) (eq-eqb (length done) (length done) refl)
              ∙ ap (λ b. cond b (table_fault study (done ++ o ∷ []) asked) None) (eq-eqb (length done + 1) P (sym l ∙ n)) ∙ e t,
          moves done (length done) o ∙ ap (λ b. cond b (fin (done ++ o ∷ [])) (mk (done ++ o ∷ []))) (eq-eqb (length (done ++ o ∷ [])) P n),
        )
    rows_run done o (u ∷ rest) n h e =
        let l : length (done ++ o ∷ []) ≡ length done + 1 = length-append done (o ∷ []) in
        let m : length (done ++ o ∷ u ∷ rest) ≡ length done + length (o ∷ u ∷ rest) = length-append done (o ∷ u ∷ rest) in
        let p = and_parts (nat_lt o K) (list_all (λ o. nat_lt o K) (u ∷ rest)) h in
        let same : (done ++ o ∷ []) ++ u ∷ rest ≡ done ++ o ∷ u ∷ rest = append_assoc done (o ∷ []) (u ∷ rest) in
        let later = rows_run (done ++ o ∷ []) u rest (ap length same ∙ n) p.1 (λ t. ap (λ x. table_fault study x asked) same ∙ e t) in
        let moved : advance study (mk done) (Row (length done) o) ≡ mk (done ++ o ∷ []) =
        moves done (length done) o ∙ ap (λ b. cond b (fin (done ++ o ∷ [])) (mk (done ++ o ∷ []))) (ne_eqb (length (done ++ o ∷ [])) P (λ s. omega (arith, s, l, m, n))) in (
          fits done (length done) o (omega (arith, n, m)) (ltb-true o K p.0),
          refl,
          λ t. faults done (length done) o
              ∙ ap (λ b. option_or (unless_so b refusal.Row) (cond (length done + 1 == P) (table_fault study (done ++ o ∷ []) asked) None)) (eq-eqb (length done) (length done) refl)
              ∙ ap (λ b. cond b (table_fault study (done ++ o ∷ []) asked) None) (ne_eqb (length done + 1) P (λ s. omega (arith, s, m, n))),
          runs_from (advance study (mk done) (Row (length done) o)) (mk (done ++ o ∷ [])) (fin (done ++ o ∷ u ∷ rest)) (row_lines (length done + 1) (u ∷ rest)) moved
              (runs_over (mk (done ++ o ∷ [])) (fin (done ++ o ∷ u ∷ rest)) (row_lines (length (done ++ o ∷ [])) (u ∷ rest)) (row_lines (length done + 1) (u ∷ rest)) (ap (λ k. row_lines k (u ∷ rest)) l) (runs_to (mk (done ++ o ∷ [])) (fin ((done ++ o ∷ []) ++ u ∷ rest)) (fin (done ++ o ∷ u ∷ rest)) (row_lines (length (done ++ o ∷ [])) (u ∷ rest)) (ap fin same) later)),
        )

    -- all rows of a table
    table_run : (table : List ℕ) → length table ≡ P → list_all (λ o. nat_lt o K) table ≡ true → Asked (table_fault study table asked ≡ None) → Runs (mk []) (row_lines 0 table) (fin table)
    table_run [] n h e = absurd (omega (arith, n, some_profile))
    table_run (o ∷ rest) n h e = rows_run [] o rest n h e

  abbrev lits : List StoryStep → List Literal
  lits steps = map (λ step. step.literal) steps

  -- the places of the names of axioms
  places_are : (core : List ℕ) → list_all (λ k. nat_lt k (length study.axioms)) core ≡ true → named_places study.axioms (map (name_at study.axioms) core) ≡ Some core
  places_are [] h = refl
  places_are (k ∷ core) h =
      let p = and_parts (nat_lt k (length study.axioms)) (list_all (λ k. nat_lt k (length study.axioms)) core) h in
      let l = ltb-true k (length study.axioms) p.0 in
      let a : read_axiom study.axioms (name_at study.axioms k) ≡ Some k = named_below (name_at study.axioms) (length study.axioms) k (λ j i e. names_own study.axioms is.taken.own_names j k i l e) l in
      ap (option_and_then (λ k. option_map (λ core. k ∷ core) (named_places study.axioms (map (name_at study.axioms) core)))) a
      ∙ ap (option_map (λ core. k ∷ core)) (places_are core p.1)

  name_plain : (axioms : List Titled) (k : ℕ) → list_all (λ a. is_name a.name) axioms ≡ true → k < length axioms → is_name (name_at axioms k) ≡ true
  name_plain [] k h l = absurd (omega (arith, l))
  name_plain (a ∷ axioms) zero h l = (and_parts (is_name a.name) (list_all (λ a. is_name a.name) axioms) h).0
  name_plain (a ∷ axioms) (suc k) h l = name_plain axioms k (and_parts (is_name a.name) (list_all (λ a. is_name a.name) axioms) h).1 (omega (arith, l))

  names_plain : (core : List ℕ) → list_all (λ k. nat_lt k (length study.axioms)) core ≡ true → list_all is_name (map (name_at study.axioms) core) ≡ true
  names_plain [] h = refl
  names_plain (k ∷ core) h =
      let p = and_parts (nat_lt k (length study.axioms)) (list_all (λ k. nat_lt k (length study.axioms)) core) h in
      and_from _ _ (name_plain study.axioms k is.names (ltb-true k (length study.axioms) p.0)) (names_plain core p.1)

  -- the axioms of the core without a witness
  abbrev remaining : List ℕ → List Witness → List ℕ
  remaining core [] = core
  remaining [] (m ∷ witnesses) = []
  remaining (k ∷ core) (m ∷ witnesses) = remaining core witnesses

  remaining_next : (core : List ℕ) (witnesses : List Witness) (k : ℕ) (ks : List ℕ) → remaining core witnesses ≡ k ∷ ks → next_after core witnesses ≡ Some k
  remaining_next [] [] k ks e = absurd (cc)
  remaining_next (c ∷ core) [] k ks e = let same : c ≡ k = cc in ap Some same
  remaining_next [] (m ∷ witnesses) k ks e = absurd (cc)
  remaining_next (c ∷ core) (m ∷ witnesses) k ks e = remaining_next core witnesses k ks e

  remaining_snoc : (core : List ℕ) (witnesses : List Witness) (m : Witness) (k : ℕ) (ks : List ℕ) → remaining core witnesses ≡ k ∷ ks → remaining core (witnesses ++ m ∷ []) ≡ ks
  remaining_snoc [] [] m k ks e = absurd (cc)
  remaining_snoc (c ∷ []) [] m k ks e = cc
  remaining_snoc (c ∷ d ∷ core) [] m k ks e = cc
  remaining_snoc [] (n ∷ witnesses) m k ks e = absurd (cc)
  remaining_snoc (c ∷ core) (n ∷ witnesses) m k ks e = remaining_snoc core witnesses m k ks e

  next_full : (f : ℕ → Witness → Bool) (core : List ℕ) (witnesses : List Witness) → pointwise f core witnesses ≡ true → next_after core witnesses ≡ None
  next_full f [] [] h = refl
  next_full f [] (m ∷ witnesses) h = refl
  next_full f (k ∷ core) [] h = absurd (true≢false (sym h))
  next_full f (k ∷ core) (m ∷ witnesses) h = next_full f core witnesses (and_parts (f k m) (pointwise f core witnesses) h).1

  module _ (version : ℕ) where
    -- nothing is read but the version
    abbrev pub begun : Standing
    begun = record start { version = version }

    abbrev after_size : Standing
    after_size = record begun { place = cond (version == 2) AtBallots AtAxioms }

    abbrev at_axioms : Standing
    at_axioms = record begun { place = AtAxioms }

    abbrev pub at_verdict : Standing
    at_verdict = record begun { place = AtVerdict }

    abbrev size_lines : List Line
    size_lines =
        Title version ∷ KindIs study.size.kind ∷ VotersAre study.size.voters
        ∷ AlternativesAre study.size.alternatives ∷ []

    -- there is a report of the version, which the size may have
    abbrev pub IsKnown : Type 0
    IsKnown = IsIn versions version × Asked (is_version study.size version ≡ true)

    size_run : IsKnown → Runs start size_lines after_size
    size_run known = (
      known.0,
      refl,
      (λ t. so_none _ refusal.StudyDiffers (known.1 t)),
      (
        tt,
        refl,
        (λ _. so_none _ refusal.StudyDiffers (same_self study.size.kind)),
        (
          tt,
          refl,
          (λ _. so_none _ refusal.StudyDiffers (eq-eqb study.size.voters _ refl)),
          (
            tt,
            refl,
            (λ _. so_none _ refusal.StudyDiffers (eq-eqb study.size.alternatives _ refl)),
            refl,
          ),
        ),
      ),
    )

    domain_run : Runs after_size (domain_lines study version) at_axioms
    domain_run = by_test (version == 2)
      where
        by_test : (b : Bool)
            → Runs (record begun { place = cond b AtBallots AtAxioms })
            (cond b (BallotsAre (ballot_places study.size) ∷ AbsentIs study.size.absent ∷ []) []) at_axioms
        by_test false = refl
        by_test true =
            let some : 0 < length (ballot_places study.size) = omega (arith, is.size.some_ballot) in
            let same = (bytes_eq-Decides (ballot_places study.size) (ballot_places study.size)).1 refl in (
              (some, ballots_are_places study.size),
              refl,
              (λ _. so_none _ refusal.StudyDiffers same),
              (
                tt,
                refl,
                (λ _. so_none _ refusal.StudyDiffers (beq-refl study.size.absent)),
                refl,
              ),
            )

    axioms_run : Runs at_axioms (AxiomsAre (map (λ a. a.name) study.axioms) ∷ []) at_verdict
    axioms_run = (
      tt,
      plain_names study.axioms is.names,
      (λ _. so_none _ refusal.StudyDiffers (names_self (map (λ a. a.name) study.axioms))),
      refl,
    )

    pub head_run : IsKnown → Runs start (head_lines study version) at_verdict
    head_run known =
        let domain = domain_lines study version in
        let axioms = AxiomsAre (map (λ a. a.name) study.axioms) ∷ [] in
        let said = runs_append start after_size at_axioms size_lines domain (size_run known) domain_run in
        runs_append start at_axioms at_verdict (size_lines ++ domain) axioms said axioms_run

    abbrev in_rows : List ℕ → Standing
    in_rows rows = record begun { place = AtRow; rows = rows }

    abbrev ended_at : Verdict → List ℕ → Standing
    ended_at v rows = record begun { place = AtEnd v; rows = rows }

    possible_run : (table : List ℕ) → has_text study (Possible table) ≡ true → Asked (is_right study (Possible table) ≡ true) → Runs at_verdict (verdict_lines study (Possible table)) (ended_at (Possible table) table)
    possible_run table t h =
        let q = and_parts (length table == P) (list_all (λ o. nat_lt o K) table) t in (
          tt,
          refl,
          (λ _. refl),
          (
            tt,
            refl,
            (λ _. so_none _ refusal.Row (eq-eqb P P refl)),
            table_run in_rows (λ t. ended_at (Possible t) t) (below (length study.axioms)) (λ rows p o h k. (h, k)) (λ rows p o. refl) (λ rows p o. refl) table (eqb-true (length table) P q.0) q.1
                (λ a. none_if table (below (length study.axioms)) (and_parts (length table == P && list_all (λ o. nat_lt o K) table) _ (h a)).1),
          ),
        )

    module _ (core : List ℕ) (count : ℕ) where
      -- between two lemmas
      abbrev between : List Lemma → Standing
      between earlier = record begun { place = AtLemma; core = core; count = count; earlier = earlier }

      abbrev supposing : List Lemma → List Literal → Standing
      supposing earlier sup = record begun { place = AtSuppose; core = core; count = count; earlier = earlier; suppose = sup }

      abbrev step_place : Bool → Place
      step_place true = AtSuppose
      step_place false = AtStep

      abbrev stepping : Bool → List Lemma → List Literal → List StoryStep → Standing
      stepping b earlier sup st = record begun { place = step_place b; core = core; count = count; earlier = earlier; suppose = sup; steps = st }

      fits_so : (b : Bool) (n : ℕ) (l : Literal) (r : Reason) → is_literal study.size l ≡ true → is_reason study r ≡ true → Fits study (step_place b) n (So l r)
      fits_so true n l r h k = (h, k)
      fits_so false n l r h k = (h, k)

      fits_clash : (b : Bool) (n : ℕ) (r : Reason) → is_reason study r ≡ true → Fits study (step_place b) n (Clash r)
      fits_clash true n r k = k
      fits_clash false n r k = k

      abbrev MaySuppose : List Lemma → List Literal → Type 0
      MaySuppose earlier ls = ((length earlier + 1 == count) ≡ false) ⊎ (ls ≡ [])

      not_last : (earlier : List Lemma) (l : Literal) (ls : List Literal) → MaySuppose earlier (l ∷ ls) → (length earlier + 1 == count) ≡ false
      not_last earlier l ls (inl o) = o
      not_last earlier l ls (inr e) = absurd (cc)

      suppose_run : (earlier : List Lemma) (sup rest : List Literal) → Asked (MaySuppose earlier rest) → list_all (is_literal study.size) rest ≡ true → Asked (are_new sup rest ≡ true) → Runs (supposing earlier sup) (map Suppose rest) (supposing earlier (sup ++ rest))
      suppose_run earlier sup [] o h n = ap (supposing earlier) (sym (append-nil sup))
      suppose_run earlier sup (l ∷ ls) o h n =
          let p = and_parts (is_literal study.size l) (list_all (is_literal study.size) ls) h in (
            p.0,
            refl,
            λ t. ap (λ b. option_map refusal_of (option_or (unless (not b) Supposes) (literal_fault (sup ++ []) l))) (not_last earlier l ls (o t))
                ∙ ap (option_map refusal_of) (ap (λ k. literal_fault k l) (append-nil sup) ∙ (passes_literal sup l).1 (and_parts (not (is_decided sup l)) (are_new (sup ++ l ∷ []) ls) (n t)).0),
            runs_to (supposing earlier (sup ++ l ∷ [])) (supposing earlier ((sup ++ l ∷ []) ++ ls)) (supposing earlier (sup ++ l ∷ ls)) (map Suppose ls) (ap (supposing earlier) (append_assoc sup (l ∷ []) ls))
                (suppose_run earlier (sup ++ l ∷ []) ls (λ t. inl (not_last earlier l ls (o t))) p.1 (λ t. (and_parts (not (is_decided sup l)) (are_new (sup ++ l ∷ []) ls) (n t)).1)),
          )

      abbrev lemma_of : List Literal → List StoryStep → Reason → Lemma
      lemma_of sup st last = record { suppose = sup; steps = st; last = last }

      abbrev after : List Lemma → Standing
      after earlier = after_lemma (between earlier)

      steps_run : (b : Bool) (earlier : List Lemma) (sup : List Literal) (st rest : List StoryStep) (last : Reason) → list_all (λ step. is_literal study.size step.literal && is_reason study step.reason) rest ≡ true → is_reason study last ≡ true → Asked (are_forced study.size study.axioms core earlier last (sup ++ lits st) rest ≡ true) → Runs (stepping b earlier sup st) (map step_line rest ++ Clash last ∷ []) (after (earlier ++ lemma_of sup (st ++ rest) last ∷ []))
      steps_run b earlier sup st [] last h k f = (
        fits_clash b _ last k,
        refl,
        λ t. ap (option_map refusal_of) ((passes_reason study.size study.axioms core earlier (sup ++ lits st) last).1 (f t)),
        ap (λ (xs : List StoryStep). after (earlier ++ lemma_of sup xs last ∷ [])) (sym (append-nil st)),
      )
      steps_run b earlier sup st (x ∷ xs) last h k f =
          let p = and_parts (is_literal study.size x.literal && is_reason study x.reason) (list_all (λ step. is_literal study.size step.literal && is_reason study step.reason) xs) h in
          let q = and_parts (is_literal study.size x.literal) (is_reason study x.reason) p.0 in
          let r : Asked (((not (is_decided (sup ++ lits st) x.literal) && refutes study.size study.axioms core earlier ((sup ++ lits st) ++ opposite_of x.literal ∷ []) x.reason) ≡ true) × (are_forced study.size study.axioms core earlier last ((sup ++ lits st) ++ x.literal ∷ []) xs ≡ true)) = λ t. and_parts (not (is_decided (sup ++ lits st) x.literal) && refutes study.size study.axioms core earlier ((sup ++ lits st) ++ opposite_of x.literal ∷ []) x.reason) (are_forced study.size study.axioms core earlier last ((sup ++ lits st) ++ x.literal ∷ []) xs) (f t) in
          let s : Asked ((not (is_decided (sup ++ lits st) x.literal) ≡ true) × (refutes study.size study.axioms core earlier ((sup ++ lits st) ++ opposite_of x.literal ∷ []) x.reason ≡ true)) = λ t. and_parts (not (is_decided (sup ++ lits st) x.literal)) _ (r t).0 in
          let known : (sup ++ lits st) ++ x.literal ∷ [] ≡ sup ++ lits (st ++ x ∷ []) = append_assoc sup (lits st) (x.literal ∷ []) ∙ ap (λ ls. sup ++ ls) (sym (map-append (λ step. step.literal) st (x ∷ []))) in (
            fits_so b _ x.literal x.reason q.0 q.1,
            refl,
            λ t. ap (option_map refusal_of) (
                ap (λ o. option_or o (reason_fault study.size study.axioms core earlier ((sup ++ lits st) ++ opposite_of x.literal ∷ []) x.reason)) ((passes_literal (sup ++ lits st) x.literal).1 (s t).0)
                ∙ (passes_reason study.size study.axioms core earlier ((sup ++ lits st) ++ opposite_of x.literal ∷ []) x.reason).1 (s t).1
                ),
            runs_to (stepping false earlier sup (st ++ x ∷ [])) (after (earlier ++ lemma_of sup ((st ++ x ∷ []) ++ xs) last ∷ [])) (after (earlier ++ lemma_of sup (st ++ x ∷ xs) last ∷ [])) (map step_line xs ++ Clash last ∷ []) (ap (λ (ys : List StoryStep). after (earlier ++ lemma_of sup ys last ∷ [])) (append_assoc st (x ∷ []) xs))
                (steps_run false earlier sup (st ++ x ∷ []) xs last p.1 k (λ t. subst (λ ks. are_forced study.size study.axioms core earlier last ks xs ≡ true) known (r t).1)),
          )

      -- one lemma, which supposes nothing if it is the last
      lemma_run : (earlier : List Lemma) (lemma : Lemma) → Asked (MaySuppose earlier lemma.suppose) → Asked (is_lemma study.size study.axioms core earlier lemma ≡ true) → is_lemma_text study lemma ≡ true → Runs (between earlier) (lemma_lines (length earlier + 1) lemma) (after (earlier ++ lemma ∷ []))
      lemma_run earlier lemma o h t =
          let p : Asked (((list_all (is_literal study.size) lemma.suppose && list_all (λ step. is_literal study.size step.literal) lemma.steps && are_new [] lemma.suppose) ≡ true) × (are_forced study.size study.axioms core earlier lemma.last lemma.suppose lemma.steps ≡ true)) = λ a. and_parts (list_all (is_literal study.size) lemma.suppose && list_all (λ step. is_literal study.size step.literal) lemma.steps && are_new [] lemma.suppose) (are_forced study.size study.axioms core earlier lemma.last lemma.suppose lemma.steps) (h a) in
          let r = and_parts (list_all (is_literal study.size) lemma.suppose && list_all (λ step. is_literal study.size step.literal && is_reason study step.reason) lemma.steps) (is_reason study lemma.last) t in
          let s = and_parts (list_all (is_literal study.size) lemma.suppose) (list_all (λ step. is_literal study.size step.literal && is_reason study step.reason) lemma.steps) r.0 in
          let new : Asked (are_new [] lemma.suppose ≡ true) = λ a. (and_parts (list_all (is_literal study.size) lemma.suppose && list_all (λ step. is_literal study.size step.literal) lemma.steps) (are_new [] lemma.suppose) (p a).0).1 in
          let steps = steps_run true earlier lemma.suppose [] lemma.steps lemma.last s.1 r.1 (λ a. subst (λ ks. are_forced study.size study.axioms core earlier lemma.last ks lemma.steps ≡ true) (sym (append-nil lemma.suppose)) (p a).1) in (
            refl,
            refl,
            (λ _. refl),
            runs_over (supposing earlier []) (after (earlier ++ lemma ∷ [])) (map Suppose lemma.suppose ++ (map step_line lemma.steps ++ Clash lemma.last ∷ [])) ((map Suppose lemma.suppose ++ map step_line lemma.steps) ++ Clash lemma.last ∷ []) (sym (append_assoc (map Suppose lemma.suppose) (map step_line lemma.steps) (Clash lemma.last ∷ [])))
                (runs_append (supposing earlier []) (supposing earlier lemma.suppose) (after (earlier ++ lemma ∷ [])) (map Suppose lemma.suppose) (map step_line lemma.steps ++ Clash lemma.last ∷ []) (suppose_run earlier [] lemma.suppose o s.0 new) steps),
          )

      none_of : (ls : List Literal) → (length ls == 0) ≡ true → ls ≡ []
      none_of [] e = refl
      none_of (l ∷ ls) e = let z : length (l ∷ ls) ≡ 0 = eqb-true _ _ e in absurd (omega (arith, z))

      story_run : (earlier story : List Lemma) → length (earlier ++ story) ≡ count → 0 < length story → Asked (is_story_from study.size study.axioms core earlier story ≡ true) → list_all (is_lemma_text study) story ≡ true → Runs (between earlier) (story_lines (length earlier + 1) story) (after_witness (between (earlier ++ story)))
      story_run earlier [] n z h t = absurd (omega (arith, z))
      story_run earlier (lemma ∷ []) n z h t =
          let p : Asked ((is_lemma study.size study.axioms core earlier lemma ≡ true) × ((length lemma.suppose == 0) ≡ true)) = λ a. and_parts (is_lemma study.size study.axioms core earlier lemma) (length lemma.suppose == 0) (h a) in
          let q = and_parts (is_lemma_text study lemma) true t in
          let one = lemma_run earlier lemma (λ a. inr (none_of lemma.suppose (p a).1)) (λ a. (p a).0) q.0 in
          let done : after (earlier ++ lemma ∷ []) ≡ after_witness (between (earlier ++ lemma ∷ [])) = ap (λ b. cond b (after_witness (between (earlier ++ lemma ∷ []))) (between (earlier ++ lemma ∷ []))) (eq-eqb (length (earlier ++ lemma ∷ [])) count n) in
          runs_over (between earlier) _ (lemma_lines (length earlier + 1) lemma) (story_lines (length earlier + 1) (lemma ∷ [])) (sym (append-nil (lemma_lines (length earlier + 1) lemma)))
          (runs_to (between earlier) (after (earlier ++ lemma ∷ [])) (after_witness (between (earlier ++ lemma ∷ []))) (lemma_lines (length earlier + 1) lemma) done one)
      story_run earlier (lemma ∷ next ∷ rest) n z h t =
          let p : Asked ((is_lemma study.size study.axioms core earlier lemma ≡ true) × (is_story_from study.size study.axioms core (earlier ++ lemma ∷ []) (next ∷ rest) ≡ true)) = λ a. and_parts (is_lemma study.size study.axioms core earlier lemma) (is_story_from study.size study.axioms core (earlier ++ lemma ∷ []) (next ∷ rest)) (h a) in
          let q = and_parts (is_lemma_text study lemma) (list_all (is_lemma_text study) (next ∷ rest)) t in
          let l : length (earlier ++ lemma ∷ []) ≡ length earlier + 1 = length-append earlier (lemma ∷ []) in
          let m : length (earlier ++ lemma ∷ next ∷ rest) ≡ length earlier + length (lemma ∷ next ∷ rest) = length-append earlier (lemma ∷ next ∷ rest) in
          let same : (earlier ++ lemma ∷ []) ++ next ∷ rest ≡ earlier ++ lemma ∷ next ∷ rest = append_assoc earlier (lemma ∷ []) (next ∷ rest) in
          let one = lemma_run earlier lemma (λ a. inl (ne_eqb (length earlier + 1) count (λ s. omega (arith, s, m, n)))) (λ a. (p a).0) q.0 in
          let more : after (earlier ++ lemma ∷ []) ≡ between (earlier ++ lemma ∷ []) = ap (λ b. cond b (after_witness (between (earlier ++ lemma ∷ []))) (between (earlier ++ lemma ∷ []))) (ne_eqb (length (earlier ++ lemma ∷ [])) count (λ s. omega (arith, s, l, m, n))) in
          let later = story_run (earlier ++ lemma ∷ []) (next ∷ rest) (ap length same ∙ n) (omega arith) (λ a. (p a).1) q.1 in
          runs_append (between earlier) (between (earlier ++ lemma ∷ [])) (after_witness (between (earlier ++ lemma ∷ next ∷ rest))) (lemma_lines (length earlier + 1) lemma) (story_lines (length earlier + 1 + 1) (next ∷ rest))
          (runs_to (between earlier) (after (earlier ++ lemma ∷ [])) (between (earlier ++ lemma ∷ [])) (lemma_lines (length earlier + 1) lemma) more one)
          (runs_over (between (earlier ++ lemma ∷ [])) (after_witness (between (earlier ++ lemma ∷ next ∷ rest))) (story_lines (length (earlier ++ lemma ∷ []) + 1) (next ∷ rest)) (story_lines (length earlier + 1 + 1) (next ∷ rest)) (ap (λ k. story_lines (k + 1) (next ∷ rest)) l)
          (runs_to (between (earlier ++ lemma ∷ [])) (after_witness (between ((earlier ++ lemma ∷ []) ++ next ∷ rest))) (after_witness (between (earlier ++ lemma ∷ next ∷ rest))) (story_lines (length (earlier ++ lemma ∷ []) + 1) (next ∷ rest)) (ap (λ (ls : List Lemma). after_witness (between ls)) same) later))

    module _ (core : List ℕ) (count : ℕ) (story : List Lemma) where
      abbrev pub witnessed : Place → List Witness → List ℕ → Standing
      witnessed place witnesses rows = record begun { place = place; core = core; count = count; earlier = story; witnesses = witnesses; rows = rows }

      abbrev pub told : List Witness → Standing
      told witnesses = after_witness (witnessed AtLemma witnesses [])

      told_next : (witnesses : List Witness) (k : ℕ) → next_after core witnesses ≡ Some k → told witnesses ≡ witnessed AtWitness witnesses []
      told_next witnesses k e = ap (λ o. witnessed (witness_place o (Impossible core story witnesses)) witnesses []) e

      witness_run : (witnesses : List Witness) (k : ℕ) (witness : Witness) → next_after core witnesses ≡ Some k → k < length study.axioms → Asked (is_witness study.size study.axioms study.conflicts core k witness ≡ true) → is_witness_text study k witness ≡ true → Runs (told witnesses) (witness_lines study k witness) (told (witnesses ++ witness ∷ []))
      witness_run witnesses k (Rule table) e l h t =
          let q = and_parts (length table == P) (list_all (λ o. nat_lt o K) table) t in
          let none : Asked (table_fault study table (rest_of core (next_after core witnesses)) ≡ None) = λ a. ap (λ o. table_fault study table (rest_of core o)) e ∙ none_if table (rest_of core (Some k)) (and_parts (length table == P && list_all (λ o. nat_lt o K) table) _ (h a)).1 in
          runs_from (told witnesses) (witnessed AtWitness witnesses []) (told (witnesses ++ Rule table ∷ [])) (witness_lines study k (Rule table)) (told_next witnesses k e) (
            tt,
            name_plain study.axioms k is.names l,
            λ a. ap (λ o. option_or (name_fault study o (name_at study.axioms k)) (unless_so (P == P) refusal.Row)) e
                ∙ ap (λ o. option_or o (unless_so (P == P) refusal.Row)) (so_none _ refusal.Core ((bytes_eq-Decides (name_at study.axioms k) (name_at study.axioms k)).1 refl))
                ∙ so_none _ refusal.Row (eq-eqb P P refl),
            table_run (witnessed AtWitnessRow witnesses) (λ rows. told (witnesses ++ Rule rows ∷ [])) (rest_of core (next_after core witnesses)) (λ rows p o a b. (a, b)) (λ rows p o. refl) (λ rows p o. refl) table (eqb-true (length table) P q.0) q.1 none,
          )
      witness_run witnesses k (Open n) e l h t =
          runs_from (told witnesses) (witnessed AtWitness witnesses []) (told (witnesses ++ Open n ∷ [])) (witness_lines study k (Open n)) (told_next witnesses k e) (
            tt,
            name_plain study.axioms k is.names l,
            λ a. ap (λ o. option_or (name_fault study o (name_at study.axioms k)) (unless_so (n == study.conflicts) refusal.OpenMark)) e
                ∙ ap (λ o. option_or o (unless_so (n == study.conflicts) refusal.OpenMark)) (so_none _ refusal.Core ((bytes_eq-Decides (name_at study.axioms k) (name_at study.axioms k)).1 refl))
                ∙ so_none _ refusal.OpenMark (h a),
            refl,
          )

      witnesses_run : (done : List Witness) (ks : List ℕ) (ms : List Witness) → remaining core done ≡ ks → list_all (λ k. nat_lt k (length study.axioms)) ks ≡ true → Asked (pointwise (is_witness study.size study.axioms study.conflicts core) ks ms ≡ true) → pointwise (is_witness_text study) ks ms ≡ true → Runs (told done) (all_witness_lines study ks ms) (told (done ++ ms))
      witnesses_run done [] [] e r h t = ap told (sym (append-nil done))
      witnesses_run done [] (m ∷ ms) e r h t = absurd (true≢false (sym t))
      witnesses_run done (k ∷ ks) [] e r h t = absurd (true≢false (sym t))
      witnesses_run done (k ∷ ks) (m ∷ ms) e r h t =
          let p = and_parts (nat_lt k (length study.axioms)) (list_all (λ k. nat_lt k (length study.axioms)) ks) r in
          let q : Asked ((is_witness study.size study.axioms study.conflicts core k m ≡ true) × (pointwise (is_witness study.size study.axioms study.conflicts core) ks ms ≡ true)) = λ a. and_parts (is_witness study.size study.axioms study.conflicts core k m) (pointwise (is_witness study.size study.axioms study.conflicts core) ks ms) (h a) in
          let u = and_parts (is_witness_text study k m) (pointwise (is_witness_text study) ks ms) t in
          runs_append (told done) (told (done ++ m ∷ [])) (told (done ++ m ∷ ms)) (witness_lines study k m) (all_witness_lines study ks ms)
          (witness_run done k m (remaining_next core done k ks e) (ltb-true k (length study.axioms) p.0) (λ a. (q a).0) u.0)
          (runs_to (told (done ++ m ∷ [])) (told ((done ++ m ∷ []) ++ ms)) (told (done ++ m ∷ ms)) (all_witness_lines study ks ms) (ap told (append_assoc done (m ∷ []) ms)) (witnesses_run (done ++ m ∷ []) ks ms (remaining_snoc core done m k ks e) p.1 (λ a. (q a).1) u.1))

    remaining_all : (core : List ℕ) → remaining core [] ≡ core
    remaining_all [] = refl
    remaining_all (c ∷ core) = refl

    -- an impossibility up to the last lemma
    pub told_run : (core : List ℕ) (story : List Lemma) → Asked (is_story study.size study.axioms core story ≡ true)
        → Asked (is_core_from 0 (length study.axioms) core ≡ true) → 0 < length story
        → list_all (is_lemma_text study) story ≡ true → list_all (λ k. nat_lt k (length study.axioms)) core ≡ true
        → Runs at_verdict (told_lines study core story) (told core (length story) story [])
    told_run core story h c some texts inside =
        let places = places_are core inside in
        let count = length story in
        let before = record at_verdict { place = AtLemmas; core = core } in
        let lines : Runs before (LemmasAre count ∷ story_lines 1 story) (told core count story []) =
        (some, refl, (λ _. refl), story_run core count [] story refl some h texts) in (
          tt,
          refl,
          (λ _. refl),
          (
            tt,
            names_plain core inside,
            (λ z. so_none _ refusal.Core (ap (is_core (length study.axioms)) places ∙ c z)),
            runs_from _ before (told core count story []) (LemmasAre count ∷ story_lines 1 story)
                (ap (λ o. record at_verdict { place = AtLemmas; core = unwrap_or o [] }) places) lines,
          ),
        )

    impossible_run : (core : List ℕ) (story : List Lemma) (witnesses : List Witness) → Asked (is_right study (Impossible core story witnesses) ≡ true) → has_text study (Impossible core story witnesses) ≡ true → Runs at_verdict (verdict_lines study (Impossible core story witnesses)) (witnessed core (length story) story (AtEnd (Impossible core story witnesses)) witnesses [])
    impossible_run core story witnesses h t =
        let p : Asked ((is_story_from study.size study.axioms core [] story ≡ true) × ((is_core_from 0 (length study.axioms) core && pointwise (is_witness study.size study.axioms study.conflicts core) core witnesses) ≡ true)) = λ z. and_parts (is_story_from study.size study.axioms core [] story) _ (h z) in
        let q : Asked ((is_core_from 0 (length study.axioms) core ≡ true) × (pointwise (is_witness study.size study.axioms study.conflicts core) core witnesses ≡ true)) = λ z. and_parts (is_core_from 0 (length study.axioms) core) (pointwise (is_witness study.size study.axioms study.conflicts core) core witnesses) (p z).1 in
        let a = and_parts (nat_lt 0 (length story) && list_all (is_lemma_text study) story && list_all (λ k. nat_lt k (length study.axioms)) core) (pointwise (is_witness_text study) core witnesses) t in
        let b = and_parts (nat_lt 0 (length story) && list_all (is_lemma_text study) story) (list_all (λ k. nat_lt k (length study.axioms)) core) a.0 in
        let c = and_parts (nat_lt 0 (length story)) (list_all (is_lemma_text study) story) b.0 in
        let count = length story in
        let done : told core count story witnesses ≡ witnessed core count story (AtEnd (Impossible core story witnesses)) witnesses [] =
        ap (λ o. witnessed core count story (witness_place o (Impossible core story witnesses)) witnesses []) (next_full (is_witness_text study) core witnesses a.1) in
        let story_told = told_run core story (λ z. (p z).0) (λ z. (q z).0) (ltb-true 0 count c.0) c.1 b.1 in
        runs_to at_verdict (told core count story witnesses) (witnessed core count story (AtEnd (Impossible core story witnesses)) witnesses []) (verdict_lines study (Impossible core story witnesses)) done
        (runs_append at_verdict (told core count story []) (told core count story witnesses) (told_lines study core story) (all_witness_lines study core witnesses) story_told
        (witnesses_run core count story [] core witnesses (remaining_all core) b.1 (λ z. (q z).1) a.1))

    -- the report of a verdict is read
    abbrev pub Ends : Verdict → Type 0
    Ends v =
        (s : Standing) × Runs start (report_lines study version v) s
        × (s.place ≡ AtNothing v) × (s.version ≡ version)

    -- the lines of a verdict, between the head and the end
    whole_run : IsKnown → (v : Verdict) (e : Standing)
        → Runs at_verdict (verdict_lines study v) (record e { place = AtEnd v })
        → e.version ≡ version → Ends v
    whole_run known v e r same =
        let end = record e { place = AtEnd v } in
        let head = head_lines study version in
        let said = verdict_lines study v in (
          record e { place = AtNothing v },
          runs_append start end _ (head ++ said) (End ∷ [])
              (runs_append start at_verdict end head said (head_run known) r) (tt, refl, (λ _. refl), refl),
          refl,
          same,
        )

    -- the lines of a report lead to its end
    pub report_run : IsIn versions version → Asked (is_version study.size version ≡ true) → (v : Verdict)
        → Asked (is_claim study v ≡ true) → Asked (is_right study v ≡ true) → has_text study v ≡ true → Ends v
    report_run known allowed (Possible table) c h t =
        whole_run (known, allowed) (Possible table) (in_rows table) (possible_run table t h) refl
    report_run known allowed (Impossible core story witnesses) c h t =
        let last = witnessed core (length story) story AtWitness witnesses [] in
        let said = impossible_run core story witnesses h t in
        whole_run (known, allowed) (Impossible core story witnesses) last said refl
    report_run known allowed Undecided c h t =
        whole_run (known, allowed) Undecided begun
        (tt, refl, (λ a. absurd (true≢false (sym (c a)))), (tt, refl, (λ _. refl), refl)) refl
