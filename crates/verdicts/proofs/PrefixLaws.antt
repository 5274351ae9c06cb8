-- Stories, tables and witnesses that are read one after the other.
use Rattle.std.proofs.Common.{◌≡◌, refl, sym, ap, ◌∙◌, subst, ℕ, ◌+◌, Bool, true, false, not, ◌&&◌, List, [], ◌∷◌, ◌++◌, map, length, Some, None, arith, true≢false, append_assoc, append-nil}
use Rattle.std.specs.Prelude.{◌==◌}
use Rattle.std.specs.Cmp.Lexicographic.{pointwise}
use Rattle.std.proofs.lemmas.Bool.{and_parts, and_from}
use Rattle.vocab.specs.declared.literals.Literal.{Literal}
use Rattle.vocab.specs.Literal.{opposite_of}
use Rattle.vocab.specs.Study.{Question}
use Rattle.meaning.specs.declared.stories.Reason.{Reason}
use Rattle.meaning.specs.declared.stories.StoryStep.{StoryStep}
use Rattle.meaning.specs.declared.stories.Lemma.{Lemma}
use Rattle.meaning.specs.declared.cores.Witness.{Witness}
use Rattle.meaning.specs.Stories.{is_decided, refutes, are_new, are_forced, is_lemma, is_story_from}
use Rattle.meaning.specs.Cores.{is_witness}
use Rattle.verdicts.specs.Lines.{Row}
use Rattle.verdicts.specs.Report.{row_lines, story_lines, lemma_lines, witness_lines, all_witness_lines, is_witness_text}
use Rattle.verdicts.specs.Faults.{next_after}

pub rows_snoc : (p : ℕ) (table : List ℕ) (o : ℕ) → row_lines p (table ++ o ∷ []) ≡ row_lines p table ++ Row (p + length table) o ∷ []
rows_snoc p [] o = ap (λ q. Row q o ∷ []) (omega arith)
rows_snoc p (x ∷ xs) o =
    let e : p + 1 + length xs ≡ p + length (x ∷ xs) = omega arith in
    ap (λ ls. Row p x ∷ ls) (rows_snoc (p + 1) xs o ∙ ap (λ q. row_lines (p + 1) xs ++ Row q o ∷ []) e)

pub story_snoc : (n : ℕ) (story : List Lemma) (l : Lemma) → story_lines n (story ++ l ∷ []) ≡ story_lines n story ++ lemma_lines (n + length story) l
story_snoc n [] l = append-nil (lemma_lines n l) ∙ ap (λ k. lemma_lines k l) (omega arith)
story_snoc n (m ∷ ms) l =
    let e : n + 1 + length ms ≡ n + length (m ∷ ms) = omega arith in
    ap (λ ls. lemma_lines n m ++ ls) (story_snoc (n + 1) ms l ∙ ap (λ k. story_lines (n + 1) ms ++ lemma_lines k l) e)
    ∙ sym (append_assoc (lemma_lines n m) (story_lines (n + 1) ms) (lemma_lines (n + length (m ∷ ms)) l))

module _ (study : Question) where
  pub no_witness : (core : List ℕ) → all_witness_lines study core [] ≡ []
  no_witness [] = refl
  no_witness (c ∷ core) = refl

  pub witness_snoc : (core : List ℕ) (witnesses : List Witness) (k : ℕ) (witness : Witness) → next_after core witnesses ≡ Some k → all_witness_lines study core (witnesses ++ witness ∷ []) ≡ all_witness_lines study core witnesses ++ witness_lines study k witness
  witness_snoc [] witnesses k witness e = absurd (cc)
  witness_snoc (c ∷ core) [] k witness e = let same : c ≡ k = cc in nothing_after core ∙ ap (λ j. witness_lines study j witness) same
    where
      nothing_after : (core : List ℕ) → witness_lines study c witness ++ all_witness_lines study core [] ≡ witness_lines study c witness
      nothing_after core = ap (λ ls. witness_lines study c witness ++ ls) (no_witness core) ∙ append-nil (witness_lines study c witness)
  witness_snoc (c ∷ core) (m ∷ witnesses) k witness e =
      ap (λ ls. witness_lines study c m ++ ls) (witness_snoc core witnesses k witness e)
      ∙ sym (append_assoc (witness_lines study c m) (all_witness_lines study core witnesses) (witness_lines study k witness))

  -- the witnesses so far are right
  abbrev pub are_witnesses : List ℕ → List ℕ → List Witness → Bool
  are_witnesses whole core [] = true
  are_witnesses whole [] (m ∷ witnesses) = false
  are_witnesses whole (k ∷ core) (m ∷ witnesses) = is_witness study.size study.axioms study.conflicts whole k m && is_witness_text study k m && are_witnesses whole core witnesses

  pub witnesses_snoc : (whole core : List ℕ) (witnesses : List Witness) (k : ℕ) (witness : Witness) → next_after core witnesses ≡ Some k → are_witnesses whole core witnesses ≡ true → is_witness study.size study.axioms study.conflicts whole k witness ≡ true → is_witness_text study k witness ≡ true → are_witnesses whole core (witnesses ++ witness ∷ []) ≡ true
  witnesses_snoc whole [] witnesses k witness e h a b = absurd (cc)
  witnesses_snoc whole (c ∷ core) [] k witness e h a b =
      let same : c ≡ k = cc in
      subst (λ j. (is_witness study.size study.axioms study.conflicts whole j witness && is_witness_text study j witness && true) ≡ true) (sym same) (and_from _ _ (and_from _ _ a b) refl)
  witnesses_snoc whole (c ∷ core) (m ∷ witnesses) k witness e h a b =
      let p = and_parts (is_witness study.size study.axioms study.conflicts whole c m && is_witness_text study c m) (are_witnesses whole core witnesses) h in
      and_from _ _ p.0 (witnesses_snoc whole core witnesses k witness e p.1 a b)

  pub witnesses_full : (whole core : List ℕ) (witnesses : List Witness) → next_after core witnesses ≡ None → are_witnesses whole core witnesses ≡ true → (pointwise (is_witness study.size study.axioms study.conflicts whole) core witnesses ≡ true) × (pointwise (is_witness_text study) core witnesses ≡ true)
  witnesses_full whole [] [] e h = (refl, refl)
  witnesses_full whole [] (m ∷ witnesses) e h = absurd (true≢false (sym h))
  witnesses_full whole (k ∷ core) [] e h = absurd (cc)
  witnesses_full whole (k ∷ core) (m ∷ witnesses) e h =
      let p = and_parts (is_witness study.size study.axioms study.conflicts whole k m && is_witness_text study k m) (are_witnesses whole core witnesses) h in
      let q = and_parts (is_witness study.size study.axioms study.conflicts whole k m) (is_witness_text study k m) p.0 in
      let r = witnesses_full whole core witnesses e p.1 in
      (and_from _ _ q.0 r.0, and_from _ _ q.1 r.1)

  module _ (core : List ℕ) where
    -- each lemma follows from the earlier ones
    abbrev pub are_lemmas : List Lemma → List Lemma → Bool
    are_lemmas before [] = true
    are_lemmas before (l ∷ ls) = is_lemma study.size study.axioms core before l && are_lemmas (before ++ l ∷ []) ls

    pub lemmas_snoc : (before ls : List Lemma) (l : Lemma) → are_lemmas before ls ≡ true → is_lemma study.size study.axioms core (before ++ ls) l ≡ true → are_lemmas before (ls ++ l ∷ []) ≡ true
    lemmas_snoc before [] l h e = and_from _ true (subst (λ b. is_lemma study.size study.axioms core b l ≡ true) (append-nil before) e) refl
    lemmas_snoc before (m ∷ ms) l h e =
        let p = and_parts (is_lemma study.size study.axioms core before m) (are_lemmas (before ++ m ∷ []) ms) h in
        and_from _ _ p.0 (lemmas_snoc (before ++ m ∷ []) ms l p.1 (subst (λ b. is_lemma study.size study.axioms core b l ≡ true) (sym (append_assoc before (m ∷ []) ms)) e))

    pub story_done : (before ls : List Lemma) (l : Lemma) → are_lemmas before ls ≡ true → is_lemma study.size study.axioms core (before ++ ls) l ≡ true → (length l.suppose == 0) ≡ true → is_story_from study.size study.axioms core before (ls ++ l ∷ []) ≡ true
    story_done before [] l h e z = and_from _ _ (subst (λ b. is_lemma study.size study.axioms core b l ≡ true) (append-nil before) e) z
    story_done before (m ∷ []) l h e z =
        let p = and_parts (is_lemma study.size study.axioms core before m) true h in
        and_from _ _ p.0 (and_from _ _ e z)
    story_done before (m ∷ n ∷ ms) l h e z =
        let p = and_parts (is_lemma study.size study.axioms core before m) (are_lemmas (before ++ m ∷ []) (n ∷ ms)) h in
        and_from _ _ p.0 (story_done (before ++ m ∷ []) (n ∷ ms) l p.1 (subst (λ b. is_lemma study.size study.axioms core b l ≡ true) (sym (append_assoc before (m ∷ []) (n ∷ ms))) e) z)

    pub new_snoc : (known ls : List Literal) (l : Literal) → are_new known ls ≡ true → not (is_decided (known ++ ls) l) ≡ true → are_new known (ls ++ l ∷ []) ≡ true
    new_snoc known [] l h e = and_from _ true (subst (λ k. not (is_decided k l) ≡ true) (append-nil known) e) refl
    new_snoc known (m ∷ ms) l h e =
        let p = and_parts (not (is_decided known m)) (are_new (known ++ m ∷ []) ms) h in
        and_from _ _ p.0 (new_snoc (known ++ m ∷ []) ms l p.1 (subst (λ k. not (is_decided k l) ≡ true) (sym (append_assoc known (m ∷ []) ms)) e))

    abbrev pub lits : List StoryStep → List Literal
    lits steps = map (λ step. step.literal) steps

    -- each step is new and forced
    abbrev pub are_steps : List Lemma → List Literal → List StoryStep → Bool
    are_steps earlier known [] = true
    are_steps earlier known (step ∷ steps) =
        not (is_decided known step.literal) && refutes study.size study.axioms core earlier (known ++ opposite_of step.literal ∷ []) step.reason && are_steps earlier (known ++ step.literal ∷ []) steps

    pub steps_snoc : (earlier : List Lemma) (known : List Literal) (steps : List StoryStep) (step : StoryStep) → are_steps earlier known steps ≡ true → not (is_decided (known ++ lits steps) step.literal) ≡ true → refutes study.size study.axioms core earlier ((known ++ lits steps) ++ opposite_of step.literal ∷ []) step.reason ≡ true → are_steps earlier known (steps ++ step ∷ []) ≡ true
    steps_snoc earlier known [] step h e r =
        and_from _ true (and_from _ _ (subst (λ k. not (is_decided k step.literal) ≡ true) (append-nil known) e) (subst (λ k. refutes study.size study.axioms core earlier (k ++ opposite_of step.literal ∷ []) step.reason ≡ true) (append-nil known) r)) refl
    steps_snoc earlier known (s ∷ steps) step h e r =
        let p = and_parts (not (is_decided known s.literal) && refutes study.size study.axioms core earlier (known ++ opposite_of s.literal ∷ []) s.reason) (are_steps earlier (known ++ s.literal ∷ []) steps) h in
        let same = sym (append_assoc known (s.literal ∷ []) (lits steps)) in
        and_from _ _ p.0 (steps_snoc earlier (known ++ s.literal ∷ []) steps step p.1 (subst (λ k. not (is_decided k step.literal) ≡ true) same e) (subst (λ k. refutes study.size study.axioms core earlier (k ++ opposite_of step.literal ∷ []) step.reason ≡ true) same r))

    pub forced_from : (earlier : List Lemma) (last : Reason) (known : List Literal) (steps : List StoryStep) → are_steps earlier known steps ≡ true → refutes study.size study.axioms core earlier (known ++ lits steps) last ≡ true → are_forced study.size study.axioms core earlier last known steps ≡ true
    forced_from earlier last known [] h r = subst (λ k. refutes study.size study.axioms core earlier k last ≡ true) (append-nil known) r
    forced_from earlier last known (s ∷ steps) h r =
        let p = and_parts (not (is_decided known s.literal) && refutes study.size study.axioms core earlier (known ++ opposite_of s.literal ∷ []) s.reason) (are_steps earlier (known ++ s.literal ∷ []) steps) h in
        and_from _ _ p.0 (forced_from earlier last (known ++ s.literal ∷ []) steps p.1 (subst (λ k. refutes study.size study.axioms core earlier k last ≡ true) (sym (append_assoc known (s.literal ∷ []) (lits steps))) r))
