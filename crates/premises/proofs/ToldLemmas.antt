-- One step more is told.
use Rattle.std.proofs.Common.{◌≡◌, refl, sym, ap, ◌∙◌, subst, ℕ, ◌+◌, ◌<◌, ◌≤◌, inl, inr, Bool, true, ◌&&◌, ◌||◌, List, [], ◌∷◌, ◌++◌, length, arith, Option, Some, None, IsSomeAnd, ltb-true, lt-ltb, eq-eqb, eqb-true}
use Rattle.std.specs.Prelude.{◌==◌, nat_lt, slice_get}
use Rattle.std.specs.List.{list_all, list_any}
use Rattle.std.proofs.lemmas.Bool.{and_parts, and_from, or_cases, or_left, or_right, cases_lt}
use Rattle.std.proofs.lemmas.List.Folds.{list_any-append}
use Rattle.std.proofs.lemmas.Option.{slice_get_past}
use Rattle.lists.proofs.TestLaws.{all_snoc, all_weaker, any_weaker, any_left}
use Rattle.vocab.specs.declared.literals.Literal.{Literal}
use Rattle.vocab.specs.declared.literals.Literal.TheVariants.{Wins, Loses, Above}
use Rattle.vocab.specs.Literal.{has, opposite_of, profile_of, same_literal}
use Rattle.vocab.specs.Size.{Extent}
use Rattle.vocab.specs.Titled.{Titled}
use Rattle.meaning.specs.declared.stories.Lemma.{Lemma}
use Rattle.meaning.specs.declared.stories.Reason.{Reason}
use Rattle.meaning.specs.declared.stories.Reason.TheVariants.{Axiom as ByAxiom, Outcome as ByOutcome, Lemma as ByLemma}
use Rattle.meaning.specs.declared.stories.StoryStep.{StoryStep}
use Rattle.meaning.specs.Stories.{refutes}
use Rattle.tellings.specs.Tellings.{by_of, moved_to, rests_of, says_step, stand_there, stands_before}
use Rattle.tellings.specs.declared.tellings.Passage.{Passage}
use Rattle.tellings.specs.declared.tellings.Placed.{Placed}
use Rattle.tellings.specs.declared.tellings.Sentence.{Sentence}
use Rattle.meaning.proofs.LiteralLaws.{same_literal-refl}
use Rattle.needed_facts.specs.Rests.{are_there, RestsOn}
use Rattle.joined_sentences.specs.Joined.{IsJoined, IsSentenceBy}
use Rattle.premises.specs.SoFar.{are_numbered, IsToldSoFar}
use Rattle.needed_facts.proofs.RestLemmas.{has_itself, all_among}
use Rattle.needed_facts.proofs.TestLemmas.{all_both}

-- a step stands in the sentence of the number
abbrev pub is_in : ℕ → Placed → Bool
is_in k placed = placed.sentence == k

-- the sentences so far each say a step, and so does the next
pub say_next : (steps : List Placed) (n : ℕ) → ((k : ℕ) → k < n → list_any (is_in k) steps ≡ true) → list_any (is_in n) steps ≡ true → (k : ℕ) → k < n + 1 → list_any (is_in k) steps ≡ true
say_next steps n say one k lt = elim (cases_lt k n) [
  | inl low ↦ say k low
  | inr high ↦ let same : n ≡ k = omega (arith, high, lt) in subst (λ (i : ℕ). list_any (is_in i) steps ≡ true) same one
]

-- ---- what stands

-- a step of a sentence before the number states the fact
abbrev pub is_stated : ℕ → Literal → Placed → Bool
is_stated k q placed = nat_lt placed.sentence k && same_literal q placed.step.literal

module _ (forced suppose : List Literal) where
  pub supposed_stand : (steps : List Placed) (k : ℕ) → list_all (stands_before forced suppose steps k) suppose ≡ true
  supposed_stand steps k =
      all_weaker (has suppose) (stands_before forced suppose steps k) (λ q h. or_left (has forced q || has suppose q) (list_any (is_stated k q) steps) (or_right (has forced q) (has suppose q) h)) suppose (has_itself suppose)

  -- what stands before a sentence stands before later ones, where more is said
  stands_more : (steps : List Placed) (p : Placed) (k m : ℕ) (q : Literal) → k ≤ m → stands_before forced suppose steps k q ≡ true → stands_before forced suppose (steps ++ p ∷ []) m q ≡ true
  stands_more steps p k m q le h =
      elim (or_cases (has forced q || has suppose q) (list_any (is_stated k q) steps) h) [
        | inl e ↦ or_left (has forced q || has suppose q) (list_any (is_stated m q) (steps ++ p ∷ [])) e
        | inr e ↦ or_right (has forced q || has suppose q) (list_any (is_stated m q) (steps ++ p ∷ []))
            (any_left (is_stated m q) steps (p ∷ []) (any_weaker (is_stated k q) (is_stated m q) later steps e))
      ]
    where
      later : (a : Placed) → is_stated k q a ≡ true → is_stated m q a ≡ true
      later a s =
          let parts = and_parts (nat_lt a.sentence k) (same_literal q a.step.literal) s in
          let lt = ltb-true a.sentence k parts.0 in
          and_from (nat_lt a.sentence m) (same_literal q a.step.literal) (lt-ltb a.sentence m (omega arith)) parts.1

  pub all_stand_more : (steps : List Placed) (p : Placed) (k m : ℕ) (qs : List Literal) → k ≤ m → list_all (stands_before forced suppose steps k) qs ≡ true →
      list_all (stands_before forced suppose (steps ++ p ∷ []) m) qs ≡ true
  all_stand_more steps p k m qs le h = all_weaker (stands_before forced suppose steps k) (stands_before forced suppose (steps ++ p ∷ []) m) (λ q e. stands_more steps p k m q le e) qs h

  -- a fact that was just stated stands before later sentences
  pub stated_stands : (steps : List Placed) (p : Placed) (m : ℕ) → p.sentence < m → stands_before forced suppose (steps ++ p ∷ []) m p.step.literal ≡ true
  stated_stands steps p m lt =
      let q = p.step.literal in
      or_right (has forced q || has suppose q) (list_any (is_stated m q) (steps ++ p ∷ []))
      (list_any-append (is_stated m q) steps (p ∷ []) ∙ or_right (list_any (is_stated m q) steps) (list_any (is_stated m q) (p ∷ []))
      (or_left (is_stated m q p) (list_any (is_stated m q) []) (and_from (nat_lt p.sentence m) (same_literal q q) (lt-ltb p.sentence m lt) (same_literal-refl q))))

-- ---- what stands of the profile of a reason

stays : (p : ℕ) (l : Literal) → (profile_of l == p) ≡ true → moved_to p l ≡ l
stays p (Wins x q) h = ap (λ (i : ℕ). Wins x i) (sym (eqb-true q p h))
stays p (Loses x q) h = ap (λ (i : ℕ). Loses x i) (sym (eqb-true q p h))
stays p (Above x y q) h = ap (λ (i : ℕ). Above x y i) (sym (eqb-true q p h))

pub stand_of : (reason : Reason) (rests : List Literal) → are_there reason rests ≡ true → stand_there rests reason ≡ true
stand_of (ByAxiom k values) rests h = refl
stand_of (ByOutcome p) rests h =
    all_both (λ (l : Literal). profile_of l == p) (has rests) (λ (l : Literal). has rests (moved_to p l)) (λ l here known. subst (λ (q : Literal). has rests q ≡ true) (sym (stays p l here)) known) rests h (has_itself rests)
stand_of (ByLemma j) rests h = refl

-- ---- sentences that are joined

module _ (size : Extent) (axioms : List Titled) (core : List ℕ) (earlier : List Lemma) where
  pub says_it : (o : Option Sentence) (step : StoryStep) (rests : List Literal) → IsSomeAnd o (IsSentenceBy (by_of step.reason) rests) → are_there step.reason rests ≡ true →
      refutes size axioms core earlier (rests ++ opposite_of step.literal ∷ []) step.reason ≡ true → says_step size axioms core earlier o step ≡ true
  says_it None step rests h t r = absurd h
  says_it (Some s) step rests h t r =
      and_from _ _ (and_from _ _ h.named (subst (λ (ls : List Literal). stand_there ls step.reason ≡ true) (sym h.same) (stand_of step.reason rests t))) (subst (λ (ls : List Literal). refutes size axioms core earlier (ls ++ opposite_of step.literal ∷ []) step.reason ≡ true) (sym h.same) r)

  its_rests : (o : Option Sentence) (step : StoryStep) (rests : List Literal) → IsSomeAnd o (IsSentenceBy (by_of step.reason) rests) → rests_of o ≡ rests
  its_rests None step rests h = absurd h
  its_rests (Some s) step rests h = h.same

  -- all steps so far are numbered and said, and so is one more
  module _ (old new : List Sentence) (steps : List Placed) (step : StoryStep) (rests : List Literal) (number : ℕ) (joined : IsJoined old new (by_of step.reason) rests number) where
    -- the step, with its number
    abbrev pub placed : Placed
    placed = record { sentence = number; step = step }

    later : (p : Placed) → nat_lt p.sentence (length old) ≡ true → nat_lt p.sentence (length new) ≡ true
    later p h = let lt = ltb-true p.sentence (length old) h in let grown = joined.grown in lt-ltb p.sentence (length new) (omega arith)

    pub numbered_more : are_numbered (length old) steps ≡ true → are_numbered (length new) (steps ++ placed ∷ []) ≡ true
    numbered_more h =
        all_snoc (λ p. nat_lt p.sentence (length new)) steps placed (all_weaker (λ p. nat_lt p.sentence (length old)) (λ p. nat_lt p.sentence (length new)) later steps h) (lt-ltb number (length new) joined.within)

    pub said_more : are_numbered (length old) steps ≡ true → list_all (λ p. says_step size axioms core earlier (slice_get old p.sentence) p.step) steps ≡ true →
        are_there step.reason rests ≡ true → refutes size axioms core earlier (rests ++ opposite_of step.literal ∷ []) step.reason ≡ true → list_all (λ p. says_step size axioms core earlier (slice_get new p.sentence) p.step) (steps ++ placed ∷ []) ≡ true
    said_more numbered said there refuted =
        all_snoc (λ p. says_step size axioms core earlier (slice_get new p.sentence) p.step) steps placed
        (all_both (λ p. nat_lt p.sentence (length old)) (λ p. says_step size axioms core earlier (slice_get old p.sentence) p.step) (λ p. says_step size axioms core earlier (slice_get new p.sentence) p.step)
        (λ p h s. subst (λ (o : Option Sentence). says_step size axioms core earlier o p.step ≡ true) (sym (joined.kept p.sentence (ltb-true p.sentence (length old) h))) s) steps numbered said)
        (says_it (slice_get new number) step rests joined.is there refuted)

    -- each sentence so far says a step, and so does one more
    pub all_say_more : ((k : ℕ) → k < length old → list_any (is_in k) steps ≡ true) → (k : ℕ) → k < length new → list_any (is_in k) (steps ++ placed ∷ []) ≡ true
    all_say_more say k within = elim (cases_lt k (length old)) [
      | inl low ↦ list_any-append (is_in k) steps (placed ∷ []) ∙ or_left (list_any (is_in k) steps) (list_any (is_in k) (placed ∷ [])) (say k low)
      | inr high ↦
          let same : number ≡ k = sym (joined.fresh k high within).0 in
          list_any-append (is_in k) steps (placed ∷ []) ∙ or_right (list_any (is_in k) steps) (list_any (is_in k) (placed ∷ [])) (or_left (is_in k placed) (list_any (is_in k) []) (eq-eqb number k same))
    ]

    pub rests_there : rests_of (slice_get new number) ≡ rests
    rests_there = its_rests (slice_get new number) step rests joined.is

-- ---- one step more

module _ (size : Extent) (axioms : List Titled) (core : List ℕ) (earlier : List Lemma) where
  module _ (forced suppose known rests : List Literal) (old new : Passage) (step : StoryStep) (number : ℕ) (so_far : IsToldSoFar size axioms core earlier forced suppose known old)
      (grounds : RestsOn size axioms core earlier known (opposite_of step.literal ∷ []) step.reason rests) (there : are_there step.reason rests ≡ true) (joined : IsJoined old.sentences new.sentences (by_of step.reason) rests number) where
    -- the next step, with its number
    abbrev one : Placed
    one = placed size axioms core earlier old.sentences new.sentences old.steps step rests number joined

    -- the steps with the next one
    abbrev more : List Placed
    more = old.steps ++ one ∷ []

    grounded_at : (k : ℕ) → list_all (stands_before forced suppose more k) (rests_of (slice_get new.sentences k)) ≡ true
    grounded_at k =
        elim (cases_lt k (length old.sentences)) [
          | inl low ↦ subst (λ (o : Option Sentence). list_all (stands_before forced suppose more k) (rests_of o) ≡ true) (sym (joined.kept k low))
              (all_stand_more forced suppose old.steps one k k (rests_of (slice_get old.sentences k)) (omega arith) (so_far.grounded k))
          | inr high ↦ elim (cases_lt k (length new.sentences)) [
            | inl within ↦
                let same : rests_of (slice_get new.sentences k) ≡ rests =
                ap (λ (i : ℕ). rests_of (slice_get new.sentences i)) (joined.fresh k high within).0 ∙ rests_there size axioms core earlier old.sentences new.sentences old.steps step rests number joined in
                subst (λ (ls : List Literal). list_all (stands_before forced suppose more k) ls ≡ true) (sym same)
                (all_stand_more forced suppose old.steps one (length old.sentences) k rests high
                (all_among (stands_before forced suppose old.steps (length old.sentences)) known rests so_far.stands grounds.kept))
            | inr beyond ↦ subst (λ (o : Option Sentence). list_all (stands_before forced suppose more k) (rests_of o) ≡ true) (sym (slice_get_past new.sentences k beyond)) refl
          ]
        ]

    told_so : IsToldSoFar size axioms core earlier forced suppose (known ++ step.literal ∷ []) (record { sentences = new.sentences; steps = more })
    told_so = record {
      numbered = numbered_more size axioms core earlier old.sentences new.sentences old.steps step rests number joined so_far.numbered;
      said = said_more size axioms core earlier old.sentences new.sentences old.steps step rests number joined so_far.numbered so_far.said there grounds.refuted;
      all_say = all_say_more size axioms core earlier old.sentences new.sentences old.steps step rests number joined so_far.all_say;
      grounded = grounded_at;
      stands =
          all_snoc (stands_before forced suppose more (length new.sentences)) known step.literal
          (all_stand_more forced suppose old.steps one (length old.sentences) (length new.sentences) known joined.grown so_far.stands)
          (stated_stands forced suppose old.steps one (length new.sentences) joined.within);
    }

    pub told_more : new.steps ≡ more → IsToldSoFar size axioms core earlier forced suppose (known ++ step.literal ∷ []) new
    told_more is = subst (λ (ps : List Placed). IsToldSoFar size axioms core earlier forced suppose (known ++ step.literal ∷ []) (record { sentences = new.sentences; steps = ps })) (sym is) told_so

  -- nothing is told yet
  pub told_none : (forced suppose : List Literal) → IsToldSoFar size axioms core earlier forced suppose suppose (record { sentences = []; steps = [] })
  told_none forced suppose = record { numbered = refl; said = refl; all_say = λ k lt. absurd (omega (arith, lt)); grounded = λ k. refl; stands = supposed_stand forced suppose [] 0 }
