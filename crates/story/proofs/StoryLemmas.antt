-- The lemmas of a story, one after another.
use Rattle.std.proofs.Common.{◌≡◌, ◌∙◌, sym, ap, refl, ℕ, ◌+◌, ◌-◌, ◌<◌, ◌≤◌, Bool, true, false, List, [], ◌∷◌, ◌++◌, take, drop, length, get_or, arith, true≢false, eqb-true, Option, Some, None}
use Rattle.std.specs.Prelude.{◌==◌}
use Rattle.std.specs.Option.{option_map, option_or}
use Rattle.std.proofs.lemmas.Bool.{eq-eqb, false_from_ne_true}
use Rattle.std.proofs.lemmas.List.{drop_more, take_more, drop_all, length-drop, length-take-le}
use Rattle.vocab.specs.Size.{Extent}
use Rattle.vocab.specs.Titled.{Titled}
use Rattle.meaning.specs.declared.stories.Lemma.{Lemma}
use Rattle.meaning.specs.declared.stories.PlacedFault.{PlacedFault}
use Rattle.meaning.specs.declared.stories.StoryRefusal.{StoryRefusal}
use Rattle.meaning.specs.declared.stories.StoryRefusal.TheVariants.{Lemma as InLemma}
use Rattle.meaning.specs.StoryFaults.{lemma_fault, next_refusal, refusal_from}

-- whether nothing is left
abbrev is_end : {A : Type 0} → List A → Bool
is_end [] = true
is_end (x ∷ xs) = false

end_at : {A : Type 0} (n i : ℕ) (rest : List A) → i < n → length rest ≡ n - (i + 1) → (i == n - 1) ≡ is_end rest
end_at n i [] lt count = eq-eqb i (n - 1) (omega (arith, lt, count))
end_at n i (x ∷ xs) lt count = false_from_ne_true _ (λ last. absurd (omega (arith, lt, count, eqb-true i (n - 1) last)))

module _ (size : Extent) (axioms : List Titled) (core : List ℕ) where
  -- the refusal of what is left of a story, where the earlier lemmas follow; none at its end
  abbrev pub left_refusal : List Lemma → List Lemma → Option StoryRefusal
  left_refusal earlier [] = None
  left_refusal earlier (lemma ∷ rest) = refusal_from size axioms core earlier (lemma ∷ rest)

  -- at the start all is left
  pub all_left : (story : List Lemma) → false ≡ (length story == 0) → refusal_from size axioms core [] story ≡ left_refusal [] story
  all_left [] some = absurd (true≢false (sym some))
  all_left (lemma ∷ rest) some = refl

  -- at the end nothing is
  pub none_left : (whole : Option StoryRefusal) (earlier story : List Lemma) (place : ℕ) → whole ≡ left_refusal earlier (drop place story) → length story ≤ place → whole ≡ None
  none_left whole earlier story place rest done = rest ∙ ap (left_refusal earlier) (drop_all place story done)

  none_next : (earlier : List Lemma) (lemma : Lemma) (rest : List Lemma) → next_refusal size axioms core earlier (is_end rest) lemma ≡ None → left_refusal earlier (lemma ∷ rest) ≡ left_refusal (earlier ++ lemma ∷ []) rest
  none_next earlier lemma [] none = none
  none_next earlier lemma (next ∷ rest) none = ap (λ o. option_or o (refusal_from size axioms core (earlier ++ lemma ∷ []) (next ∷ rest))) none

  some_next : (earlier : List Lemma) (lemma : Lemma) (rest : List Lemma) (r : StoryRefusal) → next_refusal size axioms core earlier (is_end rest) lemma ≡ Some r → left_refusal earlier (lemma ∷ rest) ≡ Some r
  some_next earlier lemma [] r some = some
  some_next earlier lemma (next ∷ rest) r some = ap (λ o. option_or o (refusal_from size axioms core (earlier ++ lemma ∷ []) (next ∷ rest))) some

  module _ (story : List Lemma) (place : ℕ) (lemma : Lemma) (lt : place < length story) (at : lemma ≡ get_or story place lemma)
      (whole : Option StoryRefusal) (rest : whole ≡ left_refusal (take place story) (drop place story)) where
    left : drop place story ≡ lemma ∷ drop (place + 1) story
    left = drop_more story place lemma lt ∙ ap (λ l. l ∷ drop (place + 1) story) (sym at)

    up_to : take (place + 1) story ≡ take place story ++ lemma ∷ []
    up_to = take_more story place lemma lt ∙ ap (λ l. take place story ++ l ∷ []) (sym at)

    final_is : (place == length story - 1) ≡ is_end (drop (place + 1) story)
    final_is = end_at (length story) place (drop (place + 1) story) lt (length-drop (place + 1) story)

    same_next : (fault : Option PlacedFault) → lemma_fault size axioms core (take place story) (place == length story - 1) lemma ≡ fault
        → next_refusal size axioms core (take place story) (is_end (drop (place + 1) story)) lemma ≡ option_map (λ f. InLemma (length (take place story)) f) fault
    same_next fault is = ap (λ final. next_refusal size axioms core (take place story) final lemma) (sym final_is) ∙ ap (option_map (λ f. InLemma (length (take place story)) f)) is

    -- the lemma at the place has no fault
    pub followed : lemma_fault size axioms core (take place story) (place == length story - 1) lemma ≡ None → whole ≡ left_refusal (take (place + 1) story) (drop (place + 1) story)
    followed none =
        rest
        ∙ ap (left_refusal (take place story)) left
        ∙ none_next (take place story) lemma (drop (place + 1) story) (same_next None none)
        ∙ ap (λ earlier. left_refusal earlier (drop (place + 1) story)) (sym up_to)

    -- it has one
    pub refused : (f : PlacedFault) → lemma_fault size axioms core (take place story) (place == length story - 1) lemma ≡ Some f → whole ≡ Some (InLemma place f)
    refused f some =
        let r : StoryRefusal = InLemma (length (take place story)) f in
        rest
        ∙ ap (left_refusal (take place story)) left
        ∙ some_next (take place story) lemma (drop (place + 1) story) r (same_next (Some f) some)
        ∙ ap (λ n. Some (InLemma n f)) (length-take-le place story (omega (arith, lt)))
