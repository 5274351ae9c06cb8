-- What a checker that takes one line at a time needs.
use Rattle.std.proofs.Common.{◌≡◌, refl, ap, ◌∙◌, ℕ, zero, suc, List, [], ◌∷◌, map, length, Some}
use Rattle.std.specs.Prelude.{slice_get, nat_lt}
use Rattle.vocab.specs.declared.literals.Literal.{Literal}
use Rattle.vocab.specs.Study.{Question}
use Rattle.meaning.specs.declared.stories.Reason.{Reason}
use Rattle.meaning.specs.declared.stories.Reason.TheVariants.{Axiom as ByAxiom, Outcome as ByOutcome, Lemma as ByLemma}
use Rattle.meaning.specs.declared.stories.StoryFault.TheVariants.{Later, NotForced}
use Rattle.meaning.specs.declared.stories.Lemma.{Lemma}
use Rattle.meaning.specs.Stories.{is_claim_false}
use Rattle.std.specs.Option.{option_or}
use Rattle.meaning.specs.StoryFaults.{unless, reason_fault}

module _ (study : Question) where
  -- of the earlier lemmas a reason sees the suppositions alone
  abbrev pub supposed : List Lemma → List (List Literal)
  supposed ls = map (λ l. l.suppose) ls

  pub lengths_same : (es bs : List Lemma) → supposed es ≡ supposed bs → length es ≡ length bs
  lengths_same [] [] e = refl
  lengths_same [] (b ∷ bs) e = absurd (cc)
  lengths_same (a ∷ es) [] e = absurd (cc)
  lengths_same (a ∷ es) (b ∷ bs) e = let t : supposed es ≡ supposed bs = cc in ap suc (lengths_same es bs t)

  claims_same : (known : List Literal) (es bs : List Lemma) (j : ℕ) → supposed es ≡ supposed bs → is_claim_false known (slice_get es j) ≡ is_claim_false known (slice_get bs j)
  claims_same known [] [] j e = refl
  claims_same known [] (b ∷ bs) j e = absurd (cc)
  claims_same known (a ∷ es) [] j e = absurd (cc)
  claims_same known (a ∷ es) (b ∷ bs) zero e = let h : a.suppose ≡ b.suppose = cc in ap (λ (ls : List Literal). is_claim_false known (Some (record { suppose = ls; steps = a.steps; last = a.last }))) h
  claims_same known (a ∷ es) (b ∷ bs) (suc j) e = let t : supposed es ≡ supposed bs = cc in claims_same known es bs j t

  pub reasons_same : (core : List ℕ) (es bs : List Lemma) (known : List Literal) (r : Reason) → supposed es ≡ supposed bs → reason_fault study.size study.axioms core es known r ≡ reason_fault study.size study.axioms core bs known r
  reasons_same core es bs known (ByAxiom k values) e = refl
  reasons_same core es bs known (ByOutcome p) e = refl
  reasons_same core es bs known (ByLemma j) e =
      ap (λ n. option_or (unless (nat_lt j n) Later) (unless (is_claim_false known (slice_get es j)) NotForced)) (lengths_same es bs e)
      ∙ ap (λ b. option_or (unless (nat_lt j (length bs)) Later) (unless b NotForced)) (claims_same known es bs j e)
