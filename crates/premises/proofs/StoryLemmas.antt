-- One lemma more is told.
use Rattle.std.proofs.Common.{◌≡◌, sym, ap, ◌∙◌, subst, ℕ, ◌+◌, inl, inr, List, [], ◌∷◌, ◌++◌, take, length, length-append, Some}
use Rattle.std.specs.Prelude.{slice_get}
use Rattle.std.proofs.lemmas.Bool.{cases_lt}
use Rattle.vocab.specs.declared.literals.Literal.{Literal}
use Rattle.vocab.specs.Size.{Extent}
use Rattle.vocab.specs.Titled.{Titled}
use Rattle.meaning.specs.declared.stories.Lemma.{Lemma}
use Rattle.tellings.specs.declared.tellings.Telling.{Telling}
use Rattle.tellings.specs.Tellings.{IsTellingRight}
use Rattle.premises.specs.Told.{AreTold}
use Rattle.needed_facts.proofs.TestLemmas.{front, at_end}

module _ (size : Extent) (axioms : List Titled) (core : List ℕ) (story : List Lemma) (forced : List Literal) where
  pub lemma_more : (tellings new : List Telling) (place : ℕ) (lemma : Lemma) (telling : Telling) → AreTold size axioms core story forced tellings → length tellings ≡ place → new ≡ tellings ++ telling ∷ [] →
      slice_get story place ≡ Some lemma → IsTellingRight size axioms core (take place story) forced lemma telling → AreTold size axioms core story forced new
  lemma_more tellings new place lemma telling told all is at this j other its there here =
      let there_too : slice_get (tellings ++ telling ∷ []) j ≡ Some its = subst (λ (ts : List Telling). slice_get ts j ≡ Some its) is here in
      elim (cases_lt j (length tellings)) [
        | inl low ↦ told j other its there (sym (front tellings telling j low) ∙ there_too)
        | inr high ↦
            let end = at_end tellings telling j its high there_too in
            let same : j ≡ place = end.0 ∙ all in
            let lemmas : slice_get story place ≡ Some other = subst (λ (i : ℕ). slice_get story i ≡ Some other) same there in
            let one : lemma ≡ other = cc in
            subst (λ (i : ℕ). IsTellingRight size axioms core (take i story) forced other its) (sym same)
            (subst (λ (l : Lemma). IsTellingRight size axioms core (take place story) forced l its) one (subst (λ (t : Telling). IsTellingRight size axioms core (take place story) forced lemma t) end.1 this))
      ]

pub counted : (tellings new : List Telling) (place : ℕ) (telling : Telling) → length tellings ≡ place → new ≡ tellings ++ telling ∷ [] → length new ≡ place + 1
counted tellings new place telling all is = ap length is ∙ length-append tellings (telling ∷ []) ∙ ap (λ n. n + 1) all
