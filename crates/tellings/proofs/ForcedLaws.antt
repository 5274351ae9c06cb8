-- What is forced stays forced, and each step that is forced is taken.
use Rattle.std.proofs.Common.{◌≡◌, refl, sym, ap, ◌∙◌, subst, ℕ, Bool, true, false, cond, not, ◌&&◌, List, [], ◌∷◌, ◌++◌}
use Rattle.std.specs.List.{fold}
use Rattle.std.proofs.lemmas.Bool.{or_left, or_right}
use Rattle.std.proofs.lemmas.List.Sums.{fold-append}
use Rattle.std.proofs.lemmas.List.Folds.{list_any-append}
use Rattle.vocab.specs.declared.literals.Literal.{Literal}
use Rattle.vocab.specs.Literal.{has, same_literal}
use Rattle.vocab.specs.Size.{Extent}
use Rattle.vocab.specs.Titled.{Titled}
use Rattle.meaning.specs.declared.stories.StoryStep.{StoryStep}
use Rattle.meaning.specs.declared.stories.Lemma.{Lemma}
use Rattle.meaning.proofs.LiteralLaws.{same_literal-refl}
use Rattle.tellings.specs.declared.tellings.StoryTelling.{StoryTelling}
use Rattle.tellings.specs.Tellings.{facts_of, forced_by, forced_facts, forced_with, is_forced, several, IsStoryTold}

-- what is there stays there where one more comes
has_still : (facts : List Literal) (l k : Literal) → has facts k ≡ true → has (facts ++ l ∷ []) k ≡ true
has_still facts l k h = list_any-append (same_literal k) facts (l ∷ []) ∙ or_left (has facts k) (has (l ∷ []) k) h

-- and the one is there
has_last : (facts : List Literal) (l : Literal) → has (facts ++ l ∷ []) l ≡ true
has_last facts l = list_any-append (same_literal l) facts (l ∷ []) ∙ or_right (has facts l) (has (l ∷ []) l) (or_left (same_literal l l) false (same_literal-refl l))

module _ (size : Extent) (axioms : List Titled) (core : List ℕ) (lemmas : List Lemma) where
  -- facts that are forced, with that of a step
  abbrev more : List Literal → StoryStep → List Literal
  more = forced_with size axioms core lemmas

  one_kept : (facts : List Literal) (step : StoryStep) (k : Literal) → has facts k ≡ true → has (more facts step) k ≡ true
  one_kept facts step k h = cases (not (has facts step.literal) && is_forced size axioms core lemmas facts step)
    where
      cases : (b : Bool) → has (cond b (facts ++ step.literal ∷ []) facts) k ≡ true
      cases true = has_still facts step.literal k h
      cases false = h

  steps_kept : (facts : List Literal) (steps : List StoryStep) (k : Literal) → has facts k ≡ true → has (forced_by size axioms core lemmas facts steps) k ≡ true
  steps_kept facts [] k h = h
  steps_kept facts (step ∷ steps) k h = steps_kept (more facts step) steps k (one_kept facts step k h)

  lemmas_kept : (facts : List Literal) (story : List Lemma) (k : Literal) → has facts k ≡ true → has (fold (λ ls lemma. forced_by size axioms core lemmas ls lemma.steps) facts story) k ≡ true
  lemmas_kept facts [] k h = h
  lemmas_kept facts (lemma ∷ rest) k h = lemmas_kept (forced_by size axioms core lemmas facts lemma.steps) rest k (steps_kept facts lemma.steps k h)

  -- the fact of a step that is forced is there
  taken : (facts : List Literal) (step : StoryStep) → is_forced size axioms core lemmas facts step ≡ true → has (more facts step) step.literal ≡ true
  taken facts step h = cases (has facts step.literal) refl
    where
      cases : (b : Bool) → has facts step.literal ≡ b → has (more facts step) step.literal ≡ true
      cases true here = one_kept facts step step.literal here
      cases false here =
          let both : (not (has facts step.literal) && is_forced size axioms core lemmas facts step) ≡ true = ap (λ (b : Bool). not b && is_forced size axioms core lemmas facts step) here ∙ h in
          subst (λ (b : Bool). has (cond b (facts ++ step.literal ∷ []) facts) step.literal ≡ true) (sym both) (has_last facts step.literal)

  -- also once all steps and all lemmas behind it are taken
  taken_there : (before after : List Lemma) (lemma : Lemma) (earlier later : List StoryStep) (step : StoryStep) → lemma.steps ≡ earlier ++ step ∷ later →
      is_forced size axioms core lemmas (forced_by size axioms core lemmas (forced_facts size axioms core lemmas before) earlier) step ≡ true →
      has (forced_facts size axioms core lemmas (before ++ lemma ∷ after)) step.literal ≡ true
  taken_there before after lemma earlier later step is h =
      let known = forced_facts size axioms core lemmas before in
      let far = forced_by size axioms core lemmas known earlier in
      let its : has (forced_by size axioms core lemmas known lemma.steps) step.literal ≡ true =
      ap (λ (ss : List StoryStep). has (forced_by size axioms core lemmas known ss) step.literal) is
      ∙ ap (λ (ls : List Literal). has ls step.literal) (fold-append more known earlier (step ∷ later))
      ∙ steps_kept (more far step) later step.literal (taken far step h) in
      ap (λ (ls : List Literal). has ls step.literal) (fold-append (λ (ls : List Literal) (l : Lemma). forced_by size axioms core lemmas ls l.steps) [] before (lemma ∷ after))
      ∙ lemmas_kept (forced_by size axioms core lemmas known lemma.steps) after step.literal its

pub come_first : (size : Extent) (axioms : List Titled) (core : List ℕ) (story : List Lemma) (told : StoryTelling) → IsStoryTold size axioms core story told →
    (before after : List Lemma) (lemma : Lemma) (earlier later : List StoryStep) (step : StoryStep) → several story ≡ before ++ lemma ∷ after → lemma.steps ≡ earlier ++ step ∷ later →
    is_forced size axioms core [] (forced_by size axioms core [] (forced_facts size axioms core [] before) earlier) step ≡ true → has (facts_of told.forced.steps) step.literal ≡ true
come_first size axioms core story told right before after lemma earlier later step is has_step h =
    ap (λ (ls : List Literal). has ls step.literal) right.whole
    ∙ ap (λ (ls : List Lemma). has (forced_facts size axioms core [] ls) step.literal) is
    ∙ taken_there size axioms core [] before after lemma earlier later step has_step h
