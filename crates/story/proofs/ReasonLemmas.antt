-- A reason has no fault exactly where it refutes what is known.
use Rattle.std.proofs.Common.{◌≡◌, ◌∙◌, sym, ap, ap₂, subst, ℕ, ◌+◌, ◌<◌, ◌≤◌, Bool, true, false, ◌&&◌, List, length, take, true≢false, ltb-true, Some, Result, Ok, Err}
use Rattle.std.specs.Prelude.{nat_lt, get_or, slice_get, OnErr, OnOk}
use Rattle.std.specs.List.{list_all}
use Rattle.std.specs.Option.{option_or}
use Rattle.std.proofs.lemmas.List.{take_all}
use Rattle.std.proofs.lemmas.List.Folds.{list_all_more}
use Rattle.std.proofs.lemmas.Option.{get_or_from_slice_get}
use Rattle.std.proofs.lemmas.Bool.{false_from_ne_true}
use Rattle.lists.proofs.TestLaws.{all_read}
use Rattle.lists.proofs.PlaceLaws.{there_is}
use Rattle.vocab.specs.declared.literals.Literal.{Literal}
use Rattle.vocab.specs.Literal.{has}
use Rattle.vocab.specs.Size.{Extent}
use Rattle.vocab.specs.Titled.{Titled}
use Rattle.meaning.specs.declared.stories.Lemma.{Lemma}
use Rattle.meaning.specs.declared.stories.Reason.{Reason}
use Rattle.meaning.specs.declared.stories.StoryFault.{StoryFault}
use Rattle.meaning.specs.declared.stories.StoryFault.TheVariants.{Later, NotForced}
use Rattle.meaning.specs.Stories.{is_claim_false, refutes}
use Rattle.meaning.specs.StoryFaults.{unless, reason_fault}
use Rattle.meaning.proofs.StoryFaultLaws.{passes_reason}
use Rattle.story.specs.Answers.{AnswersFault}
use Rattle.story.proofs.PlaceLemmas.{claim_false}
use Rattle.lists.proofs.OptionLaws.{not_both}

module _ {T : Type 0} (size : Extent) (axioms : List Titled) (core : List ℕ) (earlier : List Lemma) (known : List Literal) (reason : Reason) where
  pub ok_refutes : (r : Result T StoryFault) → AnswersFault r (reason_fault size axioms core earlier known reason) → OnOk r (refutes size axioms core earlier known reason ≡ true)
  ok_refutes (Ok x) h = (passes_reason size axioms core earlier known reason).0 h
  ok_refutes (Err e) h = tt

  pub err_refutes_not : (r : Result T StoryFault) → AnswersFault r (reason_fault size axioms core earlier known reason) → OnErr r (refutes size axioms core earlier known reason ≡ false)
  err_refutes_not (Ok x) h = tt
  err_refutes_not (Err e) h = false_from_ne_true _ (λ yes. not_both _ e h ((passes_reason size axioms core earlier known reason).1 yes))

-- ---- an earlier lemma

module _ {A : Type 0} (t : A → Bool) (xs : List A) (i : ℕ) where
  -- one more passes a test
  pub all_more : (d : A) → i < length xs → list_all t (take i xs) ≡ true → t (get_or xs i d) ≡ true → list_all t (take (i + 1) xs) ≡ true
  all_more d lt all one = list_all_more t xs i d lt ∙ ap₂ (λ a b. a && b) all one

  -- one does not
  pub not_all : (d : A) → i < length xs → t (get_or xs i d) ≡ false → list_all t xs ≡ false
  not_all d lt fails = false_from_ne_true _ (λ passes. absurd (true≢false (sym (all_read t xs i d lt passes) ∙ fails)))

  -- all have passed
  pub all_passed : length xs ≤ i → list_all t (take i xs) ≡ true → list_all t xs ≡ true
  all_passed done all = subst (λ ys. list_all t ys ≡ true) (take_all i xs done) all

-- the lemma at a place of the earlier ones refutes what is known if that has all that the lemma supposes
pub cited_fault : (known : List Literal) (lemmas : List Lemma) (j : ℕ) (l d : Lemma) → true ≡ nat_lt j (length lemmas) → l ≡ get_or lemmas j d → (there : Bool) → list_all (has known) l.suppose ≡ there →
    option_or (unless (nat_lt j (length lemmas)) Later) (unless (is_claim_false known (slice_get lemmas j)) NotForced) ≡ unless there NotForced
cited_fault known lemmas j l d lt at there h =
    let found = there_is lemmas j (ltb-true j (length lemmas) (sym lt)) in
    let same : slice_get lemmas j ≡ Some l = found.1 ∙ ap Some (sym (at ∙ get_or_from_slice_get lemmas j found.0 d found.1)) in
    ap₂ (λ b o. option_or (unless b Later) (unless (is_claim_false known o) NotForced)) (sym lt) same
    ∙ ap (λ b. unless b NotForced) (claim_false known l.suppose ∙ h)
