-- Which files a call leaves alone.
use Rattle.std.proofs.Common.{◌≡◌, ◌∙◌, refl, sym, subst, ℕ, ◌≤◌, inl, inr, List, [], ◌∷◌, Option, Some, arith}
use Rattle.std.specs.Prelude.{Contains, IfSome}
use Rattle.std.proofs.lemmas.Bool.{cases_lt}
use Rattle.edge.specs.Shelf.{Files, OthersStay}
use Rattle.vocab.specs.Study.{Question}
use Rattle.answers.specs.Call.{are_told, AreUntouched, touched_at}
use Rattle.answers.specs.Devices.{Devices}
use Rattle.answers.specs.Studies.{GivesStudy, study_refused, study_given}
use Rattle.answers.proofs.AmongLemmas.{not_alone}
use Rattle.explain_words.specs.Words.{ExplainRequest, Story, request_of}
use Rattle.explain_answers.specs.Story.{IsStoryAnswer}
use Rattle.explain_answers.specs.Lawful.{IsExplanation}
use Rattle.explain_answers.specs.Call.{HasCauseAtFile, IsExplainCall, at_study, at_report, explain_files}
use Rattle.explain_answers.specs.Completeness.{RefusedExplainLeavesUnopened}
use Rattle.lists.proofs.PlaceLaws.{head_same}

module _ (words : List (List ℕ)) (d : Devices) where
  -- at status 3 the first file alone may be touched
  kept_at : (status : ℕ) (first : List ℕ) (others : List (List ℕ)) → status ≡ 3 → explain_files (request_of words) ≡ first ∷ others
      → AreUntouched status (explain_files (request_of words)) d.left_before d.left_now → OthersStay d.left_before d.left_now first
  kept_at status first others three named untouched other ne =
      untouched other
      (subst (λ (n : ℕ). ¬ Contains (touched_at n (explain_files (request_of words))) other) (sym three)
      (subst (λ (names : List (List ℕ)). ¬ Contains (touched_at 3 names) other) (sym named) (not_alone other first ne)))

  -- `story` over a file that gives no study
  module _ (files : Files) (name report : List ℕ) (workers : ℕ) (told_files : d.told ≡ Some files) (asked : request_of words ≡ Some (Story name report workers))
      (none : ((study : Question) × GivesStudy files name study) → ⊥) where
    named : explain_files (request_of words) ≡ name ∷ report ∷ []
    named = subst (λ (r : Option ExplainRequest). explain_files r ≡ name ∷ report ∷ []) (sym asked) refl

    ends_with_three : (status : ℕ) (text : List ℕ) → IsStoryAnswer files name report status text → status ≡ 3
    ends_with_three status text (study_refused r bare) = bare.ends
    ends_with_three status text (study_given study g rest) = absurd (none (study, g))

    three_at : (status : ℕ) (text : List ℕ) → IsExplanation (request_of words) files status text → status ≡ 3
    three_at status text row = ends_with_three status text (subst (λ (r : Option ExplainRequest). IsExplanation r files status text) asked row)

    by_cause : (names : List (List ℕ)) → names ≡ name ∷ report ∷ [] → HasCauseAtFile d.told d.left_before d.left_now d.faults_before d.faults_now names
        → OthersStay d.left_before d.left_now name
    by_cause names is (at_study first others first_is rose stay) =
        subst (λ (n : List ℕ). OthersStay d.left_before d.left_now n) (head_same first name others (report ∷ []) (sym first_is ∙ is)) stay
    by_cause names is (at_report first second both rose given) =
        let same : first ≡ name = head_same first name (second ∷ []) (report ∷ []) (sym both ∙ is) in
        let taken : (study : Question) × GivesStudy files first study = subst (λ (o : Option Files). IfSome o (λ f. (study : Question) × GivesStudy f first study)) told_files given in
        absurd (none (taken.0, subst (λ (n : List ℕ). GivesStudy files n taken.0) same taken.1))

    left : (status : ℕ) → IsExplainCall words d status → status ≤ 6 → OthersStay d.left_before d.left_now name
    left status call most = elim (cases_lt status 5) [
      | inl low ↦ let a = call.lawful files (are_told told_files) (omega (arith, low)) in kept_at status name (report ∷ []) (three_at status a.text a.lawful) named call.untouched
      | inr high ↦ elim (cases_lt status 6) [
        | inl five ↦ by_cause (explain_files (request_of words)) named (call.read_fault (omega (arith, five, high)))
        | inr more ↦ let a = call.cut_short files (are_told told_files) (omega (arith, most, more)) in kept_at a.status name (report ∷ []) (three_at a.status a.text a.lawful) named a.untouched
      ]
    ]

pub left_unopened : RefusedExplainLeavesUnopened
left_unopened words d status call = record {
  at_three = λ three first others named. kept_at words d status first others three named call.untouched;
  at_story = λ files name report workers told_files asked none most. left words d files name report workers told_files asked none status call most;
}
