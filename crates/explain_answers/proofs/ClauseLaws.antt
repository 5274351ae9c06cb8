-- Of a study that a file gives, whose clauses are not refused, the rest of the row holds.
use Rattle.std.proofs.Common.{◌≡◌, sym, ◌∙◌, subst, ℕ, List, None, Some}
use Rattle.edge.specs.Shelf.{Files}
use Rattle.vocab.specs.Study.{Question}
use Rattle.answers.specs.Grounding.{clauses_fault, OverClauses, clauses_refused, clauses_made}
use Rattle.answers.specs.Studies.{GivesStudy, OverStudy, study_refused, study_given}
use Rattle.explain_answers.specs.Story.{bare_run}
use Rattle.explain_answers.proofs.PageLaws.{not_refused, one_study}

-- the clauses are not refused
pub made_of : (study : Question) (status : ℕ) (text : List ℕ) (IsRest : Type 0) → clauses_fault study ≡ None → OverClauses study (bare_run status) text IsRest → IsRest
made_of study status text IsRest none (clauses_refused fault e line bare) = let no_fault : Some fault ≡ None = sym e ∙ none in absurd (cc)
made_of study status text IsRest none (clauses_made also is) = is

pub rest_of : (files : Files) (name : List ℕ) (status : ℕ) (text : List ℕ) (IsRest : Question → Type 0) (study : Question) → GivesStudy files name study → clauses_fault study ≡ None
    → OverStudy files name (bare_run status) text (λ q. OverClauses q (bare_run status) text (IsRest q)) → IsRest study
rest_of files name status text IsRest study g none (study_refused r bare) = absurd (not_refused files name study g text r)
rest_of files name status text IsRest study g none (study_given s h told) =
    made_of study status text (IsRest study) none (subst (λ (q : Question). OverClauses q (bare_run status) text (IsRest q)) (one_study files name study g s h) told)
