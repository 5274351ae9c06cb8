-- What the reduction among instances asks of the renumbered proof.
use Rattle.std.proofs.Common.{◌≡◌, refl, sym, ◌∙◌, ap, ap₂, subst, ℕ, zero, suc, ◌<◌, ◌&&◌, List, [], ◌∷◌, map, length, arith, Some}
use Rattle.std.specs.Prelude.{slice_get}
use Rattle.std.specs.List.{list_all}
use Rattle.std.proofs.lemmas.Option.{slice_get_within}
use Rattle.vocab.specs.Study.{Question}
use Rattle.cnf.specs.declared.derivations.Line.{Line}
use Rattle.cnf.specs.Fresh.{AreOver, added_by, is_over}
use Rattle.cnf.specs.Sat.{Clause}
use Rattle.meaning.specs.Space.{below}
use Rattle.meaning.specs.StudyClauses.{Sourced, study_clauses, clauses_for}
use Rattle.clause_form.specs.Sources.{clauses_in}
use Rattle.search_logs.specs.Spent.{all_places}
use Rattle.sharp_verdicts.specs.declared.instances.Cited.{Cited}
use Rattle.sharp_verdicts.specs.Derived.{derived_study}
use Rattle.instance_studies.proofs.StudyLaws.{length_from}
use Rattle.instance_grounds.specs.Laws.{derived_clauses}
use Rattle.instance_grounds.proofs.StandLaws.{clauses_stand}
use Rattle.renumbering.specs.Renumbered.{StandsSomewhere}
use Rattle.instance_cores.specs.Cores.{AreInstancesCited}

source_at : (ss : List Sourced) (j : ℕ) → j < length (clauses_in ss) → (s : Sourced) × (slice_get ss j ≡ Some s) × (slice_get (clauses_in ss) j ≡ Some s.clause)
source_at [] j lt = absurd (omega (arith, lt))
source_at (s ∷ ss) zero lt = (s, refl, refl)
source_at (s ∷ ss) (suc j) lt = source_at ss j (omega (arith, lt))

-- the clauses of the study of some instances, by the study that was made
pub clauses_made : (study d : Question) (instances : List Cited) (all : List ℕ) → d ≡ derived_study study instances → all ≡ all_places d → clauses_for d.size d.axioms all ≡ derived_clauses study instances
clauses_made study d instances all made places =
    let count : all ≡ below (length instances) = places ∙ ap all_places made ∙ ap below (length_from study 0 instances) in
    ap₂ (λ (e : Question) (ps : List ℕ). clauses_for e.size e.axioms ps) made count

pub stand_made : (study : Question) (core : List ℕ) (instances : List Cited) (lines : List Line) (old new : List Clause) → AreInstancesCited study (study_clauses study.size study.axioms core) lines instances
    → old ≡ clauses_in (study_clauses study.size study.axioms core) → new ≡ derived_clauses study instances → StandsSomewhere old new lines
stand_made study core instances lines old new cited is_old is_new j lt h =
    let s = source_at (study_clauses study.size study.axioms core) j (subst (λ (cs : List Clause). j < length cs) is_old lt) in
    let r = clauses_stand study core instances j s.0 s.1 (cited.cover j s.0 s.1 h) in
    let there : slice_get new r.0 ≡ Some s.0.clause = ap (λ (cs : List Clause). slice_get cs r.0) is_new ∙ r.1 in
    let here : slice_get old j ≡ Some s.0.clause = ap (λ (cs : List Clause). slice_get cs j) is_old ∙ s.2 in
    (r.0, record { within = slice_get_within new r.0 s.0.clause there; same = there ∙ sym here })

over_all : (v : ℕ) (lines : List Line) → list_all (λ (line : Line). is_over v (added_by line.step)) lines ≡ list_all (is_over v) (map (λ (line : Line). added_by line.step) lines)
over_all v [] = refl
over_all v (l ∷ lines) = ap (λ b. is_over v (added_by l.step) && b) (over_all v lines)

pub over_moved : (v : ℕ) (moved lines : List Line) → map (λ (l : Line). added_by l.step) moved ≡ map (λ (l : Line). added_by l.step) lines → AreOver v lines → AreOver v moved
over_moved v moved lines same over = over_all v moved ∙ ap (list_all (is_over v)) same ∙ sym (over_all v lines) ∙ over
