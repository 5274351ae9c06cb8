-- What a trimmed proof says of each of its lines.
use Rattle.std.proofs.Common.{◌≡◌, refl, sym, ◌∙◌, ap, subst, ℕ, zero, suc, ◌+◌, ◌<◌, ◌≤◌, min, true, false, not, List, [], ◌∷◌, ◌++◌, map, take, length, get_or, arith, Some}
use Rattle.std.specs.Prelude.{slice_get}
use Rattle.std.specs.List.{list_all}
use Rattle.std.proofs.lemmas.Bool.{not-true}
use Rattle.std.proofs.lemmas.List.{length-take}
use Rattle.std.proofs.lemmas.Option.{get_or_from_slice_get, slice_get_within}
use Rattle.vocab.specs.Size.{Extent}
use Rattle.vocab.specs.Study.{Question, is_sentence}
use Rattle.vocab.specs.Titled.{Titled}
use Rattle.cnf.specs.declared.derivations.Line.{Line}
use Rattle.cnf.specs.Sat.{Clause, opposite_lit, is_tautology}
use Rattle.cnf.specs.Fresh.{is_over, added_by}
use Rattle.cnf.specs.Trimmed.{is_trimmed, are_hints_trimmed}
use Rattle.meaning.specs.declared.stories.Lemma.{Lemma}
use Rattle.meaning.specs.Stories.{is_story}
use Rattle.meaning.specs.StudyClauses.{Sourced, study_clauses, clauses_for}
use Rattle.meaning.specs.Tidy.{is_tidy}
use Rattle.meaning.specs.Variables.{variable_count}
use Rattle.clause_form.proofs.OverLaws.{clauses_over}
use Rattle.lrat_check.proofs.PlainLaws.{no_pairs}
use Rattle.retell.specs.Cited.{HaveInstances}
use Rattle.retell.specs.Retold.{cited_clauses, standing_of, hints_by, lemma_of, story_of}
use Rattle.retell.specs.TrimmedProof.{IsTrimmedProof}
use Rattle.retell.proofs.LineLaws.{AreLemmasUpTo, lemmas_start, hints_here, lemmas_more, lemmas_end, added_passes, cited_pass}
use Rattle.retell.proofs.Sources.{study_sourced}
use Rattle.retell.proofs.StepLaws.{count_cited}
use Rattle.retell.proofs.Told.{are_retold}

-- a line with the clauses that it can cite, as code has them: its clause, its hints, and its lemma
pub record IsLineHere (size : Extent) (axioms : List Titled) (sources : List Sourced) (lines : List Line) (at : ℕ) (line : Line) (earlier : List Line) (clause : Clause) (hints : List ℕ) : Type 0 where
  pub trimmed : are_hints_trimmed (standing_of sources earlier) hints (map opposite_lit clause) ≡ true
  pub cited_over : list_all (is_over (variable_count size)) (cited_clauses sources earlier) ≡ true
  pub few : length (cited_clauses sources earlier) ≤ length sources + 4294967296
  pub over : is_over (variable_count size) clause ≡ true
  pub plain : is_tautology clause ≡ false
  pub lemma_is : lemma_of size axioms sources (standing_of sources earlier) clause hints ≡ lemma_of size axioms sources (standing_of sources (take at lines)) (added_by line.step) (hints_by line.step)

module _ {size : Extent} {study : Question} {chosen : List ℕ} {sources : List Sourced} {lines : List Line} (same : study.size ≡ size) (proof : IsTrimmedProof study chosen sources lines) where
  made : sources ≡ study_clauses size study.axioms chosen
  made = proof.clauses ∙ ap (λ z. study_clauses z study.axioms chosen) same

  trimmed : is_trimmed (clauses_for size study.axioms chosen) lines ≡ true
  trimmed = subst (λ z. is_trimmed (clauses_for z study.axioms chosen) lines ≡ true) same proof.trimmed

  added_over : list_all (λ (l : Line). is_over (variable_count size) (added_by l.step)) lines ≡ true
  added_over = subst (λ z. list_all (λ (l : Line). is_over (variable_count z) (added_by l.step)) lines ≡ true) same proof.over

  pub sourced : HaveInstances size study.axioms sources
  sourced = subst (HaveInstances size study.axioms) (sym made) (study_sourced size study.axioms chosen)

  -- ---- the lemmas up to a line

  pub no_lemmas : AreLemmasUpTo size study.axioms sources lines 0 []
  no_lemmas = lemmas_start size study.axioms sources lines (subst (λ ss. is_trimmed (map (λ (s : Sourced). s.clause) ss) lines ≡ true) (sym made) trimmed)

  record HasLemmas (at : ℕ) : Type 0 where
    story : List Lemma
    lemmas : AreLemmasUpTo size study.axioms sources lines at story

  lemmas_before : (line : Line) (at : ℕ) → at ≤ length lines → HasLemmas at
  lemmas_before line zero le = record { story = []; lemmas = no_lemmas }
  lemmas_before line (suc at) le =
      let before = lemmas_before line at (omega (arith, le)) in
      let next : at + 1 ≡ suc at = omega arith in
      subst HasLemmas next (record { story = before.story ++ lemma_of size study.axioms sources (standing_of sources (take at lines)) (added_by (get_or lines at line).step) (hints_by (get_or lines at line).step) ∷ []; lemmas = lemmas_more size study.axioms sources lines at before.story before.lemmas line (omega (arith, le)) })

  module _ (sentences : list_all (is_sentence study.size) study.axioms ≡ true) where
    of_size : list_all (is_sentence size) study.axioms ≡ true
    of_size = subst (λ z. list_all (is_sentence z) study.axioms ≡ true) same sentences

    module _ (at : ℕ) (line : Line) (is : slice_get lines at ≡ Some line) where
      there : get_or lines at line ≡ line
      there = get_or_from_slice_get lines at line line is

      within : at < length lines
      within = slice_get_within lines at line is

      in_proof : IsLineHere size study.axioms sources lines at line (take at lines) (added_by line.step) (hints_by line.step)
      in_proof =
          let before = lemmas_before line at (omega (arith, within)) in
          let count = count_cited size study.axioms sources (take at lines) in
          let fewer : length (take at lines) ≡ min at (length lines) = length-take at lines in
          let few : length lines < 4294967295 = proof.few in
          record {
            trimmed = subst (λ (l : Line). are_hints_trimmed (standing_of sources (take at lines)) (hints_by l.step) (map opposite_lit (added_by l.step)) ≡ true) there (hints_here size study.axioms sources lines at before.story before.lemmas line within);
            cited_over = cited_pass (is_over (variable_count size)) sources lines at (subst (λ ss. list_all (is_over (variable_count size)) (map (λ (s : Sourced). s.clause) ss) ≡ true) (sym made) (clauses_over size study.axioms of_size chosen)) added_over;
            few = omega (arith, count, fewer, few);
            over = subst (λ (l : Line). is_over (variable_count size) (added_by l.step) ≡ true) there (added_passes (is_over (variable_count size)) lines at line within added_over);
            plain = not-true _ (subst (λ (l : Line). not (is_tautology (added_by l.step)) ≡ true) there (added_passes (λ c. not (is_tautology c)) lines at line within (no_pairs (clauses_for size study.axioms chosen) lines trimmed)));
            lemma_is = refl;
          }

      pub line_here : (earlier : List Line) (clause : Clause) (hints : List ℕ) → earlier ≡ take at lines → clause ≡ added_by line.step → hints ≡ hints_by line.step → IsLineHere size study.axioms sources lines at line earlier clause hints
      line_here earlier clause hints e f h =
          subst (λ es. IsLineHere size study.axioms sources lines at line es clause hints) (sym e)
          (subst (λ (c : Clause). IsLineHere size study.axioms sources lines at line (take at lines) c hints) (sym f)
          (subst (λ hs. IsLineHere size study.axioms sources lines at line (take at lines) (added_by line.step) hs) (sym h) in_proof))

    -- the lemmas of all lines are accepted and tidy
    pub told_right : (i : ℕ) (story : List Lemma) → AreLemmasUpTo size study.axioms sources lines i story → length lines ≤ i → (is_story study.size study.axioms chosen story ≡ true) × (is_tidy study.size study.axioms chosen story ≡ true)
    told_right i story lemmas le =
        let told : story ≡ story_of size study.axioms (study_clauses size study.axioms chosen) lines = lemmas_end size study.axioms sources lines i story lemmas le ∙ ap (λ ss. story_of size study.axioms ss lines) made in
        let right = are_retold size study.axioms of_size chosen lines trimmed added_over in
        subst (λ z. (is_story z study.axioms chosen story ≡ true) × (is_tidy z study.axioms chosen story ≡ true)) (sym same)
        (subst (λ s. (is_story size study.axioms chosen s ≡ true) × (is_tidy size study.axioms chosen s ≡ true)) (sym told) right)
