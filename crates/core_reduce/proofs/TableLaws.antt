-- The rule of bits that satisfy the clauses of some axioms satisfies these.
use Rattle.std.proofs.Common.{◌≡◌, sym, ◌∙◌, ap, subst, ℕ, ◌+◌, ◌<◌, ◌≤◌, Bool, true, ◌&&◌, List, ◌++◌, length, arith, eqb-true}
use Rattle.std.specs.Prelude.{◌==◌, nat_lt, slice_get, slice_index}
use Rattle.std.specs.List.{list_all, flat_map}
use Rattle.std.proofs.lemmas.Bool.{and_parts}
use Rattle.std.proofs.lemmas.List.{ext_get_or}
use Rattle.std.proofs.lemmas.List.Folds.{list_all-map, list_all-append}
use Rattle.vocab.specs.declared.kinds.Sort.TheVariants.{Profile}
use Rattle.vocab.specs.Size.{Extent, sort_count, outcome_count}
use Rattle.vocab.specs.Study.{is_sentence}
use Rattle.vocab.specs.Titled.{Titled}
use Rattle.cnf.specs.Sat.{Clause, is_clause_true, is_satisfied}
use Rattle.cnf.specs.Signed.{Signed}
use Rattle.meaning.specs.declared.clauses.Origin.TheVariants.{Frame}
use Rattle.meaning.specs.Laws.{AreBitsOf}
use Rattle.meaning.specs.Space.{below}
use Rattle.meaning.specs.StudyClauses.{Sourced, clauses_of, frame_of, from_axiom, from_frame, study_clauses, clauses_for}
use Rattle.meaning.specs.Truth.{holds_of, is_axiom_true, is_rule, satisfies}
use Rattle.meaning.specs.Variables.{bits, literal_of, variable_count}
use Rattle.meaning.proofs.RuleLaws.{are_rules}
use Rattle.meaning.proofs.SpaceLaws.{all_at}
use Rattle.meaning.proofs.StoryLaws.{outcome_in_range}
use Rattle.meaning.proofs.TestLaws.{list_all-flat_map}
use Rattle.meaning.proofs.VariableLaws.{are_variables}
use Rattle.outcomes.specs.Frames.{frame_clauses}
use Rattle.outcomes.specs.OutcomeBits.{AreBitsAt}
use Rattle.outcomes.proofs.BitLaws.{variable_in, says_one_outcome}
use Rattle.core_reduce.specs.Tables.{IsTableOf}

module _ (size : Extent) (axioms : List Titled) (chosen : List ℕ) (v : ℕ → Bool) where
  -- what satisfies the clauses of a study satisfies each frame
  pub frames_satisfied : is_satisfied v (clauses_for size axioms chosen) ≡ true → (p : ℕ) → p < sort_count size Profile → is_satisfied v (frame_clauses size p) ≡ true
  frames_satisfied h p lt =
      let t : Sourced → Bool = λ s. is_clause_true v s.clause in
      let frames = flat_map (from_frame size) (below (sort_count size Profile)) in
      let rest = flat_map (λ (place : ℕ). from_axiom size place (slice_get axioms place)) chosen in
      let all : list_all t (frames ++ rest) ≡ true = sym (list_all-map (is_clause_true v) (λ (s : Sourced). s.clause) (study_clauses size axioms chosen)) ∙ h in
      let both : (list_all t frames && list_all t rest) ≡ true = sym (list_all-append t frames rest) ∙ all in
      let each : list_all (λ q. list_all t (from_frame size q)) (below (sort_count size Profile)) ≡ true = sym (list_all-flat_map t (from_frame size) (below (sort_count size Profile))) ∙ (and_parts (list_all t frames) (list_all t rest) both).0 in
      sym (list_all-map t (λ (c : Clause). record { clause = c; origin = Frame p }) (clauses_of size (frame_of size size.kind p)))
      ∙ all_at (λ q. list_all t (from_frame size q)) (sort_count size Profile) 0 p each (omega arith) (omega (arith, lt))

module _ (size : Extent) (v : ℕ → Bool) where
  -- the bits of a rule at a profile are those of its outcome
  bits_at : (table : List ℕ) → AreBitsOf size table v → (p : ℕ) → p < sort_count size Profile → AreBitsAt size p (slice_index table p) v
  bits_at table same p lt i low high =
      let s : Signed = record { variable = i; positive = true } in
      let some : 1 ≤ i = omega (arith, low) in
      let all : i ≤ variable_count size = variable_in p (sort_count size Profile) (bits size.kind size.alternatives) i lt high in
      same i some all ∙ ap (λ (q : ℕ). holds_of size (slice_index table q) (literal_of size s)) ((are_variables size).to_profile p s low high)

  pub table_satisfies : (axioms : List Titled) → list_all (is_sentence size) axioms ≡ true → (chosen : List ℕ) → list_all (λ k. nat_lt k (length axioms)) chosen ≡ true →
      is_satisfied v (clauses_for size axioms chosen) ≡ true → (table : List ℕ) → IsTableOf size v (sort_count size Profile) table → satisfies size axioms chosen table ≡ true
  table_satisfies axioms h chosen in_range sat table of =
      let found = (are_rules size axioms h chosen in_range v).0 sat in
      let rule : is_rule size found.0 ≡ true = (and_parts (is_rule size found.0) (list_all (λ k. is_axiom_true size found.0 (slice_get axioms k)) chosen) found.1).0 in
      let count : length found.0 ≡ sort_count size Profile = eqb-true (length found.0) (sort_count size Profile) (and_parts (length found.0 == sort_count size Profile) (list_all (λ o. nat_lt o (outcome_count size.kind size.alternatives)) found.0) rule).0 in
      let same : table ≡ found.0 = ext_get_or 0 table found.0 (of.count ∙ sym count) (λ p lt.
      let in_p : p < sort_count size Profile = omega (arith, lt, of.count) in
      (says_one_outcome size p in_p).one v (slice_index table p) (slice_index found.0 p) (of.in_range p in_p) (outcome_in_range size found.0 rule (let some : 0 < sort_count size Profile = omega (arith, in_p) in some) p) (of.bits p in_p) (bits_at found.0 found.2 p in_p)) in
      subst (λ (t : List ℕ). satisfies size axioms chosen t ≡ true) (sym same) found.1
