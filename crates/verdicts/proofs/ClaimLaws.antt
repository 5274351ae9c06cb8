-- What a confirmed report claims holds.
use Rattle.std.proofs.Common.{◌≡◌, refl, sym, subst, true≢false, eqb-true, filter, ℕ, ◌+◌, ◌≤◌, ◌↔◌, inl, inr, Bool, true, not, ◌&&◌, List, [], ◌∷◌, length, Some, arith, ltb-true}
use Rattle.std.specs.Cmp.Lexicographic.{pointwise}
use Rattle.std.specs.Prelude.{◌==◌, nat_lt, slice_get}
use Rattle.std.specs.List.{list_all, list_any}
use Rattle.std.proofs.lemmas.Bool.{and_parts, and_from, or_cases}
use Rattle.vocab.specs.Size.{IsSize}
use Rattle.vocab.specs.Study.{Question}
use Rattle.meaning.specs.declared.cores.Witness.{Witness}
use Rattle.meaning.specs.declared.cores.Witness.TheVariants.{Rule, Open}
use Rattle.meaning.specs.declared.stories.Lemma.{Lemma}
use Rattle.meaning.specs.Space.{below}
use Rattle.meaning.specs.Truth.{is_rule, is_axiom_true, satisfies}
use Rattle.meaning.specs.Stories.{is_story}
use Rattle.meaning.specs.Cores.{is_core_from, is_witness}
use Rattle.meaning.proofs.SpaceLaws.{all_at}
use Rattle.meaning.proofs.StoryLaws.{no_rule}
use Rattle.verdicts.specs.declared.verdicts.Confirmed.{Confirmed as Claim}
use Rattle.verdicts.specs.declared.verdicts.Confirmed.TheVariants.{Possible as PossibleClaim, Impossible as ImpossibleClaim}
use Rattle.verdicts.specs.declared.verdicts.Verdict.TheVariants.{Possible, Impossible, Undecided}
use Rattle.verdicts.specs.Report.{is_right}
use Rattle.verdicts.specs.Claims.{HasNoRule, claim_of, IsClaimed, IsImpossible, ClaimHolds}
use Rattle.verdicts.specs.declared.verdicts.Verdict.{Verdict}
use Rattle.verdicts.specs.FirstFault.{Confirmed}
use Rattle.verdicts.specs.Judge.{judge, conclude, answer, answer_within}
use Rattle.verdicts.specs.Laws.{is_rule_given, IsRuleConfirmed, IsImpossibilityConfirmed, IsCoreConfirmed}
use Rattle.verdicts.proofs.WholeTextLaws.{confirmed_within}
use Rattle.verdicts.proofs.JudgeLaws.{judge_sound}
use Rattle.std.proofs.lemmas.Option.{same_Some}

-- what holds of all places of a study holds of those of a core
core_from_all : (t : ℕ → Bool) (n from : ℕ) (core : List ℕ) → list_all t (below n) ≡ true → is_core_from from n core ≡ true → list_all t core ≡ true
core_from_all t n from [] h e = refl
core_from_all t n from (k ∷ core) h e =
    let p = and_parts (not (nat_lt k from) && nat_lt k n) (is_core_from (k + 1) n core) e in
    let q = and_parts (not (nat_lt k from)) (nat_lt k n) p.0 in
    and_from _ _ (all_at t n 0 k h (omega arith) (omega (arith, ltb-true k n q.1))) (core_from_all t n (k + 1) core h p.1)

-- the witness of an axiom is a rule that satisfies the others
rule_without : (study : Question) (whole core : List ℕ) (witnesses : List Witness) (k : ℕ) → pointwise (is_witness study.size study.axioms study.conflicts whole) core witnesses ≡ true → list_all is_rule_given witnesses ≡ true → list_any (λ c. c == k) core ≡ true →
    (table : List ℕ) × (satisfies study.size study.axioms (filter (λ c. not (c == k)) whole) table ≡ true)
rule_without study whole [] witnesses k h given here = absurd (true≢false (sym here))
rule_without study whole (c ∷ core) [] k h given here = absurd (true≢false (sym h))
rule_without study whole (c ∷ core) (Open limit ∷ witnesses) k h given here = absurd (true≢false (sym given))
rule_without study whole (c ∷ core) (Rule table ∷ witnesses) k h given here =
    let p = and_parts (satisfies study.size study.axioms (filter (λ d. not (d == c)) whole) table) (pointwise (is_witness study.size study.axioms study.conflicts whole) core witnesses) h in
    elim (or_cases (c == k) (list_any (λ c. c == k) core) here) [
      | inl same ↦ (table, subst (λ (j : ℕ). satisfies study.size study.axioms (filter (λ d. not (d == j)) whole) table ≡ true) (eqb-true c k same) p.0)
      | inr later ↦ rule_without study whole core witnesses k p.1 given later
    ]

-- where no rule satisfies a core, none satisfies all axioms
none_of_all : (study : Question) (core : List ℕ) → HasNoRule study core → is_core_from 0 (length study.axioms) core ≡ true → HasNoRule study (below (length study.axioms))
none_of_all study core none places table all =
    let r = and_parts (is_rule study.size table) _ all in
    none table (and_from _ _ r.0 (core_from_all (λ k. is_axiom_true study.size table (slice_get study.axioms k)) (length study.axioms) 0 core r.1 places))

module _ (study : Question) (taken : IsSize study.size) (text : List ℕ) where
  rule_holds : (table : List ℕ) → IsRuleConfirmed study text table
  rule_holds table e = (judge_sound study text (Possible table) e).right

  impossibility_holds : (core : List ℕ) (story : List Lemma) (witnesses : List Witness) → IsImpossibilityConfirmed study text core story witnesses
  impossibility_holds core story witnesses e table =
      let p = and_parts (is_story study.size study.axioms core story) _ (judge_sound study text (Impossible core story witnesses) e).right in
      let q = and_parts (is_core_from 0 (length study.axioms) core) _ p.1 in
      let none = no_rule study.size taken study.axioms core story p.0 in
      (none table, none_of_all study core none q.0 table)

  core_holds : (core : List ℕ) (story : List Lemma) (witnesses : List Witness) → IsCoreConfirmed study text core story witnesses
  core_holds core story witnesses e given k here =
      let p = and_parts (is_story study.size study.axioms core story) _ (judge_sound study text (Impossible core story witnesses) e).right in
      let q = and_parts (is_core_from 0 (length study.axioms) core) _ p.1 in
      rule_without study core core witnesses k q.1 given here

  pub claims_hold : ((table : List ℕ) → IsRuleConfirmed study text table) × ((core : List ℕ) (story : List Lemma) (witnesses : List Witness) → IsImpossibilityConfirmed study text core story witnesses × IsCoreConfirmed study text core story witnesses)
  claims_hold = (rule_holds, λ core story witnesses. (impossibility_holds core story witnesses, core_holds core story witnesses))

pub within_limit : (limit : ℕ) (study : Question) (text : List ℕ) (verdict : Verdict) → (answer_within limit study text ≡ Confirmed verdict) ↔ ((length text ≤ limit) × (answer study text ≡ Confirmed verdict))
within_limit limit study = confirmed_within conclude (judge study) limit

-- what the report of a right verdict claims holds
pub right_claims : (study : Question) → IsSize study.size → (text : List ℕ) (claim : Claim) → IsClaimed study text claim → ClaimHolds study claim
right_claims study taken text claim c = by_verdict c.verdict c.report.right c.claims
  where
    by_verdict : (v : Verdict) → is_right study v ≡ true → claim_of v ≡ Some claim → ClaimHolds study claim
    by_verdict (Possible table) right e = subst (ClaimHolds study) (same_Some PossibleClaim claim e) (table, right)
    by_verdict (Impossible core story witnesses) right e =
        let p = and_parts (is_story study.size study.axioms core story) _ right in
        let q = and_parts (is_core_from 0 (length study.axioms) core) _ p.1 in
        let none = no_rule study.size taken study.axioms core story p.0 in
        let impossible : IsImpossible study = record { core = core; places = q.0; none = none; none_for_all = none_of_all study core none q.0 } in
        subst (ClaimHolds study) (same_Some ImpossibleClaim claim e) impossible
    by_verdict Undecided right e = absurd (cc)
