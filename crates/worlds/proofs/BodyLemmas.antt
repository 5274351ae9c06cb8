-- The body of a sentence can be evaluated at values of its leading universals.
use Rattle.std.proofs.Common.{◌≡◌, sym, subst, ℕ, ◌≤◌, true, List, [], ◌∷◌, ◌++◌, arith, append_assoc, append-nil, true≢false, ltb-true, leb-true}
use Rattle.std.specs.Prelude.{nat_lt, nat_le}
use Rattle.std.specs.Cmp.Lexicographic.{pointwise}
use Rattle.std.proofs.lemmas.Bool.{and_parts}
use Rattle.vocab.specs.Formula.{body_of, quantifier_depth}
use Rattle.vocab.specs.Limits.{bases_of}
use Rattle.vocab.specs.Size.{Extent, sort_count}
use Rattle.vocab.specs.Sorted.{is_sorted}
use Rattle.vocab.specs.Tree.{Tree, Leaf, Not, Both, Either, Implies, Same, All, Exists}
use Rattle.worlds.specs.Conditions.{IsFormulaAt}
use Rattle.worlds.specs.Laws.{BodiesHaveValues}
use Rattle.worlds.proofs.ConditionLemmas.{quantified}

module _ (size : Extent) where
  -- no value more for a formula that is no universal
  as_it_is : (f : Tree) (env values : List ℕ) → pointwise nat_lt values [] ≡ true → IsFormulaAt size f env → IsFormulaAt size f (env ++ values)
  as_it_is f env [] h fits = subst (λ (e : List ℕ). IsFormulaAt size f e) (sym (append-nil env)) fits
  as_it_is f env (v ∷ values) h fits = absurd (true≢false (sym h))

  body_at : (f : Tree) (env values : List ℕ) → pointwise nat_lt values (bases_of size f) ≡ true → IsFormulaAt size f env → IsFormulaAt size (body_of f) (env ++ values)
  body_at (Leaf a) env values h fits = as_it_is (Leaf a) env values h fits
  body_at (Not f) env values h fits = as_it_is (Not f) env values h fits
  body_at (Both f g) env values h fits = as_it_is (Both f g) env values h fits
  body_at (Either f g) env values h fits = as_it_is (Either f g) env values h fits
  body_at (Implies f g) env values h fits = as_it_is (Implies f g) env values h fits
  body_at (Same f g) env values h fits = as_it_is (Same f g) env values h fits
  body_at (Exists s f) env values h fits = as_it_is (Exists s f) env values h fits
  body_at (All s f) env [] h fits = absurd (true≢false (sym h))
  body_at (All s f) env (v ∷ values) h fits =
      let p = and_parts (nat_lt v (sort_count size s)) (pointwise nat_lt values (bases_of size f)) h in
      let inner : IsFormulaAt size f (env ++ v ∷ []) = quantified size s f fits.sorts env v fits.in_range fits.sorted fits.room (ltb-true v (sort_count size s) p.0) in
      subst (λ (e : List ℕ). IsFormulaAt size (body_of f) e) (append_assoc env (v ∷ []) values) (body_at f (env ++ v ∷ []) values p.1 inner)

pub bodies : BodiesHaveValues
bodies size a h values in_range =
    let p = and_parts (is_sorted size [] a.sentence) (nat_le (quantifier_depth a.sentence) 12) h in
    let few : quantifier_depth a.sentence ≤ 12 = leb-true (quantifier_depth a.sentence) 12 p.1 in
    body_at size a.sentence [] values in_range (record { sorts = []; in_range = λ _. true; sorted = p.0; room = omega (arith, few) })
