-- What can be evaluated can be evaluated part by part.
use Rattle.std.proofs.Common.{ℕ, ◌+◌, ◌≤◌, List, [], ◌∷◌, ◌++◌, length, arith}
use Rattle.vocab.specs.Formula.{quantifier_depth}
use Rattle.vocab.specs.Size.{Extent}
use Rattle.vocab.specs.Tree.{Tree, Leaf, Not, Both, Either, Implies, Same, All, Exists}
use Rattle.worlds.specs.Conditions.{IsFormulaAt}
use Rattle.worlds.proofs.ConditionLemmas.{quantified, two_parts}
use Rattle.clause_form.specs.Signed.{IsSound}

module _ (size : Extent) where
  pub sound : (f : Tree) (env : List ℕ) → IsFormulaAt size f env → IsSound size f env
  sound (Leaf a) env h = h
  sound (Not f) env h = (h, sound f env (record { sorts = h.sorts; in_range = h.in_range; sorted = h.sorted; room = h.room }))
  sound (Both f g) env h = let p = two_parts size f g h.sorts env h.in_range h.sorted h.room in (h, sound f env p.0, sound g env p.1)
  sound (Either f g) env h = let p = two_parts size f g h.sorts env h.in_range h.sorted h.room in (h, sound f env p.0, sound g env p.1)
  sound (Implies f g) env h = let p = two_parts size f g h.sorts env h.in_range h.sorted h.room in (h, sound f env p.0, sound g env p.1)
  sound (Same f g) env h = let p = two_parts size f g h.sorts env h.in_range h.sorted h.room in (h, sound f env p.0, sound g env p.1)
  sound (All s f) env h = (h, (let room : length env + (quantifier_depth f + 1) ≤ 12 = h.room in omega arith), λ v lt. sound f (env ++ v ∷ []) (quantified size s f h.sorts env v h.in_range h.sorted h.room lt))
  sound (Exists s f) env h = (h, (let room : length env + (quantifier_depth f + 1) ≤ 12 = h.room in omega arith), λ v lt. sound f (env ++ v ∷ []) (quantified size s f h.sorts env v h.in_range h.sorted h.room lt))

  pub sound_here : (f : Tree) (env : List ℕ) → IsSound size f env → IsFormulaAt size f env
  sound_here (Leaf a) env h = h
  sound_here p env h = h.0
