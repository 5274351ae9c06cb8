-- What can be evaluated under quantifiers.
use Rattle.std.proofs.Common.{sym, subst, ℕ, List, [], ◌∷◌, ◌++◌}
use Rattle.std.proofs.lemmas.List.{append_assoc, append-nil}
use Rattle.vocab.specs.declared.kinds.Sort.{Sort}
use Rattle.vocab.specs.Size.{Extent, sort_count}
use Rattle.vocab.specs.Tree.{Tree, All, Exists}
use Rattle.meaning.specs.Instances.{instance_values}
use Rattle.worlds.specs.Conditions.{IsEvaluable}
use Rattle.lanes.specs.Lanes.{AreBelow, IsEvaluableUnder, IsInside}

module _ (size : Extent) where
  pub under_part : (f g : Tree) → ((env : List ℕ) → IsEvaluable size f env → IsEvaluable size g env) → (cs env : List ℕ) → IsEvaluableUnder size cs f env → IsEvaluableUnder size cs g env
  under_part f g to [] env h = to env h
  under_part f g to (c ∷ cs) env h = λ v l. under_part f g to cs (env ++ v ∷ []) (h v l)

  pub under_all : (s : Sort) (f : Tree) (cs env : List ℕ) → IsEvaluableUnder size cs (All s f) env → IsEvaluableUnder size (cs ++ sort_count size s ∷ []) f env
  under_all s f [] env h = h.1
  under_all s f (c ∷ cs) env h = λ v l. under_all s f cs (env ++ v ∷ []) (h v l)

  pub under_some : (s : Sort) (f : Tree) (cs env : List ℕ) → IsEvaluableUnder size cs (Exists s f) env → IsEvaluableUnder size (cs ++ sort_count size s ∷ []) f env
  under_some s f [] env h = h.1
  under_some s f (c ∷ cs) env h = λ v l. under_some s f cs (env ++ v ∷ []) (h v l)

  -- at each instance
  pub inside_part : (sentence f g : Tree) (cs : List ℕ) → ((env : List ℕ) → IsEvaluable size f env → IsEvaluable size g env) → IsInside size sentence cs f → IsInside size sentence cs g
  inside_part sentence f g cs to h = λ n l. under_part f g to cs (instance_values size sentence n) (h n l)

  pub inside_all : (sentence : Tree) (s : Sort) (f : Tree) (cs : List ℕ) → IsInside size sentence cs (All s f) → IsInside size sentence (cs ++ sort_count size s ∷ []) f
  inside_all sentence s f cs h = λ n l. under_all s f cs (instance_values size sentence n) (h n l)

  pub inside_some : (sentence : Tree) (s : Sort) (f : Tree) (cs : List ℕ) → IsInside size sentence cs (Exists s f) → IsInside size sentence (cs ++ sort_count size s ∷ []) f
  inside_some sentence s f cs h = λ n l. under_some s f cs (instance_values size sentence n) (h n l)

  -- at values of those quantifiers
  pub under_at : (f : Tree) (cs vs env : List ℕ) → AreBelow vs cs → IsEvaluableUnder size cs f env → IsEvaluable size f (env ++ vs)
  under_at f [] [] env b h = subst (λ e. IsEvaluable size f e) (sym (append-nil env)) h
  under_at f [] (v ∷ vs) env b h = absurd b
  under_at f (c ∷ cs) [] env b h = absurd b
  under_at f (c ∷ cs) (v ∷ vs) env b h = subst (λ e. IsEvaluable size f e) (append_assoc env (v ∷ []) vs) (under_at f cs vs (env ++ v ∷ []) b.1 (h v b.0))
