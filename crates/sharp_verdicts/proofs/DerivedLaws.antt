-- The axioms of a derived study: at each place the instance that stands there.
use Rattle.std.proofs.Common.{◌≡◌, refl, ◌∙◌, ap, ap₂, ℕ, zero, suc, ◌+◌, List, [], ◌∷◌, arith, Some, None}
use Rattle.std.specs.Prelude.{slice_get}
use Rattle.vocab.specs.Study.{Question}
use Rattle.sharp_verdicts.specs.declared.instances.Cited.{Cited}
use Rattle.sharp_verdicts.specs.Derived.{axiom_of, axioms_from}

module _ (study : Question) where
  get_from : (place : ℕ) (cs : List Cited) (i : ℕ) (c : Cited) → slice_get cs i ≡ Some c → slice_get (axioms_from study place cs) i ≡ Some (axiom_of study (place + i) c)
  get_from place [] i c e = absurd cc
  get_from place (d ∷ cs) zero c e = let same : d ≡ c = cc in let p : place ≡ place + 0 = omega arith in ap₂ (λ (q : ℕ) (x : Cited). Some (axiom_of study q x)) p same
  get_from place (d ∷ cs) (suc i) c e =
      let over : (place + 1) + i ≡ place + suc i = omega arith in
      get_from (place + 1) cs i c e ∙ ap (λ (q : ℕ). Some (axiom_of study q c)) over

  pub get_none : (place : ℕ) (cs : List Cited) (i : ℕ) → slice_get cs i ≡ None → slice_get (axioms_from study place cs) i ≡ None
  get_none place [] i e = refl
  get_none place (d ∷ cs) zero e = absurd cc
  get_none place (d ∷ cs) (suc i) e = get_none (place + 1) cs i e

  pub derived_get : (cs : List Cited) (i : ℕ) (c : Cited) → slice_get cs i ≡ Some c → slice_get (axioms_from study 0 cs) i ≡ Some (axiom_of study i c)
  derived_get cs i c e = let same : 0 + i ≡ i = omega arith in get_from 0 cs i c e ∙ ap (λ (q : ℕ). Some (axiom_of study q c)) same
