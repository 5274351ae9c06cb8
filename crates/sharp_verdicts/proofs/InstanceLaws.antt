-- Instances that are compared, and those of a study.
use Rattle.std.proofs.Common.{◌≡◌, ap₂, ℕ, true, refl, subst, map, length, lt-ltb, eq-eqb}
use Rattle.std.specs.Prelude.{◌==◌}
use Rattle.std.proofs.lemmas.Bool.{and_parts, eqb-true, and_from}
use Rattle.sharp_verdicts.specs.declared.instances.Cited.{Cited}
use Rattle.sharp_verdicts.specs.Instances.{same_instance, all_instances, is_present, count_at}
use Rattle.vocab.specs.Study.{Question}
use Rattle.meaning.specs.Space.{below}
use Rattle.verdicts.proofs.WordLaws.{from_below}
use Rattle.lists.proofs.Members.{IsIn, in_flat_map, in_map}

pub same_is : (c d : Cited) → same_instance c d ≡ true → c ≡ d
same_is c d e =
    let p = and_parts (c.«axiom» == d.«axiom») (c.number == d.number) e in
    ap₂ (λ (k n : ℕ). record { «axiom» = k; number = n }) (eqb-true c.«axiom» d.«axiom» p.0) (eqb-true c.number d.number p.1)

pub is_same : (c d : Cited) → c ≡ d → same_instance c d ≡ true
is_same c d e = subst (λ x. same_instance c x ≡ true) e (and_from _ _ (eq-eqb c.«axiom» c.«axiom» refl) (eq-eqb c.number c.number refl))

-- each instance of a study is one
module _ (study : Question) where
  pub all_present : (c : Cited) → IsIn (all_instances study) c → is_present study c ≡ true
  all_present c i =
      let f = in_flat_map (λ k. map (λ n. at k n) (below (count_at study k))) (below (length study.axioms)) c i in
      let m = in_map (λ n. at f.0 n) (below (count_at study f.0)) c f.2 in
      let place = from_below (length study.axioms) f.0 f.1 in
      let number = from_below (count_at study f.0) m.0 m.1 in
      subst (λ (d : Cited). is_present study d ≡ true) m.2 (and_from _ _ (lt-ltb f.0 _ place) (lt-ltb m.0 _ number))
    where
      at : ℕ → ℕ → Cited
      at k n = record { «axiom» = k; number = n }
