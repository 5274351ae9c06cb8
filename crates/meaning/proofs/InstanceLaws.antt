-- A sentence is true of a rule exactly where the body of each instance is.
use Rattle.std.proofs.Common.{◌≡◌, refl, sym, ◌∙◌, ap, ap₂, subst, ℕ, ◌+◌, ◌*◌, ◌/◌, ◌%◌, ◌<◌, Bool, true, false, List, [], ◌∷◌, ◌++◌, arith, append_assoc, append-nil}
use Rattle.std.specs.List.{list_all}
use Rattle.std.proofs.lemmas.Nat.{div-mul-add, mod-mul-add, div_below, mod_below}
use Rattle.vocab.specs.Formula.{body_of}
use Rattle.vocab.specs.Size.{Extent, sort_count}
use Rattle.meaning.specs.Space.{below, digits_of}
use Rattle.meaning.specs.Truth.{is_true_at, holds}
use Rattle.meaning.specs.Instances.{is_instance_true}
use Rattle.meaning.specs.Written.{evaluate}
use Rattle.meaning.specs.StudyClauses.{instance_of}
use Rattle.meaning.proofs.SpaceLaws.{all_at, all_from}
use Rattle.meaning.proofs.TestLaws.{list_all-ext}
use Rattle.meaning.proofs.WrittenLaws.{truth_written}
use Rattle.vocab.specs.Tree.{Tree, All}
use Rattle.vocab.specs.Range.{product}
use Rattle.vocab.specs.Limits.{bases_of, instance_count}
use Rattle.meaning.proofs.DigitLaws.{positive_right}
use lib.Arith.{digits_lt}

-- two tests are the same, where each follows from the other
pub same_tests : (a b : Bool) → (a ≡ true → b ≡ true) → (b ≡ true → a ≡ true) → a ≡ b
same_tests true b f g = sym (f refl)
same_tests false true f g = g refl
same_tests false false f g = refl

module _ (size : Extent) (table : List ℕ) where
  pub bodies : (f : Tree) (env : List ℕ) → is_true_at size table f env ≡ list_all (λ k. is_true_at size table (body_of f) (env ++ digits_of (bases_of size f) k)) (below (product (bases_of size f)))
  bodies (All s f) env =
      same_tests _ _
      (λ h. all_from (λ k. is_true_at size table (body_of f) (env ++ digits_of (bases_of size (All s f)) k)) (sort_count size s * product (bases_of size f)) 0 (λ k low high.
      let n = sort_count size s in
      let p = product (bases_of size f) in
      let lt : k < n * p = omega arith in
      let positive = positive_right n p k lt in
      let v = k / p in
      let in_v : v < 0 + n = omega (arith, div_below k p n positive lt) in
      let in_j : k % p < 0 + p = omega (arith, mod_below k p positive) in
      let here = all_at (λ x. is_true_at size table f (env ++ x ∷ [])) n 0 v h (omega arith) in_v in
      let inner = all_at (λ j. is_true_at size table (body_of f) ((env ++ v ∷ []) ++ digits_of (bases_of size f) j)) p 0 (k % p) (sym (bodies f (env ++ v ∷ [])) ∙ here) (omega arith) in_j in
      subst (λ e. is_true_at size table (body_of f) e ≡ true) (append_assoc env (v ∷ []) (digits_of (bases_of size f) (k % p))) inner))
      (λ h. all_from (λ x. is_true_at size table f (env ++ x ∷ [])) (sort_count size s) 0 (λ v low high.
      let n = sort_count size s in
      let p = product (bases_of size f) in
      let in_v : v < n = omega arith in
      bodies f (env ++ v ∷ []) ∙ all_from (λ j. is_true_at size table (body_of f) ((env ++ v ∷ []) ++ digits_of (bases_of size f) j)) p 0 (λ j low' high'.
      let in_j : j < p = omega arith in
      let lt : v * p + j < 0 + n * p = omega (arith, digits_lt in_v in_j) in
      let outer = all_at (λ k. is_true_at size table (body_of f) (env ++ digits_of (bases_of size (All s f)) k)) (n * p) 0 (v * p + j) h (omega arith) lt in
      let digits = ap₂ (λ (a b : ℕ). env ++ (a ∷ digits_of (bases_of size f) b)) (div-mul-add v p j in_j) (mod-mul-add v p j in_j) in
      subst (λ e. is_true_at size table (body_of f) e ≡ true) (digits ∙ sym (append_assoc env (v ∷ []) (digits_of (bases_of size f) j))) outer)))
  bodies f env = only f env
    where
      and-true : (b : Bool) → b ≡ (list_all (λ (x : Bool). x) (b ∷ []))
      and-true true = refl
      and-true false = refl

      only : (g : Tree) (e : List ℕ) → is_true_at size table g e ≡ list_all (λ (k : ℕ). is_true_at size table g (e ++ [])) (0 ∷ [])
      only g e = ap (is_true_at size table g) (sym (append-nil e)) ∙ and-true (is_true_at size table g (e ++ []))

-- the sentence itself, under no values
pub have_instances : (size : Extent) (table : List ℕ) (sentence : Tree) → is_true_at size table sentence [] ≡ list_all (is_instance_true size table sentence) (below (instance_count size sentence))
have_instances size table sentence = bodies size table sentence []

pub are_instances : (size : Extent) (table : List ℕ) (sentence : Tree) → is_true_at size table sentence [] ≡ list_all (λ k. evaluate (holds size table) (instance_of size sentence k)) (below (instance_count size sentence))
are_instances size table sentence =
    bodies size table sentence [] ∙ list_all-ext _ _ (below (instance_count size sentence)) (λ k. truth_written size table (body_of sentence) (digits_of (bases_of size sentence) k))
