-- The instances of well-sorted sentences have literals of the size.
use Rattle.std.proofs.Common.{◌≡◌, refl, sym, subst, ℕ, zero, suc, ◌<◌, true, List, [], ◌∷◌, ◌++◌, map, Option, Some, None, true≢false, append_assoc, append-nil}
use Rattle.std.specs.List.{list_all}
use Rattle.std.specs.Cmp.Lexicographic.{pointwise}
use Rattle.std.specs.Prelude.{nat_lt, nat_le, slice_get}
use Rattle.std.proofs.lemmas.Bool.{and_parts, and_from}
use Rattle.vocab.specs.declared.kinds.Sort.{Sort}
use Rattle.vocab.specs.Formula.{prefix_of, body_of, quantifier_depth}
use Rattle.vocab.specs.Limits.{bases_of, instance_count}
use Rattle.vocab.specs.Size.{Extent, sort_count}
use Rattle.vocab.specs.Sorted.{is_sorted, are_of_sorts}
use Rattle.vocab.specs.Study.{is_sentence}
use Rattle.vocab.specs.Titled.{Titled}
use Rattle.vocab.specs.Tree.{Tree, All}
use Rattle.meaning.specs.Laws.{AllFacts}
use Rattle.meaning.specs.Literals.{is_literal}
use Rattle.meaning.specs.Space.{digits_of}
use Rattle.meaning.specs.StudyClauses.{instance_of}
use Rattle.meaning.proofs.DigitLaws.{are_one_to_one}
use Rattle.meaning.proofs.RangeLaws.{have_literals}

module _ (size : Extent) where
  nothing_more : (f : Tree) (sorts : List Sort) → is_sorted size sorts f ≡ true → is_sorted size (sorts ++ []) f ≡ true
  nothing_more f sorts h = subst (λ ss. is_sorted size ss f ≡ true) (sym (append-nil sorts)) h

  pub body_sorted : (f : Tree) (sorts : List Sort) → is_sorted size sorts f ≡ true → is_sorted size (sorts ++ prefix_of f) (body_of f) ≡ true
  body_sorted (All s f) sorts h = subst (λ ss. is_sorted size ss (body_of f) ≡ true) (append_assoc sorts (s ∷ []) (prefix_of f)) (body_sorted f (sorts ++ s ∷ []) h)
  body_sorted f sorts h = nothing_more f sorts h

  pub suited_from : (sorts : List Sort) (values : List ℕ) → pointwise nat_lt values (map (sort_count size) sorts) ≡ true → are_of_sorts size sorts values ≡ true
  suited_from [] [] h = refl
  suited_from [] (v ∷ values) h = absurd (true≢false (sym h))
  suited_from (s ∷ sorts) [] h = absurd (true≢false (sym h))
  suited_from (s ∷ sorts) (v ∷ values) h =
      let e = and_parts (nat_lt v (sort_count size s)) (pointwise nat_lt values (map (sort_count size) sorts)) h in and_from _ _ e.0 (suited_from sorts values e.1)

  -- the sentence of an axiom is well sorted
  abbrev pub IfSorted : Option Titled → Type 0
  IfSorted None = Unit {0}
  IfSorted (Some a) = is_sorted size [] a.sentence ≡ true

  pub sorted_at : (axioms : List Titled) (k : ℕ) → list_all (is_sentence size) axioms ≡ true → IfSorted (slice_get axioms k)
  sorted_at [] k h = tt
  sorted_at (a ∷ axioms) zero h =
      (and_parts (is_sorted size [] a.sentence) (nat_le (quantifier_depth a.sentence) 12) (and_parts (is_sentence size a) (list_all (is_sentence size) axioms) h).0).0
  sorted_at (a ∷ axioms) (suc k) h = sorted_at axioms k (and_parts (is_sentence size a) (list_all (is_sentence size) axioms) h).1

  -- the literals of an instance are literals of the size
  pub instance_literals : (sentence : Tree) → is_sorted size [] sentence ≡ true → (k : ℕ) → k < instance_count size sentence → AllFacts (λ l. is_literal size l ≡ true) (instance_of size sentence k)
  instance_literals sentence h k lt =
      let values = digits_of (bases_of size sentence) k in
      let suited = suited_from (prefix_of sentence) values ((are_one_to_one (bases_of size sentence)).digits k lt) in
      have_literals size (prefix_of sentence) values suited (body_of sentence) (body_sorted sentence [] h)
