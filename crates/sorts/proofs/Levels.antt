-- Levels: the innermost quantifier of a name, counted from the outermost.
use Rattle.std.proofs.Common.{◌≡◌, refl, sym, ◌∙◌, ap, ap₂, ℕ, true, false, List, [], ◌∷◌, ◌++◌, length, length-append, cond, arith, Some}
use Rattle.std.specs.Prelude.{slice_get, slice_index}
use Rattle.std.specs.Map.{lookup}
use Rattle.std.specs.Str.{bytes_eq}
use Rattle.lists.proofs.PlaceLaws.{get_index, get_last, get_front}
use Rattle.vocab.specs.declared.kinds.Sort.{Sort}
use Rattle.sorts.specs.Scope.{Scope, sort_in, level_in, outermost_first, names_of}

-- the level of a name by the names alone
abbrev pub level_by_names : List ℕ → List (List ℕ) → ℕ
level_by_names name [] = 0
level_by_names name (n ∷ outer) = cond (bytes_eq name n) (length outer) (level_by_names name outer)

count_names : {A : Type 0} (xs : List (List ℕ × A)) → length (names_of xs) ≡ length xs
count_names [] = refl
count_names (q ∷ xs) = let inner = count_names xs in omega (arith, inner)

count_seconds : {A : Type 0} (xs : List (List ℕ × A)) → length (outermost_first xs) ≡ length xs
count_seconds [] = refl
count_seconds (q ∷ xs) = let inner = count_seconds xs in let both = length-append (outermost_first xs) (q.1 ∷ []) in omega (arith, inner, both)

pub level_is : (name : List ℕ) (scope : Scope) → level_in name scope ≡ level_by_names name (names_of scope)
level_is name [] = refl
level_is name (q ∷ outer) = ap₂ (λ a b. cond (bytes_eq name q.0) a b) (sym (count_names outer)) (level_is name outer)

-- what the first entry of a name holds stands at the level of the name
pub at_level : {A : Type 0} (name : List ℕ) (xs : List (List ℕ × A)) (v : A) → lookup (bytes_eq name) xs ≡ Some v
    → slice_get (outermost_first xs) (level_by_names name (names_of xs)) ≡ Some v
at_level name [] v h = absurd cc
at_level name (q ∷ outer) v h =
    elim (bytes_eq name q.0) as (λ b. cond b (Some q.1) (lookup (bytes_eq name) outer) ≡ Some v
    → slice_get (outermost_first outer ++ q.1 ∷ []) (cond b (length (names_of outer)) (level_by_names name (names_of outer))) ≡ Some v) [
      | true ↦ λ k. get_last (outermost_first outer) q.1 (length (names_of outer)) (count_names outer ∙ sym (count_seconds outer)) ∙ k
      | false ↦ λ k. get_front (outermost_first outer) (q.1 ∷ []) (level_by_names name (names_of outer)) v (at_level name outer v k)
    ] h

-- the sort of a bound name stands at its level
pub sort_at_level : (name : List ℕ) (scope : Scope) (s : Sort) → sort_in name scope ≡ Some s → slice_get (outermost_first scope) (level_in name scope) ≡ Some s
unfolding sort_in
sort_at_level name scope s h = ap (slice_get (outermost_first scope)) (level_is name scope) ∙ at_level name scope s h

-- a list has an entry of a name where another list of the same names has one
bound_too : {A B : Type 0} (name : List ℕ) (xs : List (List ℕ × A)) (ys : List (List ℕ × B)) (a : A) → names_of ys ≡ names_of xs → lookup (bytes_eq name) xs ≡ Some a
    → (b : B) × (lookup (bytes_eq name) ys ≡ Some b)
bound_too name [] ys a same h = absurd cc
bound_too name (p ∷ xs) [] a same h = absurd cc
bound_too {A} {B} name (p ∷ xs) (q ∷ ys) a same h =
    let head : q.0 ≡ p.0 = cc in
    let rest : names_of ys ≡ names_of xs = cc in
    elim (bytes_eq name q.0) as (λ t. bytes_eq name q.0 ≡ t → (b : B) × (cond t (Some q.1) (lookup (bytes_eq name) ys) ≡ Some b)) [
      | true ↦ λ e. (q.1, refl)
      | false ↦ λ e. bound_too name xs ys a rest (sym (ap (λ t. cond t (Some p.1) (lookup (bytes_eq name) xs)) (sym (ap (bytes_eq name) head) ∙ e)) ∙ h)
    ] refl

-- the value of a bound name stands at its level
pub value_at_level : (name : List ℕ) (scope : Scope) (s : Sort) (values : List (List ℕ × ℕ)) → names_of values ≡ names_of scope → sort_in name scope ≡ Some s
    → (v : ℕ) × (lookup (bytes_eq name) values ≡ Some v) × (slice_index (outermost_first values) (level_in name scope) ≡ v)
unfolding sort_in
value_at_level name scope s values same h =
    let found = bound_too name scope values s same h in
    let level : level_in name scope ≡ level_by_names name (names_of values) = level_is name scope ∙ ap (level_by_names name) (sym same) in
    (found.0, found.1, ap (slice_index (outermost_first values)) level ∙ get_index (outermost_first values) (level_by_names name (names_of values)) found.0 (at_level name values found.0 found.1))
