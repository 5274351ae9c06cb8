-- The elements of sets, one alternative after another, and their names.
use Rattle.std.proofs.Common.{◌≡◌, refl, ◌∙◌, ap, ℕ, ◌+◌, ◌-◌, ◌^◌, ◌<◌, ◌≤◌, true, false, cond, List, [], ◌∷◌, ◌++◌, map, filter, arith, append-nil, leb-true, subst}
use Rattle.std.specs.List.{list_all}
use Rattle.std.specs.Prelude.{nat_le, slice_get, Some}
use Rattle.std.proofs.lemmas.List.{map-append}
use Rattle.vocab.specs.declared.kinds.Kind.TheVariants.{Sets}
use Rattle.vocab.specs.Name.{is_name}
use Rattle.vocab.specs.Size.{Extent, outcome_count}
use Rattle.vocab.proofs.Ranges.{kept-more}
use Rattle.meaning.specs.Space.{below}
use Rattle.meaning.specs.Subsets.{elements, is_element}
use Rattle.meaning.specs.Texts.{letter}
use Rattle.meaning.specs.Truth.{is_rule}
use Rattle.meaning.proofs.SpaceLaws.{all_at}
use Rattle.meaning.proofs.RuleLaws.{rule_outcome}

-- there are few sets
pub few_sets : (m : ℕ) → m ≤ 5 → 2 ^ m - 1 ≤ 31
few_sets m few = leb-true (2 ^ m - 1) 31 (all_at (λ n. nat_le (2 ^ n - 1) 31) 6 0 m refl (omega arith) (omega (arith, few)))

-- so the code of an outcome is small
pub small_outcome : (size : Extent) → size.kind ≡ Sets → size.alternatives ≤ 5 → (o : ℕ) → o < outcome_count size.kind size.alternatives → o < 31
small_outcome size sets few o in_o =
    let within = subst (λ k. o < outcome_count k size.alternatives) sets in_o in
    omega (arith, within, few_sets size.alternatives few)

-- an outcome of a rule is the code of a set
pub rule_in_range : (size : Extent) → size.kind ≡ Sets → (table : List ℕ) → is_rule size table ≡ true → (p o : ℕ) → slice_get table p ≡ Some o → o < 2 ^ size.alternatives - 1
rule_in_range size sets table rule p o at = subst (λ k. o < outcome_count k size.alternatives) sets (rule_outcome size table p o rule at)

-- the text of a set is a name
pub set_names : (m set : ℕ) → m ≤ 5 → set < 2 ^ m - 1 → is_name (map letter (elements m set)) ≡ true
set_names m set few in_set =
    all_at (λ c. is_name (map letter (elements m c))) (2 ^ m - 1) 0 set
    (all_at (λ n. list_all (λ c. is_name (map letter (elements n c))) (below (2 ^ n - 1))) 6 0 m refl (omega arith) (omega (arith, few)))
    (omega arith) (omega (arith, in_set))

-- the letters of the elements below an alternative
abbrev pub letters_below : (set x : ℕ) → List ℕ
letters_below set x = map letter (filter (is_element set) (below x))

pub one_more : (set x : ℕ) → is_element set x ≡ true → letters_below set (x + 1) ≡ letters_below set x ++ letter x ∷ []
one_more set x h =
    ap (map letter) (kept-more (is_element set) x ∙ ap (λ b. filter (is_element set) (below x) ++ cond b (x ∷ []) []) h)
    ∙ map-append letter (filter (is_element set) (below x)) (x ∷ [])

pub none_more : (set x : ℕ) → is_element set x ≡ false → letters_below set (x + 1) ≡ letters_below set x
none_more set x h =
    ap (map letter) (kept-more (is_element set) x ∙ ap (λ b. filter (is_element set) (below x) ++ cond b (x ∷ []) []) h ∙ append-nil (filter (is_element set) (below x)))
