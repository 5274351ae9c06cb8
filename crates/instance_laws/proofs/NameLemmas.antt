-- The names of variables, and what they stand for.
use Rattle.std.proofs.Common.{◌≡◌, ◌≢◌, refl, sym, ap, subst, ◌∙◌, ℕ, ◌+◌, ◌<◌, ◌≤◌, ◌^◌, Bool, true, false, cond, List, [], ◌∷◌, ◌++◌, map, length, length-append, append-nil, append_assoc, slice_get, Some, true≢false, arith}
use Rattle.std.specs.Prelude.{nat_lt, slice_index}
use Rattle.std.specs.Cmp.Lexicographic.{pointwise}
use Rattle.std.specs.Fmt.{decimal}
use Rattle.std.specs.Map.{lookup}
use Rattle.std.specs.Option.{unwrap_or}
use Rattle.std.specs.Str.{bytes_eq}
use Rattle.std.proofs.lemmas.Bool.{and_parts, ltb-true, ltb-false}
use Rattle.std.proofs.lemmas.Fmt.{decimal_injective}
use Rattle.std.proofs.lemmas.List.{get_or_append_left}
use Rattle.std.proofs.lemmas.Option.{get_or_from_slice_get, slice_get-get_or, slice_get_within}
use Rattle.std.proofs.Math.Seq.{get_or-append_seam}
use Rattle.lists.proofs.TextLaws.{same_bytes, differ}
use Rattle.vocab.specs.declared.kinds.Sort.{Sort}
use Rattle.vocab.specs.declared.kinds.Sort.TheVariants.{Profile}
use Rattle.sorts.specs.NamedTruth.{Assignment, value_named}
use Rattle.instance_text.specs.Bodies.{variable_name}
use Rattle.instance_laws.specs.Laws.{with_values}

-- ---- lists

-- what stands at a place of the front stands there in the whole, and the other way round
pub front : (sorts : List Sort) (s r : Sort) (level : ℕ) → level < length sorts → slice_get (sorts ++ s ∷ []) level ≡ Some r → slice_get sorts level ≡ Some r
front sorts s r level lt at =
    slice_get-get_or sorts level Profile lt
    ∙ ap Some (sym (get_or_append_left sorts (s ∷ []) Profile level lt) ∙ get_or_from_slice_get (sorts ++ s ∷ []) level r Profile at)

last : (sorts : List Sort) (s r : Sort) → slice_get (sorts ++ s ∷ []) (length sorts) ≡ Some r → r ≡ s
last sorts s r at = sym (get_or_from_slice_get (sorts ++ s ∷ []) (length sorts) r Profile at) ∙ get_or-append_seam sorts s [] Profile

-- ---- names

-- names of different places are different
other_names : (s r : Sort) (m n : ℕ) → m < 2 ^ 64 → n < 2 ^ 64 → m ≢ n → variable_name s m ≢ variable_name r n
other_names s r m n few many other same =
    let tails : decimal m ≡ decimal n = cc in
    other (decimal_injective m n few many tails)

-- the names of the quantifiers around stand for the values of their variables
pub record Names (sorts : List Sort) (env : List ℕ) (known : Assignment) : Type 0 where
  pub many : length env ≡ length sorts
  pub stand : (level : ℕ) (s : Sort) → slice_get sorts level ≡ Some s → value_named (variable_name s (level + 1)) known ≡ slice_index env level

-- also those of one quantifier more
pub one_more : (sorts : List Sort) (env : List ℕ) (known : Assignment) → Names sorts env known → length sorts ≤ 12 → (s : Sort) (v : ℕ)
    → Names (sorts ++ s ∷ []) (env ++ v ∷ []) ((variable_name s (length sorts + 1), v) ∷ known)
one_more sorts env known names few s v = record {
  many = omega (arith, length-append env (v ∷ []), length-append sorts (s ∷ []), names.many);
  stand = stand;
}
  where
    own : List ℕ
    own = variable_name s (length sorts + 1)

    by_place : (level : ℕ) (r : Sort) → slice_get (sorts ++ s ∷ []) level ≡ Some r → (b : Bool) → nat_lt level (length sorts) ≡ b
        → value_named (variable_name r (level + 1)) ((own, v) ∷ known) ≡ slice_index (env ++ v ∷ []) level
    by_place level r at true e =
        let lt : level < length sorts = ltb-true level (length sorts) e in
        let lt_env : level < length env = omega (arith, lt, names.many) in
        let other : variable_name r (level + 1) ≢ own = other_names r s (level + 1) (length sorts + 1) (omega (arith, lt, few)) (omega (arith, few)) (λ same. absurd (omega (arith, same, lt))) in
        ap (λ (b : Bool). unwrap_or (cond b (Some v) (lookup (bytes_eq (variable_name r (level + 1))) known)) 0) (differ (variable_name r (level + 1)) own other)
        ∙ names.stand level r (front sorts s r level lt at)
        ∙ sym (get_or_append_left env (v ∷ []) 0 level lt_env)
    by_place level r at false e =
        let within : level < length (sorts ++ s ∷ []) = slice_get_within (sorts ++ s ∷ []) level r at in
        let past : length sorts ≤ level = ltb-false level (length sorts) e in
        let here : level ≡ length sorts = omega (arith, within, past, length-append sorts (s ∷ [])) in
        let sort : r ≡ s = last sorts s r (subst (λ (l : ℕ). slice_get (sorts ++ s ∷ []) l ≡ Some r) here at) in
        let name : variable_name r (level + 1) ≡ own = ap (λ (q : Sort). variable_name q (level + 1)) sort ∙ ap (λ (l : ℕ). variable_name s (l + 1)) here in
        let place : level ≡ length env = omega (arith, here, names.many) in
        ap (λ (n : List ℕ). value_named n ((own, v) ∷ known)) name
        ∙ ap (λ (b : Bool). unwrap_or (cond b (Some v) (lookup (bytes_eq own) known)) 0) (same_bytes own)
        ∙ sym (ap (slice_index (env ++ v ∷ [])) place ∙ get_or-append_seam env v [] 0)

    stand : (level : ℕ) (r : Sort) → slice_get (sorts ++ s ∷ []) level ≡ Some r → value_named (variable_name r (level + 1)) ((own, v) ∷ known) ≡ slice_index (env ++ v ∷ []) level
    stand level r at = by_place level r at (nat_lt level (length sorts)) refl

-- and those of the leading universals
pub leading : (counts : Sort → ℕ) (more : List Sort) (values : List ℕ) → pointwise nat_lt values (map counts more) ≡ true → (sorts : List Sort) (env : List ℕ) (known : Assignment)
    → Names sorts env known → length sorts + length more ≤ 12 → (place : ℕ) → place ≡ length sorts + 1 → Names (sorts ++ more) (env ++ values) (with_values place more values known)
leading counts [] [] h sorts env known names few place here =
    subst (λ (ss : List Sort). Names ss (env ++ []) known) (sym (append-nil sorts)) (subst (λ (vs : List ℕ). Names sorts vs known) (sym (append-nil env)) names)
leading counts [] (v ∷ values) h sorts env known names few place here = absurd (true≢false (sym h))
leading counts (s ∷ more) [] h sorts env known names few place here = absurd (true≢false (sym h))
leading counts (s ∷ more) (v ∷ values) h sorts env known names few place here =
    let rest : pointwise nat_lt values (map counts more) ≡ true = (and_parts (nat_lt v (counts s)) (pointwise nat_lt values (map counts more)) h).1 in
    let longer : length (sorts ++ s ∷ []) ≡ length sorts + 1 = length-append sorts (s ∷ []) in
    let within : length (sorts ++ s ∷ []) + length more ≤ 12 = omega (arith, longer, few) in
    let next : Names (sorts ++ s ∷ []) (env ++ v ∷ []) ((variable_name s place, v) ∷ known)
    = subst (λ (p : ℕ). Names (sorts ++ s ∷ []) (env ++ v ∷ []) ((variable_name s p, v) ∷ known)) (sym here) (one_more sorts env known names (omega (arith, few)) s v) in
    let place_on : place + 1 ≡ length (sorts ++ s ∷ []) + 1 = omega (arith, here, longer) in
    let all = leading counts more values rest (sorts ++ s ∷ []) (env ++ v ∷ []) ((variable_name s place, v) ∷ known) next within (place + 1) place_on in
    subst (λ (ss : List Sort). Names ss (env ++ v ∷ values) (with_values (place + 1) more values ((variable_name s place, v) ∷ known))) (append_assoc sorts (s ∷ []) more)
    (subst (λ (vs : List ℕ). Names ((sorts ++ s ∷ []) ++ more) vs (with_values (place + 1) more values ((variable_name s place, v) ∷ known))) (append_assoc env (v ∷ []) values) all)
