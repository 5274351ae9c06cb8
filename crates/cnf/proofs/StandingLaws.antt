-- Clauses that stand under the ids of their places.
use Rattle.std.proofs.Common.{◌≡◌, refl, ◌∙◌, ap, ℕ, zero, suc, ◌+◌, ◌<◌, cond, List, [], ◌∷◌, arith, Some, None, eqb-true, eq-eqb}
use Rattle.std.specs.Prelude.{◌==◌, slice_get}
use Rattle.std.specs.List.{enumerate_from}
use Rattle.std.proofs.lemmas.Bool.{false_from_ne_true}
use Rattle.cnf.specs.Sat.{Clause}
use Rattle.cnf.specs.Derived.{clause_under}

-- no clause stands under an id below the first
pub none_before : (n : ℕ) (cs : List Clause) (id : ℕ) → id < n → clause_under (enumerate_from n cs) id ≡ None
none_before n [] id lt = refl
none_before n (c ∷ cs) id lt =
    ap (λ b. cond b (Some c) (clause_under (enumerate_from (n + 1) cs) id)) (false_from_ne_true (n == id) (λ h. let e = eqb-true n id h in absurd (omega (arith, e, lt))))
    ∙ none_before (n + 1) cs id (omega (arith, lt))

-- the clause of an id, by its place
pub under_place : (n : ℕ) (cs : List Clause) (j : ℕ) → clause_under (enumerate_from n cs) (n + j) ≡ slice_get cs j
under_place n [] j = refl
under_place n (c ∷ cs) zero =
    let e : n ≡ n + 0 = omega arith in
    ap (λ b. cond b (Some c) (clause_under (enumerate_from (n + 1) cs) (n + 0))) (eq-eqb n (n + 0) e)
under_place n (c ∷ cs) (suc j) =
    let e : n + suc j ≡ (n + 1) + j = omega arith in
    ap (λ b. cond b (Some c) (clause_under (enumerate_from (n + 1) cs) (n + suc j))) (false_from_ne_true (n == n + suc j) (λ h. let k = eqb-true n (n + suc j) h in absurd (omega (arith, k))))
    ∙ ap (clause_under (enumerate_from (n + 1) cs)) e
    ∙ under_place (n + 1) cs j
