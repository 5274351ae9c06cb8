-- Clauses joined with clauses, and with literals that stand before them all.
use Rattle.std.proofs.Common.{◌≡◌, refl, sym, ◌∙◌, ap, ap₂, List, [], ◌∷◌, ◌++◌, reverse, length, arith, append_assoc}
use Rattle.std.specs.Prelude.{slice_index_or}
use Rattle.std.proofs.lemmas.List.{append-nil, map-append, reverse-append, reverse-reverse}
use Rattle.cnf.specs.Sat.{Clause}
use Rattle.cnf.specs.Signed.{Signed}
use Rattle.clause_form.specs.Factors.{each_joined, prefixed}

pub prefixed-none : (cs : List Clause) → prefixed [] cs ≡ cs
prefixed-none [] = refl
prefixed-none (c ∷ cs) = ap (λ ds. c ∷ ds) (prefixed-none cs)

pub prefixed-twice : (a b : Clause) (cs : List Clause) → prefixed a (prefixed b cs) ≡ prefixed (a ++ b) cs
prefixed-twice a b [] = refl
prefixed-twice a b (c ∷ cs) = ap₂ (λ d ds. d ∷ ds) (sym (append_assoc a b c)) (prefixed-twice a b cs)

pub prefixed-each : (a : Clause) (xs ys : List Clause) → prefixed a (each_joined xs ys) ≡ each_joined (prefixed a xs) ys
prefixed-each a [] ys = refl
prefixed-each a (c ∷ xs) ys =
    map-append (λ d. a ++ d) (prefixed c ys) (each_joined xs ys) ∙ ap₂ (λ u v. u ++ v) (prefixed-twice a c ys) (prefixed-each a xs ys)

-- no literals
pub prefixed-empty : (p : Clause) (cs : List Clause) → length p ≡ 0 → prefixed (reverse p) cs ≡ cs
prefixed-empty [] cs h = prefixed-none cs
prefixed-empty (l ∷ p) cs h = absurd (omega arith)

-- one clause
only : (cs : List Clause) → length cs ≡ 1 → cs ≡ slice_index_or cs 0 [] ∷ []
only [] h = absurd (omega arith)
only (c ∷ []) h = refl
only (c ∷ d ∷ cs) h = absurd (omega arith)

-- literals that are kept from the last to the first, after those of one clause
pub each-one : (a b p : Clause) (xs ys : List Clause) → length xs ≡ 1 → p ≡ (b ++ reverse (slice_index_or xs 0 [])) ++ a →
    prefixed (reverse p) ys ≡ each_joined (prefixed (reverse a) xs) (prefixed (reverse b) ys)
each-one a b p xs ys h e =
    let c = slice_index_or xs 0 [] in
    let order : reverse p ≡ (reverse a ++ c) ++ reverse b =
    ap reverse e ∙ reverse-append (b ++ reverse c) a ∙ ap (λ r. reverse a ++ r) (reverse-append b (reverse c) ∙ ap (λ r. r ++ reverse b) (reverse-reverse c)) ∙ sym (append_assoc (reverse a) c (reverse b)) in
    ap (λ r. prefixed r ys) order
    ∙ sym (prefixed-twice (reverse a ++ c) (reverse b) ys)
    ∙ sym (append-nil (prefixed (reverse a ++ c) (prefixed (reverse b) ys)))
    ∙ ap (λ us. each_joined (prefixed (reverse a) us) (prefixed (reverse b) ys)) (sym (only xs h))

-- one literal more before all clauses
pub after-literal : (l : Signed) (p q : Clause) (cs ds : List Clause) → q ≡ p ++ l ∷ [] → prefixed (reverse p) cs ≡ ds → prefixed (reverse q) cs ≡ each_joined ((l ∷ []) ∷ []) ds
after-literal l p q cs ds e h =
    ap (λ r. prefixed r cs) (ap reverse e ∙ reverse-append p (l ∷ []))
    ∙ sym (prefixed-twice (l ∷ []) (reverse p) cs)
    ∙ ap (prefixed (l ∷ [])) h
    ∙ sym (append-nil (prefixed (l ∷ []) ds))
