-- Rows kept from the last to the first.
use Rattle.std.proofs.Common.{◌≡◌, refl, sym, ◌∙◌, ap, ap₂, List, [], ◌∷◌, ◌++◌, map, reverse}
use Rattle.std.proofs.lemmas.List.{append-nil, map-append, reverse-append}
use Rattle.std.proofs.lemmas.Grind.{flat_map-append}
use Rattle.vocab.specs.Size.{Extent}
use Rattle.vocab.specs.declared.literals.Literal.{Literal}
use Rattle.cnf.specs.Sat.{Clause}
use Rattle.meaning.specs.Clauses.{Disjunction, joined}
use Rattle.meaning.specs.Variables.{lit_of}
use Rattle.clause_form.specs.Factors.{each_joined}
use Rattle.clause_form.specs.Wide.{numbered}

-- ---- numbered literals

pub numbered-append : (size : Extent) (xs ys : List Disjunction) → numbered size (xs ++ ys) ≡ numbered size xs ++ numbered size ys
numbered-append size xs ys = map-append (λ row. map (lit_of size) row) xs ys

numbered-prefixed : (size : Extent) (c : List Literal) (ys : List Disjunction) →
    numbered size (map (λ d. c ++ d) ys) ≡ map (λ d. map (lit_of size) c ++ d) (numbered size ys)
numbered-prefixed size c [] = refl
numbered-prefixed size c (d ∷ ys) = ap₂ (λ e rest. e ∷ rest) (map-append (lit_of size) c d) (numbered-prefixed size c ys)

numbered-joined : (size : Extent) (xs ys : List Disjunction) → numbered size (joined xs ys) ≡ each_joined (numbered size xs) (numbered size ys)
numbered-joined size [] ys = refl
numbered-joined size (c ∷ xs) ys =
    numbered-append size (map (λ d. c ++ d) ys) (joined xs ys) ∙ ap₂ (λ a b. a ++ b) (numbered-prefixed size c ys) (numbered-joined size xs ys)

-- ---- from the last to the first

reverse-map : (c : Clause) (ys : List Clause) → reverse (map (λ d. c ++ d) ys) ≡ map (λ d. c ++ d) (reverse ys)
reverse-map c [] = refl
reverse-map c (d ∷ ys) =
    reverse-append ((c ++ d) ∷ []) (map (λ e. c ++ e) ys)
    ∙ ap (λ r. r ++ (c ++ d) ∷ []) (reverse-map c ys)
    ∙ sym (map-append (λ e. c ++ e) (reverse ys) (d ∷ []))
    ∙ ap (λ r. map (λ e. c ++ e) r) (sym (reverse-append (d ∷ []) ys))

reverse-each : (xs ys : List Clause) → reverse (each_joined xs ys) ≡ each_joined (reverse xs) (reverse ys)
reverse-each [] ys = refl
reverse-each (c ∷ xs) ys =
    reverse-append (map (λ d. c ++ d) ys) (each_joined xs ys)
    ∙ ap₂ (λ a b. a ++ b) (reverse-each xs ys) (reverse-map c ys)
    ∙ ap (λ r. each_joined (reverse xs) (reverse ys) ++ r) (sym (append-nil (map (λ d. c ++ d) (reverse ys))))
    ∙ sym (flat_map-append (λ e. map (λ d. e ++ d) (reverse ys)) (reverse xs) (c ∷ []))
    ∙ ap (λ r. each_joined r (reverse ys)) (sym (reverse-append (c ∷ []) xs))

pub rows_append : (size : Extent) (xs ys : List Disjunction) → reverse (numbered size ys) ++ reverse (numbered size xs) ≡ reverse (numbered size (xs ++ ys))
rows_append size xs ys = sym (ap reverse (numbered-append size xs ys) ∙ reverse-append (numbered size xs) (numbered size ys))

pub rows_joined : (size : Extent) (xs ys : List Disjunction) → each_joined (reverse (numbered size xs)) (reverse (numbered size ys)) ≡ reverse (numbered size (joined xs ys))
rows_joined size xs ys = sym (ap reverse (numbered-joined size xs ys) ∙ reverse-each (numbered size xs) (numbered size ys))
