-- The clauses of one instance more.
use Rattle.std.proofs.Common.{◌≡◌, ◌≤◌, ℕ, zero, suc, ◌+◌, ◌-◌, List, [], ◌∷◌, ◌++◌, filter, map, not, refl, sym, ap, ◌∙◌, arith, append-nil}
use Rattle.std.specs.List.{flat_map}
use Rattle.std.proofs.lemmas.Grind.{flat_map-append}
use Rattle.vocab.specs.Range.{up_from}
use Rattle.vocab.specs.Size.{Extent}
use Rattle.cnf.specs.Sat.{is_tautology}
use Rattle.meaning.specs.Clauses.{Disjunction}
use Rattle.meaning.specs.StudyClauses.{clauses_of, sorted}
use Rattle.meaning.specs.Variables.{lit_of}
use Rattle.clause_form.specs.Wide.{numbered}
use Rattle.grounding.specs.Distinct.{plain_rows}
use Rattle.grounding.specs.Pieces.{rows_from}

sorted_numbered : (size : Extent) (rows : List Disjunction) → map sorted (numbered size rows) ≡ map (λ row. sorted (map (lit_of size) row)) rows
sorted_numbered size [] = refl
sorted_numbered size (row ∷ rows) = ap (λ cs. sorted (map (lit_of size) row) ∷ cs) (sorted_numbered size rows)

pub plain_numbered : (size : Extent) (rows : List Disjunction) → plain_rows (numbered size rows) ≡ clauses_of size rows
plain_numbered size rows = ap (filter (λ c. not (is_tautology c))) (sorted_numbered size rows)

up_from-add : (i m n : ℕ) → up_from i (m + n) ≡ up_from i m ++ up_from (i + m) n
up_from-add i zero n = rw (let z : 0 + n ≡ n = omega arith in z) (ap (λ j. up_from j n) (let e : i ≡ i + 0 = omega arith in e))
up_from-add i (suc m) n =
    rw (let e : suc m + n ≡ suc (m + n) = omega arith in e)
    (ap (λ r. i ∷ r) (up_from-add (suc i) m n ∙ ap (λ j. up_from (suc i) m ++ up_from j n) (let e : suc i + m ≡ i + suc m = omega arith in e)))

module _ {A : Type 0} (rows : ℕ → List A) where
  pub rows_from-add : (i m n : ℕ) → rows_from rows i (m + n) ≡ rows_from rows i m ++ rows_from rows (i + m) n
  rows_from-add i m n = ap (flat_map rows) (up_from-add i m n) ∙ flat_map-append rows (up_from i m) (up_from (i + m) n)

  -- the rows of one instance more, from i up to k
  pub one_more : (i k : ℕ) (made row : List A) → i ≤ k → made ≡ rows_from rows i (k - i) → row ≡ rows k → made ++ row ≡ rows_from rows i (k + 1 - i)
  one_more i k made row h e f =
      let z : k + 1 - i ≡ k - i + 1 = omega (arith, h) in
      let j : i + (k - i) ≡ k = omega (arith, h) in
      rw z (ap (λ r. r ++ row) e ∙ ap (λ r. rows_from rows i (k - i) ++ r) (f ∙ sym (append-nil (rows k)) ∙ ap (λ n. rows_from rows n 1) (sym j)) ∙ sym (rows_from-add i (k - i) 1))
