-- Lists of clauses that grow by the rows of one item after another.
use Rattle.std.proofs.Common.{◌≡◌, sym, ap, ◌∙◌, ℕ, ◌+◌, ◌<◌, ◌≤◌, List, [], ◌∷◌, ◌++◌, take, drop, length, get_or, arith, inl, inr}
use Rattle.std.specs.Prelude.{sum_by}
use Rattle.std.specs.List.{flat_map}
use Rattle.std.proofs.lemmas.Grind.{flat_map-append}
use Rattle.std.proofs.lemmas.List.{append_assoc, append-nil, length-append, take_more, take-append-drop}
use Rattle.std.proofs.lemmas.List.Sums.{sum_by-append}
use Rattle.cnf.specs.Sat.{Clause}
use Rattle.cnf.specs.ClauseList.{ClauseList}
use Rattle.outcomes.specs.Frames.{with_clauses, IsFullForAll}

-- what is too much after some rows is too much with them
full_with : (list : ClauseList) (rows more whole : List Clause) (origin : ℕ) → length rows + length more ≤ length whole → sum_by length rows + sum_by length more ≤ sum_by length whole →
    IsFullForAll (with_clauses list rows origin) more → IsFullForAll list whole
full_with list rows more whole origin few short (inl h) = inl (omega (arith, few, h, length-append list.clauses rows))
full_with list rows more whole origin few short (inr h) = inr (omega (arith, short, h, sum_by-append length list.clauses rows))

-- the rows in front, and those of the first k items
module _ {X : Type 0} (front : List Clause) (f : X → List Clause) (ts : List X) where
  abbrev pub rows_to : ℕ → List Clause
  rows_to k = front ++ flat_map f (take k ts)

  rows_next : (k : ℕ) (d : X) → k < length ts → rows_to k ++ f (get_or ts k d) ≡ rows_to (k + 1)
  rows_next k d l =
      append_assoc front (flat_map f (take k ts)) (f (get_or ts k d))
      ∙ ap (λ rows. front ++ rows)
      (ap (λ rows. flat_map f (take k ts) ++ rows) (sym (append-nil (f (get_or ts k d))))
      ∙ sym (flat_map-append f (take k ts) (get_or ts k d ∷ []))
      ∙ ap (flat_map f) (sym (take_more ts k d l)))

  rows_left : (k : ℕ) → rows_to k ++ flat_map f (drop k ts) ≡ front ++ flat_map f ts
  rows_left k =
      append_assoc front (flat_map f (take k ts)) (flat_map f (drop k ts))
      ∙ ap (λ rows. front ++ rows) (sym (flat_map-append f (take k ts) (drop k ts)) ∙ ap (flat_map f) (take-append-drop k ts))

  pub full_next : (list : ClauseList) (origin k : ℕ) (d : X) → k < length ts → IsFullForAll (with_clauses list (rows_to k) origin) (f (get_or ts k d)) → IsFullForAll list (front ++ flat_map f ts)
  full_next list origin k d l h =
      let here = rows_next k d l in
      let all = rows_left (k + 1) in
      full_with list (rows_to k) (f (get_or ts k d)) (front ++ flat_map f ts) origin
      (omega (arith, ap length here, ap length all, length-append (rows_to k) (f (get_or ts k d)), length-append (rows_to (k + 1)) (flat_map f (drop (k + 1) ts))))
      (omega (arith, ap (sum_by length) here, ap (sum_by length) all, sum_by-append length (rows_to k) (f (get_or ts k d)), sum_by-append length (rows_to (k + 1)) (flat_map f (drop (k + 1) ts))))
      h
