-- What is answered to a whole text, by the pieces between its line ends.
use Rattle.std.proofs.Common.{◌≡◌, ◌≢◌, refl, sym, ap, ◌∙◌, ℕ, ◌+◌, ◌<◌, ◌≤◌, ◌↔◌, inl, inr, Bool, true, false, List, [], ◌∷◌, ◌++◌, length, take, arith, cond, append-nil, append_assoc, length-append, lt-ltb, le-ltb}
use Rattle.std.specs.Prelude.{◌==◌}
use Rattle.std.specs.List.{list_all, join_with_byte, onto_first}
use Rattle.std.proofs.lemmas.Bool.{cases_lt}
use Rattle.std.proofs.lemmas.List.Splits.{join_with_byte-slice_split, length-slice_split, slice_split-cons_no}
use Rattle.verdicts.specs.FirstFault.{Told, Good, Refused, Judgement, Confirmed, beyond}
use Rattle.verdicts.specs.Judge.{has_no_end, ended, pieces, front, final, answered, answered_within}
use Rattle.verdicts.proofs.WordLaws.{split_ended}

-- ---- the pieces of a text

pub front_snoc : (xs : List (List ℕ)) (y : List ℕ) → front (xs ++ y ∷ []) ≡ xs
front_snoc [] y = refl
front_snoc (x ∷ []) y = refl
front_snoc (x ∷ z ∷ xs) y = ap (λ ws. x ∷ ws) (front_snoc (z ∷ xs) y)

front_more : (xs : List (List ℕ)) (q y : List ℕ) (ys : List (List ℕ)) → front (xs ++ q ∷ y ∷ ys) ≡ xs ++ q ∷ front (y ∷ ys)
front_more [] q y ys = refl
front_more (x ∷ []) q y ys = refl
front_more (x ∷ z ∷ xs) q y ys = ap (λ ws. x ∷ ws) (front_more (z ∷ xs) q y ys)

final_snoc : (xs : List (List ℕ)) (y : List ℕ) → final (xs ++ y ∷ []) ≡ y
final_snoc [] y = refl
final_snoc (x ∷ []) y = refl
final_snoc (x ∷ z ∷ xs) y = final_snoc (z ∷ xs) y

joined_pieces : (ps : List (List ℕ)) → 0 < length ps → join_with_byte 10 ps ≡ ended (front ps) ++ final ps
joined_pieces [] h = absurd (omega (arith, h))
joined_pieces (x ∷ []) h = refl
joined_pieces (x ∷ y ∷ ps) h =
    ap (λ l. x ++ 10 ∷ l) (joined_pieces (y ∷ ps) (omega arith))
    ∙ sym (append_assoc x (10 ∷ []) (ended (front (y ∷ ps)) ++ final (y ∷ ps)))
    ∙ sym (append_assoc (x ++ 10 ∷ []) (ended (front (y ∷ ps))) (final (y ∷ ps)))

text_pieces : (text : List ℕ) → text ≡ ended (front (pieces text)) ++ final (pieces text)
text_pieces text = sym (join_with_byte-slice_split 10 text) ∙ joined_pieces (pieces text) (omega (arith, length-slice_split (λ b. b == 10) text))

-- a text whose last piece is empty is that of its lines
pub whole_pieces : (text : List ℕ) → final (pieces text) ≡ [] → text ≡ ended (front (pieces text))
whole_pieces text none = text_pieces text ∙ ap (λ rest. ended (front (pieces text)) ++ rest) none ∙ append-nil (ended (front (pieces text)))

pub ended_pieces : (lines : List (List ℕ)) → list_all has_no_end lines ≡ true → pieces (ended lines) ≡ lines ++ [] ∷ []
ended_pieces lines h = ap pieces (sym (append-nil (ended lines))) ∙ split_ended 10 lines [] h

-- a text with one piece is that piece
one_piece : (text q : List ℕ) → pieces text ≡ q ∷ [] → text ≡ q
one_piece text q e = sym (join_with_byte-slice_split 10 text) ∙ ap (join_with_byte 10) e

no_piece : (text : List ℕ) → pieces text ≡ [] → ⊥
no_piece text e = omega (arith, length-slice_split (λ b. b == 10) text, ap length e)

-- where lines end, nothing stands after others unless lines do
pub only_piece : (rest : List ℕ) (xs ys ps : List (List ℕ)) → pieces rest ≡ ps → xs ++ ps ≡ ys ++ [] ∷ [] → (xs ++ front ps ≡ ys → front ps ≡ []) → rest ≡ []
only_piece rest xs ys [] e f more = absurd (no_piece rest e)
only_piece rest xs ys (q ∷ []) e f more = one_piece rest q e ∙ sym (final_snoc xs q) ∙ ap final f ∙ final_snoc ys []
only_piece rest xs ys (q ∷ y ∷ ps) e f more = absurd (cons_none q (front (y ∷ ps)) (more (sym (front_more xs q y ps) ∙ ap front f ∙ front_snoc ys [])))
  where
    cons_none : (q : List ℕ) (qs : List (List ℕ)) → q ∷ qs ≡ [] → ⊥
    cons_none q qs e = cc

-- what stands after a text goes on its last piece
pieces_append : (text rest : List ℕ) → pieces (text ++ rest) ≡ front (pieces text) ++ pieces (final (pieces text) ++ rest)
pieces_append [] rest = refl
pieces_append (b ∷ text) rest = by_test (b == 10) refl (pieces text) (omega (arith, length-slice_split (λ b. b == 10) text)) (pieces_append text rest)
  where
    by_test : (c : Bool) → (b == 10) ≡ c → (ps : List (List ℕ)) → 0 < length ps → pieces (text ++ rest) ≡ front ps ++ pieces (final ps ++ rest) →
        cond c ([] ∷ pieces (text ++ rest)) (onto_first b (pieces (text ++ rest))) ≡ front (cond c ([] ∷ ps) (onto_first b ps)) ++ pieces (final (cond c ([] ∷ ps) (onto_first b ps)) ++ rest)
    by_test c e [] some h = absurd (omega (arith, some))
    by_test true e (x ∷ ps) some h = ap (λ qs. [] ∷ qs) h
    by_test false e (x ∷ []) some h = ap (onto_first b) h ∙ sym (slice_split-cons_no (λ b. b == 10) b (x ++ rest) e)
    by_test false e (x ∷ y ∷ ps) some h = ap (onto_first b) h

-- lines that are cut before their end: some of them, and at least one more
pub cut_lines : (text rest : List ℕ) (lines : List (List ℕ)) → pieces (text ++ rest) ≡ lines ++ [] ∷ [] → rest ≢ []
    → (line : List ℕ) × (more : List (List ℕ)) × (lines ≡ front (pieces text) ++ line ∷ more)
cut_lines text rest lines whole some = by_rest (pieces (final (pieces text) ++ rest)) refl
  where
    all : (qs : List (List ℕ)) → pieces (final (pieces text) ++ rest) ≡ qs → front (pieces text) ++ qs ≡ lines ++ [] ∷ []
    all qs e = sym (pieces_append text rest ∙ ap (λ ps. front (pieces text) ++ ps) e) ∙ whole

    right_empty : (xs ys : List ℕ) → xs ++ ys ≡ [] → ys ≡ []
    right_empty [] ys e = e
    right_empty (x ∷ xs) ys e = absurd (cc)

    by_rest : (qs : List (List ℕ)) → pieces (final (pieces text) ++ rest) ≡ qs → (line : List ℕ) × (more : List (List ℕ)) × (lines ≡ front (pieces text) ++ line ∷ more)
    by_rest [] e = absurd (no_piece (final (pieces text) ++ rest) e)
    by_rest (q ∷ []) e =
        let none : q ≡ [] = sym (final_snoc (front (pieces text)) q) ∙ ap final (all (q ∷ []) e) ∙ final_snoc lines [] in
        absurd (some (right_empty (final (pieces text)) rest (one_piece (final (pieces text) ++ rest) q e ∙ none)))
    by_rest (q ∷ y ∷ ps) e = (q, front (y ∷ ps), sym (front_snoc lines []) ∙ ap front (sym (all (q ∷ y ∷ ps) e)) ∙ front_more (front (pieces text)) q y ps)

-- ---- what is answered

pub not_beyond : {S V R : Type 0} (told : Told S R) (v : V) → beyond told ≡ Confirmed v → ⊥
not_beyond (Good s) v e = cc
not_beyond (Refused n word) v e = cc

module _ {S V R : Type 0} (conclude : ℕ → List ℕ → Told S R → Judgement V R) (judge : List (List ℕ) → Told S R) where
  -- a text of lines
  pub all_answered : (text : List ℕ) (lines : List (List ℕ)) → pieces text ≡ lines ++ [] ∷ [] → answered conclude judge text ≡ conclude (length lines + 1) [] (judge lines)
  all_answered text lines e =
      ap (λ ps. conclude (length ps) (final ps) (judge (front ps))) e
      ∙ ap (λ n. conclude n (final (lines ++ [] ∷ [])) (judge (front (lines ++ [] ∷ [])))) (length-append lines ([] ∷ []))
      ∙ ap (λ rest. conclude (length lines + 1) rest (judge (front (lines ++ [] ∷ [])))) (final_snoc lines [])
      ∙ ap (λ ls. conclude (length lines + 1) [] (judge ls)) (front_snoc lines [])

  pub lines_answered : (lines : List (List ℕ)) → list_all has_no_end lines ≡ true → answered conclude judge (ended lines) ≡ conclude (length lines + 1) [] (judge lines)
  lines_answered lines h = all_answered (ended lines) lines (ended_pieces lines h)

  -- within the limit or beyond it
  pub short_within : (limit : ℕ) (text : List ℕ) → length text ≤ limit → answered_within conclude judge limit text ≡ answered conclude judge text
  short_within limit text h = ap (λ b. cond b (beyond (judge (front (pieces (take limit text))))) (answered conclude judge text)) (le-ltb limit (length text) h)

  pub long_within : (limit : ℕ) (text : List ℕ) → limit < length text → answered_within conclude judge limit text ≡ beyond (judge (front (pieces (take limit text))))
  long_within limit text h = ap (λ b. cond b (beyond (judge (front (pieces (take limit text))))) (answered conclude judge text)) (lt-ltb limit (length text) h)

  -- what has more bytes is not confirmed
  pub confirmed_within : (limit : ℕ) (text : List ℕ) (v : V) → (answered_within conclude judge limit text ≡ Confirmed v) ↔ ((length text ≤ limit) × (answered conclude judge text ≡ Confirmed v))
  confirmed_within limit text v = (
    λ e. elim (cases_lt limit (length text)) [
      | inl more ↦ absurd (not_beyond (judge (front (pieces (take limit text)))) v (sym (long_within limit text more) ∙ e))
      | inr fits ↦ (fits, sym (short_within limit text fits) ∙ e)
    ],
    λ h. short_within limit text h.0 ∙ h.1,
  )
