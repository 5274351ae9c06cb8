-- The title of a sharp text: a text has it exactly where its first line that ends is it.
use mathlib.Core.Bool.{and-false}
use Rattle.std.proofs.Common.{◌≡◌, refl, sym, ap, ◌∙◌, ℕ, suc, ◌<◌, ◌≤◌, inl, inr, Bool, true, false, true≢false, not, List, [], ◌∷◌, ◌++◌, length, take, arith, cond}
use Rattle.std.proofs.lemmas.Bool.{and_parts, cases_Bool, cases_lt, eqb-true, not-true}
use Rattle.std.proofs.lemmas.Slice.Eq.{bytes_eq-Decides}
use Rattle.std.specs.List.{onto_first}
use Rattle.std.specs.Prelude.{◌==◌, ◌&&◌, codes}
use Rattle.std.specs.Str.{bytes_eq}
use Rattle.verdicts.specs.Judge.{has_no_end, pieces, front}
use Rattle.sharp_verdicts.specs.Judged.{sharp_title, has_sharp_title}
use Rattle.report_files.specs.Lines.{has_title}
use Rattle.report_files.specs.Pieces.{head_of}
use Rattle.report_files.proofs.PieceLemmas.{IsSome, some_pieces, front_more}
use Rattle.std.proofs.lemmas.List.{length-take-le, take_all, take-append-le}

-- ---- texts that differ

-- of another number of bytes
differ_by_length : (xs ys : List ℕ) → length ys < length xs → bytes_eq xs ys ≡ false
differ_by_length xs ys longer = elim (cases_Bool (bytes_eq xs ys)) [
  | inl same ↦
      let count : length xs ≡ length ys = ap length ((bytes_eq-Decides xs ys).0 same) in
      absurd (let bad : ⊥ = omega (arith, count, longer) in bad)
  | inr other ↦ other
]

-- the front of a line tells whether it is the title
pub head_title : (line : List ℕ) → bytes_eq (head_of line) (codes "bench sharp 1") ≡ bytes_eq line (codes "bench sharp 1")
head_title line = elim (cases_lt 4096 (length line)) [
  | inl long ↦
      let cut : length (head_of line) ≡ 4097 = length-take-le 4097 line (omega (arith, long)) in
      differ_by_length (head_of line) (codes "bench sharp 1") (omega (arith, cut))
      ∙ sym (differ_by_length line (codes "bench sharp 1") (omega (arith, long)))
  | inr short ↦ ap (λ t. bytes_eq t (codes "bench sharp 1")) (take_all 4097 line (omega (arith, short)))
]

-- ---- the first piece

-- the first piece is this line, and it has ended
abbrev first_is : List ℕ → List (List ℕ) → Bool
first_is t [] = false
first_is t (p ∷ []) = false
first_is t (p ∷ q ∷ ps) = bytes_eq p t

-- the first bytes of a text are a line with its line end exactly where that is its first line that ends
first_told : (t text : List ℕ) → has_no_end t ≡ true → bytes_eq (take (suc (length t)) text) (t ++ 10 ∷ []) ≡ first_is t (pieces text)
first_told [] [] h = refl
first_told [] (b ∷ text) h = by_test (b == 10)
  where
    by_some : (ps : List (List ℕ)) → IsSome ps → true ≡ first_is [] ([] ∷ ps)
    by_some [] i = absurd i
    by_some (p ∷ ps) i = refl

    by_pieces : (ps : List (List ℕ)) → false ≡ first_is [] (onto_first b ps)
    by_pieces [] = refl
    by_pieces (p ∷ []) = refl
    by_pieces (p ∷ q ∷ ps) = refl

    by_test : (x : Bool) → (x && true) ≡ first_is [] (cond x ([] ∷ pieces text) (onto_first b (pieces text)))
    by_test true = by_some (pieces text) (some_pieces text)
    by_test false = by_pieces (pieces text)
first_told (c ∷ t) [] h = refl
first_told (c ∷ t) (b ∷ text) h =
    let p = and_parts (not (c == 10)) (has_no_end t) h in
    by_test (b == 10) refl (not-true (c == 10) p.0) (first_told t text p.1)
  where
    by_pieces : (m : Bool) (ps : List (List ℕ)) → m ≡ first_is t ps → ((b == c) && m) ≡ first_is (c ∷ t) (onto_first b ps)
    by_pieces m [] e = ap (λ x. (b == c) && x) e ∙ and-false (b == c)
    by_pieces m (p ∷ []) e = ap (λ x. (b == c) && x) e ∙ and-false (b == c)
    by_pieces m (p ∷ q ∷ ps) e = ap (λ x. (b == c) && x) e

    by_none : (ps : List (List ℕ)) → false ≡ first_is (c ∷ t) ([] ∷ ps)
    by_none [] = refl
    by_none (p ∷ ps) = refl

    no_same : b ≡ 10 → (c == 10) ≡ false → (b == c) ≡ false
    no_same e no_end = elim (cases_Bool (b == c)) [
      | inl same ↦ absurd (true≢false (ap (λ n. n == 10) (sym e ∙ eqb-true b c same) ∙ no_end))
      | inr other ↦ other
    ]

    by_test : (x : Bool) → (b == 10) ≡ x → (c == 10) ≡ false → bytes_eq (take (suc (length t)) text) (t ++ 10 ∷ []) ≡ first_is t (pieces text)
        → ((b == c) && bytes_eq (take (suc (length t)) text) (t ++ 10 ∷ [])) ≡ first_is (c ∷ t) (cond x ([] ∷ pieces text) (onto_first b (pieces text)))
    by_test true e no_end ih =
        ap (λ x. x && bytes_eq (take (suc (length t)) text) (t ++ 10 ∷ [])) (no_same (eqb-true b 10 e) no_end) ∙ by_none (pieces text)
    by_test false e no_end ih = by_pieces (bytes_eq (take (suc (length t)) text) (t ++ 10 ∷ [])) (pieces text) ih

-- ---- the title

-- a text has the title of a sharp text where it is the first of its lines that have ended
pub title_told : (text : List ℕ) → has_sharp_title text ≡ has_title (front (pieces text))
title_told text = first_told (codes "bench sharp 1") text refl ∙ by_pieces (pieces text)
  where
    by_pieces : (ps : List (List ℕ)) → first_is (codes "bench sharp 1") ps ≡ has_title (front ps)
    by_pieces [] = refl
    by_pieces (p ∷ []) = refl
    by_pieces (p ∷ q ∷ ps) = refl

-- enough bytes of a text tell whether it has the title
pub title_within : (bytes rest : List ℕ) → 14 ≤ length bytes → has_sharp_title (bytes ++ rest) ≡ has_sharp_title bytes
title_within bytes rest h = ap (λ t. bytes_eq t sharp_title) (take-append-le 14 bytes rest h)

-- and so does a first line that has ended
pub title_after : (bytes rest : List ℕ) (line : List ℕ) (lines : List (List ℕ)) → front (pieces bytes) ≡ line ∷ lines → has_sharp_title (bytes ++ rest) ≡ has_title (front (pieces bytes))
title_after bytes rest line lines e =
    let f = front_more bytes rest in
    title_told (bytes ++ rest) ∙ ap has_title (f.1 ∙ ap (λ ls. ls ++ f.0) e) ∙ sym (ap has_title e)
