-- Texts that are joined with a byte between each two.
use Rattle.std.proofs.Common.{◌≡◌, sym, ◌∙◌, ap, ap₂, take, ℕ, ◌<◌, List, [], ◌∷◌, ◌++◌, length, drop, arith, append_assoc}
use Rattle.std.specs.List.{join_with_byte}
use Rattle.std.proofs.lemmas.List.{append-nil}
use Rattle.std.proofs.Math.Seq.{take-append_seam}

-- each text after a bar
abbrev pub barred : List (List ℕ) → List ℕ
barred [] = []
barred (x ∷ xs) = 124 ∷ (x ++ barred xs)

pub join-cons : (x : List ℕ) (xs : List (List ℕ)) → join_with_byte 124 (x ∷ xs) ≡ x ++ barred xs
join-cons x [] = sym (append-nil x)
join-cons x (y ∷ ys) = ap (λ (zs : List ℕ). x ++ (124 ∷ zs)) (join-cons y ys)

pub join-push : (xs : List (List ℕ)) (y : List ℕ) → 0 < length xs → join_with_byte 124 (xs ++ y ∷ []) ≡ (join_with_byte 124 xs ++ 124 ∷ []) ++ y
join-push [] y h = absurd (omega arith)
join-push (x ∷ []) y h = sym (append_assoc x (124 ∷ []) y)
join-push (x ∷ z ∷ xs) y h =
    ap (λ (ys : List ℕ). x ++ (124 ∷ ys)) (join-push (z ∷ xs) y (omega arith))
    ∙ ap (λ (ys : List ℕ). x ++ ys) (sym (append_assoc (124 ∷ []) (join_with_byte 124 (z ∷ xs) ++ 124 ∷ []) y) ∙ ap (λ (ys : List ℕ). ys ++ y) (sym (append_assoc (124 ∷ []) (join_with_byte 124 (z ∷ xs)) (124 ∷ []))))
    ∙ sym (append_assoc x ((124 ∷ join_with_byte 124 (z ∷ xs)) ++ 124 ∷ []) y)
    ∙ ap (λ (ys : List ℕ). ys ++ y) (sym (append_assoc x (124 ∷ join_with_byte 124 (z ∷ xs)) (124 ∷ [])))

-- what follows texts of one length
pub after_same : (xs ys r s : List ℕ) → length xs ≡ length ys → xs ++ r ≡ ys ++ s → r ≡ s
after_same [] [] r s l e = e
after_same [] (y ∷ ys) r s l e = absurd (omega (arith, l))
after_same (x ∷ xs) [] r s l e = absurd (omega (arith, l))
after_same (x ∷ xs) (y ∷ ys) r s l e = after_same xs ys r s (omega (arith, l)) (ap (drop 1) e)

-- the texts themselves
pub front_same : (xs ys r s : List ℕ) → length xs ≡ length ys → xs ++ r ≡ ys ++ s → xs ≡ ys
front_same xs ys r s l e = sym (take-append_seam xs r) ∙ ap₂ (λ (k : ℕ) (zs : List ℕ). take k zs) l e ∙ take-append_seam ys s
