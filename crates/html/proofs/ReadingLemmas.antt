-- What is read of texts that are escaped.
use Rattle.std.proofs.Common.{◌≡◌, refl, sym, ap, ◌∙◌, ℕ, ◌==◌, Bool, true, false, if◌then◌else◌, codes, List, [], ◌∷◌, ◌++◌, None}
use Rattle.std.proofs.lemmas.Bool.{eqb-true}
use Rattle.html.specs.Escapes.{escape, escaped, read_after, unescaped}

-- a byte that is escaped, and then a text, by the tests of the byte
by_tests : (b : ℕ) (text : List ℕ) (also low high quote mark : Bool) → (b == 38) ≡ also → (b == 60) ≡ low → (b == 62) ≡ high → (b == 34) ≡ quote → (b == 39) ≡ mark →
    read_after None ((if also then codes "&amp;" else (if low then codes "&lt;" else (if high then codes "&gt;" else (if quote then codes "&quot;" else (if mark then codes "&#39;" else b ∷ []))))) ++ text) ≡ b ∷ read_after None text
by_tests b text true low high quote mark d e f g h = ap (λ (n : ℕ). n ∷ read_after None text) (sym (eqb-true b 38 d))
by_tests b text false true high quote mark d e f g h = ap (λ (n : ℕ). n ∷ read_after None text) (sym (eqb-true b 60 e))
by_tests b text false false true quote mark d e f g h = ap (λ (n : ℕ). n ∷ read_after None text) (sym (eqb-true b 62 f))
by_tests b text false false false true mark d e f g h = ap (λ (n : ℕ). n ∷ read_after None text) (sym (eqb-true b 34 g))
by_tests b text false false false false true d e f g h = ap (λ (n : ℕ). n ∷ read_after None text) (sym (eqb-true b 39 h))
by_tests b text false false false false false d e f g h = rw d refl

-- a byte that is escaped, and then a text
read_byte : (b : ℕ) (text : List ℕ) → read_after None (escape b ++ text) ≡ b ∷ read_after None text
read_byte b text = by_tests b text (b == 38) (b == 60) (b == 62) (b == 34) (b == 39) refl refl refl refl refl

-- and so a text
pub reads_back : (text : List ℕ) → unescaped (escaped text) ≡ text
reads_back [] = refl
reads_back (b ∷ text) = read_byte b (escaped text) ∙ ap (λ (bs : List ℕ). b ∷ bs) (reads_back text)
