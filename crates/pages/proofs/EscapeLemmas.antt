-- Texts that are escaped.
use Rattle.std.proofs.Common.{◌≡◌, refl, ◌∙◌, ℕ, ◌==◌, Bool, true, false, if◌then◌else◌, codes, List, [], ◌∷◌}
use Rattle.std.specs.List.{flat_map, list_all}
use Rattle.std.proofs.lemmas.Bool.{and_from}
use Rattle.std.proofs.lemmas.List.Folds.{list_all-append}
use Rattle.html.specs.Escapes.{escape, escaped}
use Rattle.pages.specs.Laws.{is_plain, none_of}

-- a byte that is none of the signs, by its tests
by_tests : (b : ℕ) (also low high quote mark : Bool) → (b == 60) ≡ low → (b == 62) ≡ high → (b == 34) ≡ quote →
    (b == 39) ≡ mark →
    list_all is_plain (if also then codes "&amp;" else (if low then codes "&lt;" else (if high then codes "&gt;" else (if quote then codes "&quot;" else (if mark then codes "&#39;" else b ∷ []))))) ≡ true
by_tests b true low high quote mark e f g h = refl
by_tests b false true high quote mark e f g h = refl
by_tests b false false true quote mark e f g h = refl
by_tests b false false false true mark e f g h = refl
by_tests b false false false false true e f g h = refl
by_tests b false false false false false e f g h = and_from (is_plain b) true (rw (e, f, g, h) refl) refl

-- each byte
plain_byte : (b : ℕ) → list_all is_plain (escape b) ≡ true
plain_byte b = by_tests b (b == 38) (b == 60) (b == 62) (b == 34) (b == 39) refl refl refl refl

-- and so a text
pub plain_text : (text : List ℕ) → list_all is_plain (escaped text) ≡ true
plain_text [] = refl
plain_text (b ∷ bs) =
    list_all-append is_plain (escape b) (escaped bs)
    ∙ and_from (list_all is_plain (escape b)) (list_all is_plain (escaped bs)) (plain_byte b) (plain_text bs)
