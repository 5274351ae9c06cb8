-- The parts of the text of a map.
use Rattle.std.proofs.Common.{◌≡◌, ap, ap₂, List, ℕ, ◌++◌}
use Rattle.std.specs.Prelude.{codes}
use Rattle.vocab.specs.Study.{Question}
use Rattle.map_text.specs.MapText.{sets_text}

-- the same sets and the same ending have the same text
pub same_text : (study : Question) (front : List ℕ) (i i' p p' u u' : List (List ℕ)) (e e' : List ℕ) → i ≡ i' → p ≡ p' → u ≡ u' → e ≡ e' →
    front ++ (sets_text study (codes "impossible") i ++ (sets_text study (codes "possible") p ++ (sets_text study (codes "open") u ++ (e ++ codes "end\n"))))
    ≡ front ++ (sets_text study (codes "impossible") i' ++ (sets_text study (codes "possible") p' ++ (sets_text study (codes "open") u' ++ (e' ++ codes "end\n"))))
same_text study front i i' p p' u u' e e' hi hp hu he =
    ap₂ (λ (x y : List ℕ). front ++ (x ++ y)) (ap (sets_text study (codes "impossible")) hi)
    (ap₂ (λ (x y : List ℕ). x ++ y) (ap (sets_text study (codes "possible")) hp)
    (ap₂ (λ (x y : List ℕ). x ++ y) (ap (sets_text study (codes "open")) hu) (ap (λ (x : List ℕ). x ++ codes "end\n") he)))
