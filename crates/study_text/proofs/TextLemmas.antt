-- Items that are added one after another.
use Rattle.std.proofs.Common.{◌≡◌, ◌∙◌, ap, List, [], ◌∷◌, ◌++◌, append_assoc}

-- an item, some items, and two items
pub listed : {X : Type 0} (o0 o1 o2 o3 o4 more : List X) (first last end : X) → o0 ≡ [] → o1 ≡ o0 ++ first ∷ [] → o2 ≡ o1 ++ more → o3 ≡ o2 ++ last ∷ [] → o4 ≡ o3 ++ end ∷ []
    → o4 ≡ (first ∷ [] ++ more) ++ last ∷ end ∷ []
listed o0 o1 o2 o3 o4 more first last end none h1 h2 h3 h4 =
    h4 ∙ ap (λ l. l ++ end ∷ []) (h3 ∙ ap (λ l. l ++ last ∷ []) (h2 ∙ ap (λ l. l ++ more) (h1 ∙ ap (λ l. l ++ first ∷ []) none)))
    ∙ append_assoc (first ∷ [] ++ more) (last ∷ []) (end ∷ [])
