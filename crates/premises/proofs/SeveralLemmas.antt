-- The lemmas whose forced facts come first.
use Rattle.std.proofs.Common.{◌≡◌, ◌≢◌, refl, Bool, true, List, [], ◌∷◌, length, arith}
use Rattle.std.specs.List.{list_all}
use Rattle.meaning.specs.declared.stories.Lemma.{Lemma}
use Rattle.tellings.specs.Tellings.{several}

-- of one lemma there is none
pub one_alone : (story : List Lemma) → length story ≡ 1 → several story ≡ []
one_alone [] h = refl
one_alone (lemma ∷ []) h = refl
one_alone (lemma ∷ next ∷ rest) h = absurd (omega (arith, h))

-- else all are
pub all_of_several : (story : List Lemma) → length story ≢ 1 → several story ≡ story
all_of_several [] h = refl
all_of_several (lemma ∷ []) h = absurd (h refl)
all_of_several (lemma ∷ next ∷ rest) h = refl

-- what holds of all holds of these
pub holds_of_several : (test : Lemma → Bool) (story : List Lemma) → list_all test story ≡ true → list_all test (several story) ≡ true
holds_of_several test [] h = refl
holds_of_several test (lemma ∷ []) h = refl
holds_of_several test (lemma ∷ next ∷ rest) h = h
