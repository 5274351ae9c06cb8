-- How uses are counted.
use Rattle.std.proofs.Common.{◌≡◌, ◌≢◌, refl, sym, ap, ◌∙◌, ℕ, zero, suc, ◌+◌, ◌<◌, ◌≤◌, List, [], ◌∷◌, ◌++◌, length, take, get_or, set, replicate, append-nil, append_assoc, arith, Some}
use Rattle.std.specs.Prelude.{slice_get}
use Rattle.std.specs.List.{flat_map}
use Rattle.vocab.specs.Range.{below}
use Rattle.vocab.proofs.Ranges.{next_below}
use Rattle.meaning.specs.declared.stories.Lemma.{Lemma}
use Rattle.tellings.specs.declared.tellings.Telling.{Telling}
use Rattle.tellings.specs.Tellings.{is_only, namings}
use Rattle.premises.specs.declared.uses.Use.{Use}
use Rattle.premises.specs.Uses.{use_of, is_once, AreNamed}

-- ---- an item of a list that is written anew

pub get_set_other : {X : Type 0} (xs : List X) (i j : ℕ) (y : X) → j ≢ i → slice_get (set xs i y) j ≡ slice_get xs j
get_set_other [] i j y other = refl
get_set_other (x ∷ xs) zero zero y other = absurd (other refl)
get_set_other (x ∷ xs) zero (suc j) y other = refl
get_set_other (x ∷ xs) (suc i) zero y other = refl
get_set_other (x ∷ xs) (suc i) (suc j) y other = get_set_other xs i j y (λ e. other (ap suc e))

pub get_set_same : {X : Type 0} (xs : List X) (i : ℕ) (y : X) → i < length xs → slice_get (set xs i y) i ≡ Some y
get_set_same [] i y lt = absurd (omega arith)
get_set_same (x ∷ xs) zero y lt = refl
get_set_same (x ∷ xs) (suc i) y lt = get_set_same xs i y (omega (arith, lt))

pub get_replicate : {X : Type 0} (n j : ℕ) (x : X) → j < n → slice_get (replicate n x) j ≡ Some x
get_replicate zero j x lt = absurd (omega arith)
get_replicate (suc n) zero x lt = refl
get_replicate (suc n) (suc j) x lt = get_replicate n j x (omega (arith, lt))

-- ---- one after another

pub named_then : (a b c : List Use) (f g h : ℕ → List ℕ) → ((j : ℕ) → f j ++ g j ≡ h j) → AreNamed a b f → AreNamed b c g → AreNamed a c h
named_then a b c f g h same first second j names e =
    second j (names ++ f j) (first j names e) ∙ ap (λ (ns : List ℕ). Some (use_of ns)) (append_assoc names (f j) (g j) ∙ ap (λ (ns : List ℕ). names ++ ns) (same j))

flat_map_suc : {X : Type 0} (f : X → List ℕ) (xs : List X) (i : ℕ) (x : X) → i < length xs → x ≡ get_or xs i x → flat_map f (take i xs) ++ f x ≡ flat_map f (take (suc i) xs)
flat_map_suc f [] i x lt is = absurd (omega arith)
flat_map_suc f (y ∷ ys) zero x lt is = ap f is ∙ sym (append-nil (f y))
flat_map_suc f (y ∷ ys) (suc i) x lt is = append_assoc (f y) (flat_map f (take i ys)) (f x) ∙ ap (λ (l : List ℕ). f y ++ l) (flat_map_suc f ys i x (omega (arith, lt)) is)

pub flat_map_more : {X : Type 0} (f : X → List ℕ) (xs : List X) (i : ℕ) (x : X) → i < length xs → x ≡ get_or xs i x → flat_map f (take i xs) ++ f x ≡ flat_map f (take (i + 1) xs)
flat_map_more f xs i x lt is = flat_map_suc f xs i x lt is ∙ ap (λ (n : ℕ). flat_map f (take n xs)) next
  where
    next : suc i ≡ i + 1
    next = omega arith

pub flat_map_whole : {X : Type 0} (f : X → List ℕ) (xs : List X) (i : ℕ) → length xs ≤ i → flat_map f (take i xs) ≡ flat_map f xs
flat_map_whole f [] zero le = refl
flat_map_whole f [] (suc i) le = refl
flat_map_whole f (x ∷ xs) zero le = absurd (omega arith)
flat_map_whole f (x ∷ xs) (suc i) le = ap (λ (l : List ℕ). f x ++ l) (flat_map_whole f xs i (omega (arith, le)))

-- one lemma more is counted
pub counted_more : (story : List Lemma) (tellings : List Telling) (old new : List Use) (place j : ℕ) (lemma : Lemma) (telling : Telling) → slice_get story place ≡ Some lemma → slice_get tellings place ≡ Some telling →
    AreNamed old new (λ j. namings j place (Some lemma) (Some telling)) →
    slice_get old j ≡ Some (use_of (flat_map (λ m. namings j m (slice_get story m) (slice_get tellings m)) (below place))) →
    slice_get new j ≡ Some (use_of (flat_map (λ m. namings j m (slice_get story m) (slice_get tellings m)) (below (place + 1))))
counted_more story tellings old new place j lemma telling at there named so_far =
    named j (flat_map of_place (below place)) so_far
    ∙ ap (λ (ns : List ℕ). Some (use_of (flat_map of_place (below place) ++ ns))) here
    ∙ ap (λ (ns : List ℕ). Some (use_of ns)) (sym (next_below of_place place))
  where
    of_place : ℕ → List ℕ
    of_place m = namings j m (slice_get story m) (slice_get tellings m)

    here : namings j place (Some lemma) (Some telling) ≡ of_place place
    here = rw (at, there) refl

-- used once, as it is counted
pub once_is : (m : ℕ) (names : List ℕ) → is_once m (use_of names) ≡ is_only m names
once_is m [] = refl
once_is m (k ∷ []) = refl
once_is m (k ∷ l ∷ ls) = refl
