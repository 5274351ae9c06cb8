-- Loops that pour the texts of items one after another.
use Rattle.std.proofs.Common.{◌≡◌, refl, sym, ap, ◌∙◌, ℕ, zero, suc, ◌+◌, ◌<◌, ◌≤◌, length, List, [], ◌∷◌, ◌++◌, take, drop, get_or, Option, Result, Ok, Err, add-one, append-nil, append_assoc, take-append-drop, drop-cons, arith}
use Rattle.std.proofs.lemmas.List.{take_more, flat_map_more}
use Rattle.std.proofs.lemmas.List.Concat.{flat_map-append}
use Rattle.std.specs.List.{flat_map}
use Rattle.std.specs.Result.{IsErr}
use Rattle.texts.specs.Page.{Pours}
use Rattle.texts.specs.Spelled.{spelled}
use Rattle.texts.proofs.PourLemmas.{Added, stops, goes_on, ends}

-- ---- each item has a text

module _ {X : Type 0} (text : X → List ℕ) where
  -- the texts of the items up to one, and of that one
  one_more : (xs : List X) (i : ℕ) (d : X) → i < length xs → flat_map text (take (i + 1) xs) ≡ flat_map text (take i xs) ++ text (get_or xs i d)
  one_more xs i d within = ap (flat_map text) (take_more xs i d within) ∙ sym (flat_map_more text [] (take i xs) (get_or xs i d))

  -- and of those after it
  parts : (xs : List X) (i : ℕ) (d : X) → i < length xs → flat_map text xs ≡ flat_map text (take i xs) ++ (text (get_or xs i d) ++ flat_map text (drop (suc i) xs))
  parts xs i d within =
      ap (flat_map text) (sym (take-append-drop i xs))
      ∙ flat_map-append text (take i xs) (drop i xs)
      ∙ ap (λ (rest : List X). flat_map text (take i xs) ++ flat_map text rest) (drop-cons xs i d within)

  module _ {T E : Type 0} (xs : List X) (i : ℕ) (d : X) (t t' : Option (List ℕ)) (h h' : List ℕ) (f f' : ℕ) (so_far : Added t t' h h' f f' (flat_map text (take i xs))) where
    -- the item at a place was not added whole
    pub loop_stops : {T' : Type 0} (t'' : Option (List ℕ)) (h'' : List ℕ) (f'' : ℕ) (e : E) (r : Result T E) (b : List ℕ) → i < length xs → b ≡ text (get_or xs i d) → IsErr r → Pours {T = T'} {E = E} t' t'' h' h'' f' f'' (Err e) b
        → Pours t t'' h h'' f f'' r (flat_map text xs)
    loop_stops t'' h'' f'' e r b within is =
        stops t t' h h' f f' (flat_map text (take i xs)) so_far t'' h'' f'' e r b (flat_map text (drop (suc i) xs)) (flat_map text xs)
        (parts xs i d within ∙ ap (λ (here : List ℕ). flat_map text (take i xs) ++ (here ++ flat_map text (drop (suc i) xs))) (sym is))

    -- it was
    pub loop_goes_on : (t'' : Option (List ℕ)) (h'' : List ℕ) (f'' : ℕ) (x : T) (b : List ℕ) → i < length xs → b ≡ text (get_or xs i d) → Pours {T = T} {E = E} t' t'' h' h'' f' f'' (Ok x) b → Added t t'' h h'' f f'' (flat_map text (take (i + 1) xs))
    loop_goes_on t'' h'' f'' x b within is =
        goes_on t t' h h' f f' (flat_map text (take i xs)) so_far t'' h'' f'' x b (flat_map text (take (i + 1) xs))
        (ap (λ (here : List ℕ). flat_map text (take i xs) ++ here) is ∙ sym (one_more xs i d within))

-- ---- each item has a text by its number

module _ {X : Type 0} (text : ℕ → X → List ℕ) where
  spelled_one_more : (xs : List X) (n i : ℕ) (d : X) → i < length xs → spelled text n (take (suc i) xs) ≡ spelled text n (take i xs) ++ text (n + i) (get_or xs i d)
  spelled_one_more [] n i d h = absurd (omega arith)
  spelled_one_more (x ∷ xs) n zero d h = append-nil (text n x) ∙ ap (λ k. text k x) here
    where
      here : n ≡ n + 0
      here = omega arith
  spelled_one_more (x ∷ xs) n (suc i) d h =
      ap (λ rest. text n x ++ rest) (spelled_one_more xs (n + 1) i d (omega arith))
      ∙ sym (append_assoc (text n x) (spelled text (n + 1) (take i xs)) (text (n + 1 + i) (get_or xs i d)))
      ∙ ap (λ k. (text n x ++ spelled text (n + 1) (take i xs)) ++ text k (get_or xs i d)) here
    where
      here : n + 1 + i ≡ n + suc i
      here = omega arith

  spelled_parts : (xs : List X) (n i : ℕ) (d : X) → i < length xs → spelled text n xs ≡ spelled text n (take i xs) ++ (text (n + i) (get_or xs i d) ++ spelled text (n + i + 1) (drop (suc i) xs))
  spelled_parts [] n i d h = absurd (omega arith)
  spelled_parts (x ∷ xs) n zero d h = ap (λ k. text k x ++ spelled text (k + 1) xs) here
    where
      here : n ≡ n + 0
      here = omega arith
  spelled_parts (x ∷ xs) n (suc i) d h =
      ap (λ rest. text n x ++ rest) (spelled_parts xs (n + 1) i d (omega arith))
      ∙ sym (append_assoc (text n x) (spelled text (n + 1) (take i xs)) (text (n + 1 + i) (get_or xs i d) ++ spelled text (n + 1 + i + 1) (drop (suc i) xs)))
      ∙ ap (λ k. (text n x ++ spelled text (n + 1) (take i xs)) ++ (text k (get_or xs i d) ++ spelled text (k + 1) (drop (suc i) xs))) here
    where
      here : n + 1 + i ≡ n + suc i
      here = omega arith

  spelled_whole : (xs : List X) (n i : ℕ) → length xs ≤ i → spelled text n (take i xs) ≡ spelled text n xs
  spelled_whole [] n zero h = refl
  spelled_whole [] n (suc i) h = refl
  spelled_whole (x ∷ xs) n zero h = absurd (omega arith)
  spelled_whole (x ∷ xs) n (suc i) h = ap (λ rest. text n x ++ rest) (spelled_whole xs (n + 1) i (omega arith))

  module _ {T E : Type 0} (xs : List X) (n i : ℕ) (d : X) (t t' : Option (List ℕ)) (h h' : List ℕ) (f f' : ℕ) (so_far : Added t t' h h' f f' (spelled text n (take i xs))) where
    -- the item at a place was not added whole
    pub spelled_stops : {T' : Type 0} (t'' : Option (List ℕ)) (h'' : List ℕ) (f'' : ℕ) (e : E) (r : Result T E) (b : List ℕ) → i < length xs → b ≡ text (n + i) (get_or xs i d) → IsErr r → Pours {T = T'} {E = E} t' t'' h' h'' f' f'' (Err e) b
        → Pours t t'' h h'' f f'' r (spelled text n xs)
    spelled_stops t'' h'' f'' e r b within is =
        stops t t' h h' f f' (spelled text n (take i xs)) so_far t'' h'' f'' e r b (spelled text (n + i + 1) (drop (suc i) xs)) (spelled text n xs)
        (spelled_parts xs n i d within ∙ ap (λ (here : List ℕ). spelled text n (take i xs) ++ (here ++ spelled text (n + i + 1) (drop (suc i) xs))) (sym is))

    -- it was
    pub spelled_goes_on : (t'' : Option (List ℕ)) (h'' : List ℕ) (f'' : ℕ) (x : T) (b : List ℕ) → i < length xs → b ≡ text (n + i) (get_or xs i d) → Pours {T = T} {E = E} t' t'' h' h'' f' f'' (Ok x) b → Added t t'' h h'' f f'' (spelled text n (take (i + 1) xs))
    spelled_goes_on t'' h'' f'' x b within is =
        goes_on t t' h h' f f' (spelled text n (take i xs)) so_far t'' h'' f'' x b (spelled text n (take (i + 1) xs))
        (ap (λ (here : List ℕ). spelled text n (take i xs) ++ here) is ∙ sym (spelled_one_more xs n i d within) ∙ ap (λ k. spelled text n (take k xs)) (sym (add-one i)))

    -- all were
    pub spelled_ends : (x : T) → length xs ≤ i → Pours {T = T} {E = E} t t' h h' f f' (Ok x) (spelled text n xs)
    spelled_ends x past = ends t t' h h' f f' (spelled text n (take i xs)) so_far x (spelled text n xs) (spelled_whole xs n i past)
