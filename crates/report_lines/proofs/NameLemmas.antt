-- The first axiom of a name, and the texts of all items of a list.
use Rattle.std.proofs.Common.{◌≡◌, refl, sym, ap, ap₂, ◌∙◌, ℕ, zero, suc, ◌+◌, ◌<◌, Bool, true, false, cond, ◌&&◌, Option, Some, None, List, [], ◌∷◌, ◌++◌, map, length, drop, arith}
use Rattle.std.specs.Prelude.{slice_get}
use Rattle.std.specs.List.{position_from}
use Rattle.std.specs.Cmp.Lexicographic.{pointwise}
use Rattle.std.specs.Str.{bytes_eq}
use Rattle.vocab.specs.Titled.{Titled}
use Rattle.meaning.specs.Cores.{is_core_from}
use Rattle.meaning.specs.Space.{up_from}
use Rattle.verdicts.specs.Texts.{named_by}
use Rattle.verdicts.specs.Lines.{name_at}
use Rattle.verdicts.specs.Reading.{read_axiom}

abbrev pub names_of : List Titled → List (List ℕ)
names_of axioms = map (λ a. a.name) axioms

-- a number that is found is one of those that were gone over
within_from : (text_of : ℕ → List ℕ) (word : List ℕ) (n a k : ℕ) → named_by text_of (up_from a n) word ≡ Some k → k < a + n
within_from text_of word zero a k h = absurd cc
within_from text_of word (suc n) a k h = by (bytes_eq (text_of a) word) h (within_from text_of word n (suc a) k)
  where
    by : (b : Bool) → cond b (Some a) (named_by text_of (up_from (suc a) n) word) ≡ Some k → (named_by text_of (up_from (suc a) n) word ≡ Some k → k < suc a + n) → k < a + suc n
    by true e later = let here : a ≡ k = cc in omega (arith, here)
    by false e later = omega (arith, later e)

-- the first of some axioms by their names is the first by their places
found_from : (axioms rest : List Titled) (word : List ℕ) (a : ℕ) → ((j : ℕ) → name_at axioms (a + j) ≡ name_at rest j)
    → position_from (λ n. bytes_eq n word) a (names_of rest) ≡ named_by (name_at axioms) (up_from a (length rest)) word
found_from axioms [] word a same = refl
found_from axioms (x ∷ rest) word a same =
    ap₂ (λ (b : Bool) (o : Option ℕ). cond b (Some a) o) here
    (ap (λ i. position_from (λ n. bytes_eq n word) i (names_of rest)) (more a) ∙ found_from axioms rest word (suc a) (λ j. ap (name_at axioms) (later a j) ∙ same (suc j)))
  where
    more : (a : ℕ) → a + 1 ≡ suc a
    more a = omega arith

    later : (a j : ℕ) → suc a + j ≡ a + suc j
    later a j = omega arith

    none : (a : ℕ) → a ≡ a + 0
    none a = omega arith

    here : bytes_eq x.name word ≡ bytes_eq (name_at axioms a) word
    here = ap (λ n. bytes_eq n word) (sym (same 0) ∙ ap (name_at axioms) (sym (none a)))

module _ (axioms : List Titled) (word : List ℕ) where
  -- the place that an index of the names finds
  pub place_found : position_from (λ n. bytes_eq n word) 0 (names_of axioms) ≡ read_axiom axioms word
  place_found = found_from axioms axioms word 0 (λ j. ap (name_at axioms) (from_0 j))
    where
      from_0 : (j : ℕ) → 0 + j ≡ j
      from_0 j = omega arith

  -- is one of the axioms
  pub place_within : (k : ℕ) → read_axiom axioms word ≡ Some k → k < length axioms
  place_within k h = let within = within_from (name_at axioms) word (length axioms) 0 k h in omega (arith, within)

module _ {X : Type 0} (f : X → List ℕ) where
  -- the texts of items from a place on
  texts_from : (xs : List X) (k : ℕ) (x : X) → slice_get xs k ≡ Some x → drop k (map f xs) ≡ f x ∷ drop (k + 1) (map f xs)
  texts_from [] k x e = absurd (cc)
  texts_from (y ∷ xs) zero x e = let same : y ≡ x = cc in ap (λ z. f z ∷ map f xs) same
  texts_from (y ∷ xs) (suc k) x e = texts_from xs k x e ∙ ap (λ n. f x ∷ drop n (map f (y ∷ xs))) (more k)
    where
      more : (k : ℕ) → suc (k + 1) ≡ suc k + 1
      more k = omega arith

  -- one more word and one more item
  pub texts_more : (xs : List X) (k : ℕ) (x : X) (words more : List (List ℕ)) (word : List ℕ) (b : Bool)
      → slice_get xs k ≡ Some x → words ≡ word ∷ more → b ≡ bytes_eq word (f x) → pointwise bytes_eq words (drop k (map f xs)) ≡ b && pointwise bytes_eq more (drop (k + 1) (map f xs))
  texts_more xs k x words more word b h e t =
      ap₂ (λ ws ns. pointwise bytes_eq ws ns) e (texts_from xs k x h) ∙ ap (λ c. c && pointwise bytes_eq more (drop (k + 1) (map f xs))) (sym t)

-- what a call tells of the axiom at a place
pub item_is : (axioms told : List Titled) (k : ℕ) (a : Titled) → told ≡ axioms → slice_get told k ≡ Some a → slice_get axioms k ≡ Some a
item_is axioms told k a e h = ap (λ items. slice_get items k) (sym e) ∙ h

-- ---- places of names

-- those that are there and those that follow, where these rise from a place up to another
abbrev pub and_those : ℕ → ℕ → List ℕ → Option (List ℕ) → Option (List ℕ)
and_those from end core None = None
and_those from end core (Some others) = cond (is_core_from from end others) (Some (core ++ others)) None
