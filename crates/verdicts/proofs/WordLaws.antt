-- Words that are joined are cut into these words again, and a text that names an item is the item's.
use Rattle.std.proofs.Common.{◌≡◌, refl, sym, ap, ◌∙◌, ℕ, zero, suc, ◌+◌, ◌<◌, ◌≤◌, ◌⊎◌, inl, inr, Bool, true, false, not, List, [], ◌∷◌, ◌++◌, Some, arith, true≢false, cond, append_assoc}
use Rattle.std.specs.Prelude.{◌==◌}
use Rattle.std.specs.List.{list_all, flat_map, slice_split, onto_first, join_with_byte}
use Rattle.std.specs.Str.{bytes_eq}
use Rattle.std.proofs.lemmas.Bool.{and_parts, cases_lt, not-true}
use Rattle.std.proofs.lemmas.Slice.Eq.{bytes_eq-Decides}
use Rattle.std.proofs.lemmas.List.Splits.{slice_split-cons_yes, slice_split-cons_no}
use Rattle.std.proofs.lemmas.Bool.Decides.{Decides-eqb}
use Rattle.meaning.specs.Space.{up_from, below}
use Rattle.verdicts.specs.Texts.{named_by}
use Rattle.lists.proofs.TextLaws.{same_from_test}
use Rattle.lists.proofs.Members.{IsIn}

-- no byte of the text is c
abbrev pub lacks : ℕ → List ℕ → Bool
lacks c text = list_all (λ b. not (b == c)) text

module _ (c : ℕ) where
  split_at : (w rest : List ℕ) → lacks c w ≡ true → slice_split (λ b. b == c) (w ++ c ∷ rest) ≡ w ∷ slice_split (λ b. b == c) rest
  split_at [] rest h = slice_split-cons_yes (λ b. b == c) c rest ((Decides-eqb c c).1 refl)
  split_at (b ∷ w) rest h =
      let p = and_parts (not (b == c)) (lacks c w) h in
      slice_split-cons_no (λ b. b == c) b (w ++ c ∷ rest) (not-true (b == c) p.0) ∙ ap (onto_first b) (split_at w rest p.1)

  split_none : (w : List ℕ) → lacks c w ≡ true → slice_split (λ b. b == c) w ≡ w ∷ []
  split_none [] h = refl
  split_none (b ∷ w) h =
      let p = and_parts (not (b == c)) (lacks c w) h in
      slice_split-cons_no (λ b. b == c) b w (not-true (b == c) p.0) ∙ ap (onto_first b) (split_none w p.1)

  pub split_joined : (w : List ℕ) (words : List (List ℕ)) → list_all (lacks c) (w ∷ words) ≡ true → slice_split (λ b. b == c) (join_with_byte c (w ∷ words)) ≡ w ∷ words
  split_joined w [] h = split_none w (and_parts (lacks c w) true h).0
  split_joined w (v ∷ words) h =
      let p = and_parts (lacks c w) (list_all (lacks c) (v ∷ words)) h in
      split_at w (join_with_byte c (v ∷ words)) p.0 ∙ ap (λ ws. w ∷ ws) (split_joined v words p.1)

  -- lines, each with its end, are cut off the front of a text
  pub split_ended : (lines : List (List ℕ)) (rest : List ℕ) → list_all (lacks c) lines ≡ true → slice_split (λ b. b == c) (flat_map (λ line. line ++ c ∷ []) lines ++ rest) ≡ lines ++ slice_split (λ b. b == c) rest
  split_ended [] rest h = refl
  split_ended (line ∷ lines) rest h =
      let p = and_parts (lacks c line) (list_all (lacks c) lines) h in
      ap (slice_split (λ b. b == c)) (append_assoc (line ++ c ∷ []) (flat_map (λ line. line ++ c ∷ []) lines) rest ∙ append_assoc line (c ∷ []) (flat_map (λ line. line ++ c ∷ []) lines ++ rest))
      ∙ split_at line (flat_map (λ line. line ++ c ∷ []) lines ++ rest) p.0 ∙ ap (λ ws. line ∷ ws) (split_ended lines rest p.1)

module _ {A : Type 0} (text_of : A → List ℕ) where
  named_by_case : (b : A) (items : List A) (text : List ℕ) (a : A) (r : Bool) → (bytes_eq (text_of b) text ≡ r) → (named_by text_of items text ≡ Some a → text ≡ text_of a) → cond r (Some b) (named_by text_of items text) ≡ Some a → text ≡ text_of a
  named_by_case b items text a true h later f = let same : b ≡ a = cc in sym (same_from_test (text_of b) text h) ∙ ap text_of same
  named_by_case b items text a false h later f = later f

  -- a text that names an item is its text
  pub text_named : (items : List A) (text : List ℕ) (a : A) → named_by text_of items text ≡ Some a → text ≡ text_of a
  text_named [] text a e = absurd (cc)
  text_named (b ∷ items) text a e = named_by_case b items text a (bytes_eq (text_of b) text) refl (text_named items text a) e

  named_text_case : (b : A) (items : List A) (a : A) (r : Bool) → bytes_eq (text_of b) (text_of a) ≡ r → (text_of b ≡ text_of a → b ≡ a) → (b ≡ a) ⊎ (named_by text_of items (text_of a) ≡ Some a) → cond r (Some b) (named_by text_of items (text_of a)) ≡ Some a
  named_text_case b items a true h own later = ap Some (own (same_from_test (text_of b) (text_of a) h))
  named_text_case b items a false h own (inl same) = absurd (true≢false (sym ((bytes_eq-Decides (text_of b) (text_of a)).1 (ap text_of same)) ∙ h))
  named_text_case b items a false h own (inr later) = later

  -- where each item has a text of its own, the text of an item of the list names it
  pub named_text : (items : List A) (a : A) → ((b : A) → IsIn items b → text_of b ≡ text_of a → b ≡ a) → IsIn items a → named_by text_of items (text_of a) ≡ Some a
  named_text [] a own c = absurd c
  named_text (b ∷ items) a own (inl same) = named_text_case b items a (bytes_eq (text_of b) (text_of a)) refl (own b (inl refl)) (inl same)
  named_text (b ∷ items) a own (inr c) = named_text_case b items a (bytes_eq (text_of b) (text_of a)) refl (own b (inl refl)) (inr (named_text items a (λ d i. own d (inr i)) c))

  -- what is named stands in the list
  named_in_case : (b : A) (items : List A) (text : List ℕ) (a : A) (r : Bool) → (named_by text_of items text ≡ Some a → IsIn items a) → cond r (Some b) (named_by text_of items text) ≡ Some a → IsIn (b ∷ items) a
  named_in_case b items text a true later f = let same : b ≡ a = cc in inl same
  named_in_case b items text a false later f = inr (later f)

  pub named_in : (items : List A) (text : List ℕ) (a : A) → named_by text_of items text ≡ Some a → IsIn items a
  named_in [] text a e = absurd (cc)
  named_in (b ∷ items) text a e = named_in_case b items text a (bytes_eq (text_of b) text) (named_in items text a) e

-- numbers from a on
in_up_from : (n a v : ℕ) → a ≤ v → v < a + n → IsIn (up_from a n) v
in_up_from zero a v h l = absurd (omega (arith, h, l))
in_up_from (suc n) a v h l = elim (cases_lt a v) [
  | inl less ↦ inr (in_up_from n (suc a) v less (omega (arith, l)))
  | inr le ↦ inl (omega (arith, h, le))
]

pub in_below : (n v : ℕ) → v < n → IsIn (below n) v
in_below n v l = in_up_from n 0 v (omega arith) (omega (arith, l))

from_up_from : (n a v : ℕ) → IsIn (up_from a n) v → v < a + n
from_up_from zero a v i = absurd i
from_up_from (suc n) a v (inl same) = omega (arith, same)
from_up_from (suc n) a v (inr i) = omega (arith, from_up_from n (suc a) v i)

pub from_below : (n v : ℕ) → IsIn (below n) v → v < n
from_below n v i = omega (arith, from_up_from n 0 v i)

-- where numbers below n have texts of their own, the text of one names it
pub named_below : (text_of : ℕ → List ℕ) (n v : ℕ) → ((u : ℕ) → u < n → text_of u ≡ text_of v → u ≡ v) → v < n → named_by text_of (below n) (text_of v) ≡ Some v
named_below text_of n v own l = named_text text_of (below n) v (λ u i. own u (from_below n u i)) (in_below n v l)
