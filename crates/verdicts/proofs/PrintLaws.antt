-- What printing and reading in code need: std's decimal, and texts that name nothing.
use Rattle.std.proofs.Common.{◌≡◌, refl, sym, ap, ◌∙◌, subst, ℕ, ◌^◌, ◌<◌, ◌≢◌, inl, inr, Bool, true, false, not, ◌&&◌, List, [], ◌∷◌, length, get_or, Option, Some, None, arith, true≢false, cond, leb-true, decimal}
use Rattle.std.specs.Prelude.{◌==◌, nat_le}
use Rattle.std.specs.List.{list_all}
use Rattle.std.specs.Str.{bytes_eq}
use Rattle.std.specs.Str.Parse.{AllDigits}
use Rattle.std.proofs.lemmas.Str.Parse.{IsNumeralModel, FoldsDigits, numerals_by_fold, tells_digits}
use Rattle.std.proofs.lemmas.Fmt.{decimal-digits_value}
use Rattle.std.proofs.lemmas.Bool.{and_parts}
use Rattle.std.proofs.lemmas.Bool.Decides.{Decides-eqb}
use Rattle.std.proofs.lemmas.Slice.Eq.{bytes_eq-Decides}
use Rattle.vocab.specs.Name.{is_digit}
use Rattle.verdicts.specs.Numbers.{number_text, is_number, value_after}
use Rattle.verdicts.specs.Texts.{named_by}
use Rattle.verdicts.proofs.NumberLaws.{number_digits, text_is_number, value_of_text}
use Rattle.verdicts.proofs.WordLaws.{named_in, text_named}
use Rattle.lists.proofs.Members.{IsIn}

-- a text that names nothing is the text of no item
module _ {A : Type 0} (text_of : A → List ℕ) where
  none_case : (b : A) (items : List A) (text : List ℕ) (r : Bool) → bytes_eq (text_of b) text ≡ r → cond r (Some b) (named_by text_of items text) ≡ None → (r ≡ false) × (named_by text_of items text ≡ None)
  none_case b items text true h e = absurd (cc)
  none_case b items text false h e = (refl, e)

  pub named_none : (items : List A) (text : List ℕ) → named_by text_of items text ≡ None → (a : A) → IsIn items a → text ≢ text_of a
  named_none [] text e a i s = absurd i
  named_none (b ∷ items) text e a i s =
      let c = none_case b items text (bytes_eq (text_of b) text) refl e in
      elim i [
        | inl same ↦ true≢false (sym ((bytes_eq-Decides (text_of b) text).1 (ap text_of same ∙ sym s)) ∙ c.0)
        | inr j ↦ named_none items text c.1 a j s
      ]

-- and the text of no item names nothing
module _ {A : Type 0} (text_of : A → List ℕ) where
  pub named_nothing : (items : List A) (text : List ℕ) → ((a : A) → IsIn items a → text ≢ text_of a) → named_by text_of items text ≡ None
  named_nothing items text h = by_name (named_by text_of items text) refl
    where
      by_name : (o : Option A) → named_by text_of items text ≡ o → named_by text_of items text ≡ None
      by_name None e = e
      by_name (Some a) e = absurd (h a (named_in text_of items text a e) (text_named text_of items text a e))

folds : FoldsDigits value_after
folds = record { empty = λ n. refl; more = λ n c cs h. refl }

model : IsNumeralModel (AllDigits 10) (value_after 0)
model = numerals_by_fold (AllDigits 10) tells_digits value_after folds

digits_all : (ds : List ℕ) → list_all is_digit ds ≡ true → AllDigits 10 ds
digits_all [] h = tells_digits.empty
digits_all (c ∷ cs) h =
    let p = and_parts (is_digit c) (list_all is_digit cs) h in
    let q = and_parts (nat_le 48 c) (nat_le c 57) p.0 in
    tells_digits.more c cs (leb-true 48 c q.0, leb-true c 57 q.1) (digits_all cs p.1)

some_digit : (ds : List ℕ) → is_number ds ≡ true → 0 < length ds
some_digit [] h = absurd (true≢false (sym h))
some_digit (c ∷ cs) h = omega arith

no_zero : (ds : List ℕ) → is_number ds ≡ true → get_or ds 0 0 ≡ 48 → length ds ≡ 1
no_zero [] h e = absurd (true≢false (sym h))
no_zero (c ∷ []) h e = refl
no_zero (c ∷ d ∷ ds) h e =
    let p = and_parts (is_digit c && not (c == 48)) (list_all is_digit (d ∷ ds)) h in
    let q = and_parts (is_digit c) (not (c == 48)) p.0 in
    absurd (true≢false (sym q.1 ∙ ap not ((Decides-eqb c 48).1 e)))

-- what the program prints of a number
pub decimal_is : (n : ℕ) → n < 2 ^ 64 → decimal n ≡ number_text n
decimal_is n h =
    ap decimal (sym (value_of_text n))
    ∙ decimal-digits_value model (number_text n) (digits_all (number_text n) (number_digits n)) (some_digit (number_text n) (text_is_number n)) (no_zero (number_text n) (text_is_number n)) (subst (λ k. k < 2 ^ 64) (sym (value_of_text n)) h)
