-- What holds of lines that are judged one after another.
use Rattle.std.proofs.Common.{◌≡◌, refl, sym, ap, ◌∙◌, subst, ℕ, ◌+◌, List, [], ◌∷◌, ◌++◌, length, Option, Some, None, arith, append_assoc, append-nil}
use Rattle.std.specs.Option.{option_map_or}
use Rattle.verdicts.specs.FirstFault.{Told, Good, Refused, judge_lines}

module _ {S R : Type 0} where
  same_good : (told : Told S R) (s t : S) → told ≡ Good s → told ≡ Good t → s ≡ t
  same_good told s t d e = cc

  same_refused : (told : Told S R) (m n : ℕ) (v w : R) → told ≡ Refused m v → told ≡ Refused n w → (n ≡ m) × (v ≡ w)
  same_refused told m n v w d e = let a : n ≡ m = cc in let b : v ≡ w = cc in (a, b)

module _ {S R : Type 0} (fault : S → List ℕ → Option R) (after : S → List ℕ → S) where
  abbrev judged : ℕ → S → List (List ℕ) → Told S R
  judged n s texts = judge_lines fault after n s texts

  -- past a line without a fault
  faultless_past : (n : ℕ) (s : S) (text : List ℕ) (texts : List (List ℕ)) → fault s text ≡ None → judged n s (text ∷ texts) ≡ judged (n + 1) (after s text) texts
  faultless_past n s text texts f = ap (λ o. option_map_or (Refused n) o (judged (n + 1) (after s text) texts)) f

  -- a line with a fault
  pub stops : (n : ℕ) (s : S) (text : List ℕ) (texts : List (List ℕ)) (word : R) → fault s text ≡ Some word → judged n s (text ∷ texts) ≡ Refused n word
  stops n s text texts word f = ap (λ o. option_map_or (Refused n) o (judged (n + 1) (after s text) texts)) f

  -- ---- some lines, and more

  -- more lines, the first of this number, after a result
  abbrev pub go_on : ℕ → Told S R → List (List ℕ) → Told S R
  go_on n (Good s) texts = judged n s texts
  go_on n (Refused line word) texts = Refused line word

  pub judge_append : (n : ℕ) (s : S) (texts more : List (List ℕ)) → judged n s (texts ++ more) ≡ go_on (n + length texts) (judged n s texts) more
  judge_append n s [] more = ap (λ k. judged k s more) (none_more n)
    where
      none_more : (n : ℕ) → n ≡ n + 0
      none_more n = omega arith
  judge_append n s (text ∷ texts) more = by_fault (fault s text) (judge_append (n + 1) (after s text) texts more)
    where
      count : n + 1 + length texts ≡ n + length (text ∷ texts)
      count = omega arith

      by_fault : (o : Option R) → judged (n + 1) (after s text) (texts ++ more) ≡ go_on (n + 1 + length texts) (judged (n + 1) (after s text) texts) more
          → option_map_or (Refused n) o (judged (n + 1) (after s text) (texts ++ more)) ≡ go_on (n + length (text ∷ texts)) (option_map_or (Refused n) o (judged (n + 1) (after s text) texts)) more
      by_fault None later = later ∙ ap (λ k. go_on k (judged (n + 1) (after s text) texts) more) count
      by_fault (Some word) later = refl

  pub after_good : (n : ℕ) (s t : S) (texts more : List (List ℕ)) → judged n s texts ≡ Good t → judged n s (texts ++ more) ≡ judged (n + length texts) t more
  after_good n s t texts more e = judge_append n s texts more ∙ ap (λ told. go_on (n + length texts) told more) e

  pub after_refused : (n : ℕ) (s : S) (texts more : List (List ℕ)) (m : ℕ) (word : R) → judged n s texts ≡ Refused m word → judged n s (texts ++ more) ≡ Refused m word
  after_refused n s texts more m word e = judge_append n s texts more ∙ ap (λ told. go_on (n + length texts) told more) e

  -- ---- lines without a fault

  -- what holds before lines, and after each one without a fault, holds after all of them
  all_good : (P : S → List (List ℕ) → Type 0) → ((s : S) (before : List (List ℕ)) (text : List ℕ) → P s before → fault s text ≡ None → P (after s text) (before ++ text ∷ []))
      → (n : ℕ) (s t : S) (before texts : List (List ℕ)) → P s before → judged n s texts ≡ Good t → P t (before ++ texts)
  all_good P next n s t before [] h e = subst (λ u. P u (before ++ [])) (same_good (judged n s []) s t refl e) (subst (P s) (sym (append-nil before)) h)
  all_good P next n s t before (text ∷ texts) h e = by_fault (fault s text) refl e (λ f. all_good P next (n + 1) (after s text) t (before ++ text ∷ []) texts (next s before text h f))
    where
      by_fault : (o : Option R) → fault s text ≡ o → option_map_or (Refused n) o (judged (n + 1) (after s text) texts) ≡ Good t
          → (fault s text ≡ None → judged (n + 1) (after s text) texts ≡ Good t → P t ((before ++ text ∷ []) ++ texts)) → P t (before ++ text ∷ texts)
      by_fault None f g later = subst (P t) (append_assoc before (text ∷ []) texts) (later f g)
      by_fault (Some word) f g later = absurd (cc)

  -- ---- the first faulty line

  -- the lines up to the first faulty one
  abbrev First : ℕ → S → List (List ℕ) → ℕ → R → Type 0
  First n s texts m word =
      (before : List (List ℕ)) × (line : List ℕ) × (more : List (List ℕ)) × (t : S)
      × (texts ≡ before ++ line ∷ more) × (m ≡ n + length before) × (judged n s before ≡ Good t) × (fault t line ≡ Some word)

  here : (n m : ℕ) (s : S) (text : List ℕ) (texts : List (List ℕ)) (v word : R) → fault s text ≡ Some v → judged n s (text ∷ texts) ≡ Refused m word → First n s (text ∷ texts) m word
  here n m s text texts v word f e =
      let same = same_refused (judged n s (text ∷ texts)) n m v word (stops n s text texts v f) e in
      let first : m ≡ n + 0 = omega (arith, same.0) in
      ([], text, texts, s, refl, first, refl, f ∙ ap Some same.1)

  later : (n m : ℕ) (s : S) (text : List ℕ) (texts : List (List ℕ)) (word : R) → fault s text ≡ None → First (n + 1) (after s text) texts m word → First n s (text ∷ texts) m word
  later n m s text texts word f r =
      let number : m ≡ n + length (text ∷ r.0) = omega (arith, r.5) in
      (text ∷ r.0, r.1, r.2, r.3, ap (λ ts. text ∷ ts) r.4, number, faultless_past n s text r.0 f ∙ r.6, r.7)

  pub first_of : (n : ℕ) (s : S) (texts : List (List ℕ)) (m : ℕ) (word : R) → judged n s texts ≡ Refused m word → First n s texts m word
  first_of n s [] m word e = absurd (cc)
  first_of n s (text ∷ texts) m word e = by_fault (fault s text) refl (first_of (n + 1) (after s text) texts m word)
    where
      by_fault : (o : Option R) → fault s text ≡ o → (judged (n + 1) (after s text) texts ≡ Refused m word → First (n + 1) (after s text) texts m word) → First n s (text ∷ texts) m word
      by_fault None f go = later n m s text texts word f (go (sym (faultless_past n s text texts f) ∙ e))
      by_fault (Some v) f go = here n m s text texts v word f e

  -- and no line after it plays a part
  pub first_refused : (n : ℕ) (s t : S) (before : List (List ℕ)) (line : List ℕ) (more : List (List ℕ)) (word : R) → judged n s before ≡ Good t → fault t line ≡ Some word
      → judged n s (before ++ line ∷ more) ≡ Refused (n + length before) word
  first_refused n s t before line more word e f = after_good n s t before (line ∷ more) e ∙ stops (n + length before) t line more word f

-- ---- lines that are read

-- over what a line says where the reader stands, if it is the one that is wanted there, the refusal of what it says, that of a line that is not wanted, and where the reader stands after it
module _ {S L R : Type 0} (read : S → List ℕ → Option L) (fault_of : S → L → Option R) (form : R) (advance : S → L → S) where
  abbrev fault : S → List ℕ → Option R
  fault s text = option_map_or (fault_of s) (read s text) (Some form)

  abbrev after : S → List ℕ → S
  after s text = option_map_or (advance s) (read s text) s

  -- a line without a fault says something
  faultless : (s : S) (text : List ℕ) → fault s text ≡ None → (l : L) × (read s text ≡ Some l) × (fault_of s l ≡ None) × (after s text ≡ advance s l)
  faultless s text = by_line (read s text) refl
    where
      by_line : (o : Option L) → read s text ≡ o → option_map_or (fault_of s) o (Some form) ≡ None → (l : L) × (read s text ≡ Some l) × (fault_of s l ≡ None) × (after s text ≡ advance s l)
      by_line None d f = absurd (cc)
      by_line (Some l) d f = (l, d, f, ap (λ o. option_map_or (advance s) o s) d)

  -- and what says something without a fault is passed
  pub past : (n : ℕ) (s : S) (text : List ℕ) (texts : List (List ℕ)) (l : L) → read s text ≡ Some l → fault_of s l ≡ None → judge_lines fault after n s (text ∷ texts) ≡ judge_lines fault after (n + 1) (advance s l) texts
  past n s text texts l d f =
      faultless_past fault after n s text texts (ap (λ o. option_map_or (fault_of s) o (Some form)) d ∙ f)
      ∙ ap (λ o. judge_lines fault after (n + 1) (option_map_or (advance s) o s) texts) d

  -- what holds before lines, and after each one that says something without a fault, holds after all of them
  pub all_read : (P : S → List (List ℕ) → Type 0) → ((s : S) (before : List (List ℕ)) (text : List ℕ) (l : L) → P s before → read s text ≡ Some l → fault_of s l ≡ None → P (advance s l) (before ++ text ∷ []))
      → (n : ℕ) (s t : S) (before texts : List (List ℕ)) → P s before → judge_lines fault after n s texts ≡ Good t → P t (before ++ texts)
  all_read P next n s t before texts h e =
      all_good fault after P (λ s before text h f.
      let r = faultless s text f in
      subst (λ u. P u (before ++ text ∷ [])) (sym r.3) (next s before text r.0 h r.1 r.2)) n s t before texts h e

  -- a last line that says the same wherever the reader stands is told the same
  pub same_last : (n : ℕ) (s : S) (texts : List (List ℕ)) (text other : List ℕ) → ((t : S) → read t text ≡ read t other)
      → judge_lines fault after n s (texts ++ text ∷ []) ≡ judge_lines fault after n s (texts ++ other ∷ [])
  same_last n s texts text other same =
      judge_append fault after n s texts (text ∷ [])
      ∙ by_told (judge_lines fault after n s texts)
      ∙ sym (judge_append fault after n s texts (other ∷ []))
    where
      by_told : (told : Told S R) → go_on fault after (n + length texts) told (text ∷ []) ≡ go_on fault after (n + length texts) told (other ∷ [])
      by_told (Good t) = ap (λ o. option_map_or (Refused (n + length texts)) (option_map_or (fault_of t) o (Some form)) (Good (option_map_or (advance t) o t))) (same t)
      by_told (Refused line word) = refl
