-- Different values have different texts, and no text has a blank or a line end.
use Rattle.std.proofs.Common.{◌≡◌, get_or, cond, subst, refl, sym, ap, ap₂, ◌∙◌, ℕ, zero, suc, ◌+◌, ◌<◌, ◌≤◌, ◌≢◌, inl, inr, Bool, true, false, not, ◌&&◌, ◌||◌, List, [], ◌∷◌, ◌++◌, map, length, replicate, arith, true≢false, lt-ltb, ltb-true, eqb-true, leb-true}
use Rattle.std.specs.Prelude.{◌==◌, nat_lt, nat_le, nat_eq, slice_get, Option, Some, None}
use Rattle.std.specs.List.{list_all, list_any, join_with_byte, slice_split}
use Rattle.std.specs.Cmp.Lexicographic.{pointwise}
use Rattle.std.proofs.lemmas.Bool.{and_parts, and_from, or_cases, cases_lt, not-true, or_parts}
use Rattle.std.proofs.lemmas.Slice.Eq.{bytes_eq-Decides}
use Rattle.vocab.specs.declared.kinds.Kind.{Kind}
use Rattle.vocab.specs.declared.kinds.Kind.TheVariants.{Choice, Ranking, Sets}
use Rattle.vocab.specs.declared.kinds.Sort.{Sort}
use Rattle.vocab.specs.declared.kinds.Sort.TheVariants.{Voter, Alt, Ballot, Profile}
use Rattle.vocab.specs.declared.literals.Literal.{Literal}
use Rattle.vocab.specs.declared.literals.Literal.TheVariants.{Wins, Loses, Above}
use Rattle.vocab.specs.Name.{is_digit, is_lower, is_name_byte, is_name}
use Rattle.vocab.specs.Literal.{profile_of}
use Rattle.std.proofs.lemmas.List.{get_or-map, length-replicate, length-map}
use Rattle.vocab.specs.Size.{Extent, IsSize, ballot_count, ballot_places, cast_count, factorial, sort_count, outcome_count}
use Rattle.vocab.specs.Study.{axioms_have_own_names}
use Rattle.vocab.specs.Titled.{Titled}
use Rattle.meaning.specs.Space.{number_of, ranking, ranking_number, ballot_number, ballot_ranking, cast_bases, casts_of}
use Rattle.meaning.specs.Digits.{AreDigits}
use Rattle.meaning.proofs.RankingLaws.{are_rankings}
use Rattle.meaning.proofs.BallotLaws.{numbered_place, place_below, place_of_ballot, ranking_of_ballot}
use Rattle.meaning.proofs.DigitLaws.{are_one_to_one, are_profiles, lists_within, length-digits_of}
use Rattle.std.proofs.lemmas.Option.{slice_get_past}
use Rattle.lists.proofs.PlaceLaws.{head_same, tail_same, cons_same}
use Rattle.meaning.specs.Subsets.{elements}
use Rattle.meaning.proofs.TextLaws.{letters_same, set_texts_same}
use Rattle.verdicts.specs.Numbers.{number_text, value_after}
use Rattle.meaning.specs.Texts.{letter, ballot_text, cast_text, letters_or_dash, profile_text, ranking_text, outcome_text_of, outcome_text}
use Rattle.verdicts.specs.Texts.{value_text, literal_text}
use Rattle.verdicts.specs.Lines.{name_at}
use Rattle.verdicts.proofs.NumberLaws.{value_of_text, number_digits}
use Rattle.verdicts.proofs.WordLaws.{lacks, split_joined}
use Rattle.lists.proofs.TestLaws.{all_weaker}

-- lists of words that are joined to one text are one
joins_same : (ws vs : List (List ℕ)) → list_all (lacks 124) ws ≡ true → list_all (lacks 124) vs ≡ true → 0 < length ws → 0 < length vs → join_with_byte 124 ws ≡ join_with_byte 124 vs → ws ≡ vs
joins_same [] vs a b h k e = absurd (omega (arith, h))
joins_same (w ∷ ws) [] a b h k e = absurd (omega (arith, k))
joins_same (w ∷ ws) (v ∷ vs) a b h k e = sym (split_joined 124 w ws a) ∙ ap (slice_split (λ b. b == 124)) e ∙ split_joined 124 v vs b

pub numbers_same : (m n : ℕ) → number_text m ≡ number_text n → m ≡ n
numbers_same m n e = sym (value_of_text m) ∙ ap (value_after 0) e ∙ value_of_text n

-- every byte is above the blank
abbrev pub is_word : List ℕ → Bool
is_word w = list_all (λ b. nat_lt 32 b) w

not_below : (c b : ℕ) → c ≤ 32 → nat_lt 32 b ≡ true → not (b == c) ≡ true
not_below c b h e = by_test (b == c) refl
  where
    by_test : (t : Bool) → (b == c) ≡ t → not t ≡ true
    by_test true s = absurd (omega (arith, h, eqb-true b c s, ltb-true 32 b e))
    by_test false s = refl

pub word_lacks : (c : ℕ) (w : List ℕ) → c ≤ 32 → is_word w ≡ true → lacks c w ≡ true
word_lacks c [] h e = refl
word_lacks c (b ∷ w) h e = let p = and_parts (nat_lt 32 b) (is_word w) e in and_from _ _ (not_below c b h p.0) (word_lacks c w h p.1)

digit_word : (b : ℕ) → is_digit b ≡ true → nat_lt 32 b ≡ true
digit_word b e = let p = and_parts (nat_le 48 b) (nat_le b 57) e in lt-ltb 32 b (omega (arith, leb-true 48 b p.0))

pub number_word : (n : ℕ) → is_word (number_text n) ≡ true
number_word n = all_weaker is_digit (λ b. nat_lt 32 b) digit_word (number_text n) (number_digits n)

lower_word : (b : ℕ) → is_lower b ≡ true → nat_lt 32 b ≡ true
lower_word b e = let p = and_parts (nat_le 97 b) (nat_le b 122) e in lt-ltb 32 b (omega (arith, leb-true 97 b p.0))

pub letters_word : (xs : List ℕ) → is_word (map letter xs) ≡ true
letters_word [] = refl
letters_word (x ∷ xs) = and_from _ _ (lt-ltb 32 (letter x) (omega arith)) (letters_word xs)

word_append : (v w : List ℕ) → is_word v ≡ true → is_word w ≡ true → is_word (v ++ w) ≡ true
word_append [] w h k = k
word_append (b ∷ v) w h k = let p = and_parts (nat_lt 32 b) (is_word v) h in and_from _ _ p.0 (word_append v w p.1 k)

module _ (size : Extent) (is : IsSize size) where
  abbrev m : ℕ
  m = size.alternatives

  letters_or_dash_word : (o : Option ℕ) → is_word (letters_or_dash m o) ≡ true
  letters_or_dash_word None = refl
  letters_or_dash_word (Some place) = letters_word (ranking m place)

  cast_word : (c : ℕ) → is_word (cast_text size c) ≡ true
  cast_word c = letters_or_dash_word (slice_get (ballot_places size) c)

  casts_word : (cs : List ℕ) → is_word (join_with_byte 124 (map (cast_text size) cs)) ≡ true
  casts_word [] = refl
  casts_word (c ∷ []) = cast_word c
  casts_word (c ∷ d ∷ cs) = word_append (cast_text size c) _ (cast_word c) (and_from _ _ refl (casts_word (d ∷ cs)))

  pub profile_word : (p : ℕ) → is_word (profile_text size p) ≡ true
  profile_word p = casts_word (casts_of size p)

  pub rankings_same : (b c : ℕ) → b < factorial m → c < factorial m → ranking_text m b ≡ ranking_text m c → b ≡ c
  rankings_same b c h k e =
      sym ((are_rankings m).numbered b h) ∙ ap (ranking_number m) (letters_same (ranking m b) (ranking m c) e) ∙ (are_rankings m).numbered c k

  pub ballots_same : (b c : ℕ) → b < ballot_count size → c < ballot_count size → ballot_text size b ≡ ballot_text size c → b ≡ c
  ballots_same b c h k e =
      let places : get_or (ballot_places size) b 0 ≡ get_or (ballot_places size) c 0 = rankings_same _ _ (place_below size b h) (place_below size c k) (ap (map letter) (sym (ranking_of_ballot size b h)) ∙ e ∙ ap (map letter) (ranking_of_ballot size c k)) in
      sym (numbered_place size b h) ∙ ap (ballot_number size) places ∙ numbered_place size c k

  cast_letters : (b : ℕ) → b < ballot_count size → cast_text size b ≡ ballot_text size b
  cast_letters b h = ap (letters_or_dash m) (place_of_ballot size b h) ∙ ap (map letter) (sym (ranking_of_ballot size b h))

  dash : (c : ℕ) → ballot_count size ≤ c → cast_text size c ≡ 45 ∷ []
  dash c le = ap (letters_or_dash m) (slice_get_past (ballot_places size) c le)

  no_dash : (b : ℕ) → b < ballot_count size → cast_text size b ≢ 45 ∷ []
  no_dash b h e =
      let place = get_or (ballot_places size) b 0 in
      let size_is : length (ranking m (get_or (ballot_places size) b 0)) ≡ m = ((are_rankings m).each (get_or (ballot_places size) b 0) (place_below size b h)).size in
      let text : map letter (ranking m (get_or (ballot_places size) b 0)) ≡ 45 ∷ [] = sym (ap (letters_or_dash m) (place_of_ballot size b h)) ∙ e in
      let first : get_or (map letter (ranking m (get_or (ballot_places size) b 0))) 0 0 ≡ 45 = ap (λ t. get_or t 0 0) text in
      let own : get_or (map letter (ranking m (get_or (ballot_places size) b 0))) 0 0 ≡ letter (get_or (ranking m (get_or (ballot_places size) b 0)) 0 0) = get_or-map letter (ranking m (get_or (ballot_places size) b 0)) 0 0 0 (omega (arith, size_is, is.some_alternative)) in
      absurd (omega (arith, first, own))

  at_most_one_more : cast_count size ≤ ballot_count size + 1
  at_most_one_more = by_absence size.absent
    where
      by_absence : (absent : Bool) → cond absent (ballot_count size + 1) (ballot_count size) ≤ ballot_count size + 1
      by_absence true = omega arith
      by_absence false = omega arith

  pub casts_same : (c d : ℕ) → c < cast_count size → d < cast_count size → cast_text size c ≡ cast_text size d → c ≡ d
  casts_same c d h k e = elim (cases_lt c (ballot_count size)) [
    | inl lc ↦ elim (cases_lt d (ballot_count size)) [
      | inl ld ↦ ballots_same c d lc ld (sym (cast_letters c lc) ∙ e ∙ cast_letters d ld)
      | inr ld ↦ absurd (no_dash c lc (e ∙ dash d ld))
    ]
    | inr lc ↦ elim (cases_lt d (ballot_count size)) [
      | inl ld ↦ absurd (no_dash d ld (sym e ∙ dash c lc))
      | inr ld ↦ omega (arith, at_most_one_more, h, k)
    ]
  ]

  -- no letter is `|`
  letters_lack : (xs : List ℕ) → list_all (λ x. nat_lt x m) xs ≡ true → lacks 124 (map letter xs) ≡ true
  letters_lack [] h = refl
  letters_lack (x ∷ xs) h =
      let p = and_parts (nat_lt x m) (list_all (λ x. nat_lt x m) xs) h in
      and_from _ _ (other x (ltb-true x m p.0)) (letters_lack xs p.1)
    where
      other : (x : ℕ) → x < m → not (letter x == 124) ≡ true
      other x l = by_test (letter x == 124) refl
        where
          by_test : (t : Bool) → (letter x == 124) ≡ t → not t ≡ true
          by_test true s = absurd (omega (arith, l, is.few_alternatives, eqb-true (letter x) 124 s))
          by_test false s = refl

  cast_lacks : (c : ℕ) → lacks 124 (cast_text size c) ≡ true
  cast_lacks c = elim (cases_lt c (ballot_count size)) [
    | inl l ↦ subst (λ t. lacks 124 t ≡ true) (sym (ap (letters_or_dash m) (place_of_ballot size c l))) (letters_lack (ranking m (get_or (ballot_places size) c 0)) ((are_rankings m).each (get_or (ballot_places size) c 0) (place_below size c l)).in_range)
    | inr le ↦ subst (λ t. lacks 124 t ≡ true) (sym (dash c le)) refl
  ]

  texts_lack : (cs : List ℕ) → list_all (lacks 124) (map (cast_text size) cs) ≡ true
  texts_lack [] = refl
  texts_lack (c ∷ cs) = and_from _ _ (cast_lacks c) (texts_lack cs)

  texts_same : (n : ℕ) (bs cs : List ℕ) → AreDigits (replicate n (cast_count size)) bs → AreDigits (replicate n (cast_count size)) cs → map (cast_text size) bs ≡ map (cast_text size) cs → bs ≡ cs
  texts_same n [] [] h k e = refl
  texts_same n [] (c ∷ cs) h k e = absurd (cc)
  texts_same n (b ∷ bs) [] h k e = absurd (cc)
  texts_same zero (b ∷ bs) (c ∷ cs) h k e = absurd (true≢false (sym h))
  texts_same (suc n) (b ∷ bs) (c ∷ cs) h k e =
      let p = and_parts (nat_lt b (cast_count size)) (pointwise nat_lt bs (replicate n (cast_count size))) h in
      let q = and_parts (nat_lt c (cast_count size)) (pointwise nat_lt cs (replicate n (cast_count size))) k in
      let s = cons_same (cast_text size b) (cast_text size c) (map (cast_text size) bs) (map (cast_text size) cs) e in
      ap₂ (λ x xs. x ∷ xs) (casts_same b c (ltb-true b (cast_count size) p.0) (ltb-true c (cast_count size) q.0) s.0) (texts_same n bs cs p.1 q.1 s.1)

  digits_are : (p : ℕ) → p < sort_count size Profile → AreDigits (cast_bases size) (casts_of size p)
  digits_are p h = (are_one_to_one (cast_bases size)).digits p (omega (arith, h, lists_within size))

  pub profiles_same : (p q : ℕ) → p < sort_count size Profile → q < sort_count size Profile → profile_text size p ≡ profile_text size q → p ≡ q
  profiles_same p q h k e =
      let words = joins_same (map (cast_text size) (casts_of size p)) (map (cast_text size) (casts_of size q)) (texts_lack (casts_of size p)) (texts_lack (casts_of size q)) (some_cast p) (some_cast q) e in
      let same = texts_same size.voters (casts_of size p) (casts_of size q) (digits_are p h) (digits_are q k) words in
      sym ((are_profiles size).of_profile p h) ∙ ap (number_of (cast_bases size)) same ∙ (are_profiles size).of_profile q k
    where
      some_cast : (k : ℕ) → 0 < length (map (cast_text size) (casts_of size k))
      some_cast k = omega (arith, length-digits_of (cast_bases size) k, length-map (casts_of size k) (cast_text size), length-replicate size.voters (cast_count size), is.some_voter)

  outcomes_same_of : (k : Kind) (o u : ℕ) → o < outcome_count k m → u < outcome_count k m → outcome_text_of size k o ≡ outcome_text_of size k u → o ≡ u
  outcomes_same_of Choice o u h k e = omega (arith, head_same (letter o) (letter u) [] [] e)
  outcomes_same_of Ranking o u h k e = rankings_same o u h k e
  outcomes_same_of Sets o u h k e = set_texts_same m o u h k e

  pub outcome_word_of : (k : Kind) (o : ℕ) → is_word (outcome_text_of size k o) ≡ true
  outcome_word_of Choice o = letters_word (o ∷ [])
  outcome_word_of Ranking o = letters_word (ranking m o)
  outcome_word_of Sets o = letters_word (elements m o)

  pub outcomes_same : (o u : ℕ) → o < outcome_count size.kind m → u < outcome_count size.kind m → outcome_text size o ≡ outcome_text size u → o ≡ u
  outcomes_same o u h k e = outcomes_same_of size.kind o u h k e

  pub values_same : (s : Sort) (v w : ℕ) → v < sort_count size s → w < sort_count size s → value_text size s v ≡ value_text size s w → v ≡ w
  values_same Voter v w h k e = omega (arith, numbers_same (v + 1) (w + 1) e)
  values_same Alt v w h k e = omega (arith, head_same (letter v) (letter w) [] [] e)
  values_same Ballot v w h k e = ballots_same v w h k e
  values_same Profile v w h k e = profiles_same v w h k e

  pub value_word : (s : Sort) (v : ℕ) → is_word (value_text size s v) ≡ true
  value_word Voter v = number_word (v + 1)
  value_word Alt v = letters_word (v ∷ [])
  value_word Ballot v = letters_word (ballot_ranking size v)
  value_word Profile v = profile_word v

  pub literal_word : (l : Literal) → is_word (literal_text size l) ≡ true
  literal_word (Wins x p) = and_from _ _ (lt-ltb 32 (letter x) (omega arith)) (and_from true _ refl (profile_word p))
  literal_word (Loses x p) = and_from true _ refl (and_from _ _ (lt-ltb 32 (letter x) (omega arith)) (and_from true _ refl (profile_word p)))
  literal_word (Above x y p) = and_from _ _ (lt-ltb 32 (letter x) (omega arith)) (and_from true _ refl (and_from _ _ (lt-ltb 32 (letter y) (omega arith)) (and_from true _ refl (profile_word p))))

  abbrev in_size : Literal → Type 0
  in_size l = profile_of l < sort_count size Profile

  pub literals_same : (k l : Literal) → in_size k → in_size l → literal_text size k ≡ literal_text size l → k ≡ l
  literals_same (Wins x p) (Wins y q) h i e =
      let a : x ≡ y = omega (arith, head_same (letter x) (letter y) _ _ e) in
      ap₂ Wins a (profiles_same p q h i (tail_same 64 64 _ _ (tail_same (letter x) (letter y) _ _ e)))
  literals_same (Loses x p) (Loses y q) h i e =
      let t = tail_same 33 33 _ _ e in
      let a : x ≡ y = omega (arith, head_same (letter x) (letter y) _ _ t) in
      ap₂ Loses a (profiles_same p q h i (tail_same 64 64 _ _ (tail_same (letter x) (letter y) _ _ t)))
  literals_same (Above x y p) (Above v w q) h i e =
      let t = tail_same 62 62 _ _ (tail_same (letter x) (letter v) _ _ e) in
      let a : x ≡ v = omega (arith, head_same (letter x) (letter v) _ _ e) in
      let b : y ≡ w = omega (arith, head_same (letter y) (letter w) _ _ t) in
      let c = profiles_same p q h i (tail_same 64 64 _ _ (tail_same (letter y) (letter w) _ _ t)) in
      λ j. Above (a j) (b j) (c j)
  literals_same (Wins x p) (Loses y q) h i e = absurd (omega (arith, head_same (letter x) 33 _ _ e))
  literals_same (Loses x p) (Wins y q) h i e = absurd (omega (arith, head_same 33 (letter y) _ _ e))
  literals_same (Wins x p) (Above v w q) h i e = absurd (omega (arith, head_same 64 62 _ _ (tail_same (letter x) (letter v) _ _ e)))
  literals_same (Above x y p) (Wins v q) h i e = absurd (omega (arith, head_same 62 64 _ _ (tail_same (letter x) (letter v) _ _ e)))
  literals_same (Loses x p) (Above v w q) h i e = absurd (omega (arith, head_same 33 (letter v) _ _ e))
  literals_same (Above x y p) (Loses v q) h i e = absurd (omega (arith, head_same (letter x) 33 _ _ e))

name_byte_word : (b : ℕ) → is_name_byte b ≡ true → nat_lt 32 b ≡ true
name_byte_word b e = elim (or_cases (is_lower b || is_digit b) (b == 95) e) [
  | inl f ↦ elim (or_cases (is_lower b) (is_digit b) f) [
    | inl g ↦ lower_word b g
    | inr g ↦ digit_word b g
  ]
  | inr f ↦ lt-ltb 32 b (omega (arith, eqb-true b 95 f))
]

pub name_word : (w : List ℕ) → is_name w ≡ true → is_word w ≡ true
name_word [] e = refl
name_word (c ∷ cs) e =
    let p = and_parts (is_lower c && list_all is_name_byte cs) (nat_le (length (c ∷ cs)) 32) e in
    let q = and_parts (is_lower c) (list_all is_name_byte cs) p.0 in
    and_from _ _ (lower_word c q.0) (all_weaker is_name_byte (λ b. nat_lt 32 b) name_byte_word cs q.1)

-- axioms with names of their own
own_head : (a : Titled) (axioms : List Titled) (k : ℕ) → k < length axioms → list_any (λ b. pointwise nat_eq a.name b.name) axioms ≡ false → a.name ≡ name_at axioms k → ⊥
own_head a [] k h e same = omega (arith, h)
own_head a (b ∷ axioms) zero h e same = true≢false (sym ((bytes_eq-Decides a.name b.name).1 same) ∙ (or_parts (pointwise nat_eq a.name b.name) _ e).0)
own_head a (b ∷ axioms) (suc k) h e same = own_head a axioms k (omega (arith, h)) ((or_parts (pointwise nat_eq a.name b.name) _ e).1) same

pub names_own : (axioms : List Titled) → axioms_have_own_names axioms ≡ true → (j k : ℕ) → j < length axioms → k < length axioms → name_at axioms j ≡ name_at axioms k → j ≡ k
names_own [] own j k h i e = absurd (omega (arith, h))
names_own (a ∷ axioms) own zero zero h i e = refl
names_own (a ∷ axioms) own zero (suc k) h i e = absurd (own_head a axioms k (omega (arith, i)) (not-true _ (and_parts (not (list_any (λ b. pointwise nat_eq a.name b.name) axioms)) (axioms_have_own_names axioms) own).0) e)
names_own (a ∷ axioms) own (suc j) zero h i e = absurd (own_head a axioms j (omega (arith, h)) (not-true _ (and_parts (not (list_any (λ b. pointwise nat_eq a.name b.name) axioms)) (axioms_have_own_names axioms) own).0) (sym e))
names_own (a ∷ axioms) own (suc j) (suc k) h i e = ap suc (names_own axioms (and_parts (not (list_any (λ b. pointwise nat_eq a.name b.name) axioms)) (axioms_have_own_names axioms) own).1 j k (omega (arith, h)) (omega (arith, i)) e)
