-- Ballots and profiles have texts of their own.
use Rattle.std.proofs.Common.{◌≡◌, inl, inr, get_or, Bool, true, false, cond, ◌+◌, ◌≤◌, refl, zero, suc, sym, ◌∙◌, ap, ap₂, ℕ, ◌<◌, true≢false, ltb-true, List, [], ◌∷◌, ◌++◌, map, length, drop, replicate, arith}
use Rattle.std.specs.Prelude.{nat_lt}
use Rattle.std.specs.List.{join_with_byte}
use Rattle.std.specs.Cmp.Lexicographic.{pointwise}
use Rattle.std.proofs.lemmas.Bool.{and_parts}
use Rattle.vocab.specs.Size.{Extent, IsSize, ballot_count, ballot_places, cast_count}
use Rattle.meaning.specs.Digits.{AreDigits}
use Rattle.meaning.specs.Space.{ballot_number, casts_of, cast_bases, number_of}
use Rattle.meaning.specs.Texts.{ballot_text, cast_text, profile_text, ranking_text}
use Rattle.meaning.proofs.DigitLaws.{are_one_to_one}
use Rattle.profiles.specs.Distinct.{HaveTextsOfTheirOwn}
use Rattle.profiles.proofs.DigitChanges.{ballot_digits}
use Rattle.profiles.proofs.DigitPlaces.{IsListed, below_product}
use Rattle.profiles.proofs.JoinLemmas.{barred, join-cons}
use Rattle.std.proofs.lemmas.List.{append-nil}
use Rattle.std.proofs.lemmas.Bool.{cases_lt}
use Rattle.meaning.proofs.BallotLaws.{numbered_place, place_below}
use Rattle.profiles.proofs.ProfileTexts.{absence_dash, after_cast, ballot_letters, cast_is_ballot, cast_letters, first_letter, length-texts_of, same_place, texts_of}

same_ballot : (size : Extent) → IsSize size → (a b : ℕ) → a < ballot_count size → b < ballot_count size → ballot_text size a ≡ ballot_text size b → a ≡ b
same_ballot size valid a b h l e =
    let places : get_or (ballot_places size) a 0 ≡ get_or (ballot_places size) b 0 = same_place size valid _ _ (place_below size a h) (place_below size b l) (sym (ballot_letters size a h) ∙ e ∙ ballot_letters size b l) in
    sym (numbered_place size a h) ∙ ap (ballot_number size) places ∙ numbered_place size b l

one_more : (size : Extent) → cast_count size ≤ ballot_count size + 1
one_more size = cases size.absent
  where
    cases : (absent : Bool) → cond absent (ballot_count size + 1) (ballot_count size) ≤ ballot_count size + 1
    cases true = omega arith
    cases false = omega arith

same_cast : (size : Extent) → IsSize size → (a b : ℕ) → a < cast_count size → b < cast_count size → cast_text size a ≡ cast_text size b → a ≡ b
same_cast size valid a b h l e = elim (cases_lt a (ballot_count size)) [
  | inl la ↦ elim (cases_lt b (ballot_count size)) [
    | inl lb ↦ same_ballot size valid a b la lb (sym (cast_is_ballot size a la) ∙ e ∙ cast_is_ballot size b lb)
    | inr lb ↦ absurd (dash a b la lb e)
  ]
  | inr la ↦ elim (cases_lt b (ballot_count size)) [
    | inl lb ↦ absurd (dash b a lb la (sym e))
    | inr lb ↦ omega (arith, one_more size)
  ]
]
  where
    dash : (i j : ℕ) → i < ballot_count size → ballot_count size ≤ j → cast_text size i ≡ cast_text size j → ⊥
    dash i j li lj same =
        let place = get_or (ballot_places size) i 0 in
        let letter_first = first_letter size.alternatives (get_or (ballot_places size) i 0) [] valid.some_alternative (place_below size i li) in
        let own : ranking_text size.alternatives (get_or (ballot_places size) i 0) ++ [] ≡ 45 ∷ [] = append-nil _ ∙ sym (cast_letters size i li) ∙ same ∙ absence_dash size j lj in
        let first : get_or (ranking_text size.alternatives (get_or (ballot_places size) i 0) ++ []) 0 0 ≡ 45 = ap (λ t. get_or t 0 0) own in
        omega arith

same_barred : (size : Extent) → IsSize size → (n : ℕ) (ds es : List ℕ) → AreDigits (replicate n (cast_count size)) ds → AreDigits (replicate n (cast_count size)) es
    → barred (map (cast_text size) ds) ≡ barred (map (cast_text size) es) → ds ≡ es
same_barred size valid zero [] [] h l e = refl
same_barred size valid zero [] (b ∷ es) h l e = absurd (true≢false (sym l))
same_barred size valid zero (a ∷ ds) es h l e = absurd (true≢false (sym h))
same_barred size valid (suc n) [] es h l e = absurd (true≢false (sym h))
same_barred size valid (suc n) (a ∷ ds) [] h l e = absurd (true≢false (sym l))
same_barred size valid (suc n) (a ∷ ds) (b ∷ es) h l e =
    let f = cast_count size in
    let first = and_parts (nat_lt a f) (pointwise nat_lt ds (replicate n f)) h in
    let second = and_parts (nat_lt b f) (pointwise nat_lt es (replicate n f)) l in
    let both = after_cast size valid a b (barred (map (cast_text size) ds)) (barred (map (cast_text size) es)) (ap (drop 1) e) in
    ap₂ (λ (x : ℕ) (xs : List ℕ). x ∷ xs) (same_cast size valid a b (ltb-true a f first.0) (ltb-true b f second.0) both.0) (same_barred size valid n ds es first.1 second.1 both.1)

barred-join : (xs : List (List ℕ)) → 0 < length xs → barred xs ≡ 124 ∷ join_with_byte 124 xs
barred-join [] h = absurd (omega arith)
barred-join (x ∷ xs) h = ap (λ (t : List ℕ). 124 ∷ t) (sym (join-cons x xs))

pub same_listed : (size : Extent) → IsSize size → (p q : ℕ) → IsListed size p → IsListed size q → profile_text size p ≡ profile_text size q → p ≡ q
same_listed size valid p q h l e =
    let some : 0 < size.voters = valid.some_voter in
    let texts : barred (texts_of size p) ≡ barred (texts_of size q) = barred-join (texts_of size p) (omega (arith, length-texts_of size p)) ∙ ap (λ (t : List ℕ). 124 ∷ t) e ∙ sym (barred-join (texts_of size q) (omega (arith, length-texts_of size q))) in
    let same : casts_of size p ≡ casts_of size q = same_barred size valid size.voters (casts_of size p) (casts_of size q) (ballot_digits size p h) (ballot_digits size q l) texts in
    sym ((are_one_to_one (cast_bases size)).of_digits p h) ∙ ap (number_of (cast_bases size)) same ∙ (are_one_to_one (cast_bases size)).of_digits q l

pub have_texts_of_their_own : (size : Extent) → IsSize size → HaveTextsOfTheirOwn size
have_texts_of_their_own size valid = record { rankings = same_place size valid; ballots = same_ballot size valid; profiles = λ p q h l. same_listed size valid p q (below_product size p h) (below_product size q l) }
