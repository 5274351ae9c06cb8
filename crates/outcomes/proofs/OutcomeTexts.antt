-- Texts of outcomes.
use Rattle.std.proofs.Common.{◌≡◌, refl, ap, ℕ, ◌-◌, ◌^◌, ◌<◌, ◌≤◌, Bool, true, ◌&&◌, leb-true, List, [], map, length, arith, le-leb}
use Rattle.std.specs.Prelude.{nat_le, slice_index}
use Rattle.std.specs.List.{list_all}
use Rattle.std.proofs.lemmas.Bool.{and_from, and_parts}
use Rattle.lists.proofs.TestLaws.{all_read}
use Rattle.vocab.specs.declared.kinds.Kind.{Kind}
use Rattle.vocab.specs.declared.kinds.Kind.TheVariants.{Choice, Ranking, Sets}
use Rattle.vocab.specs.Name.{is_lower}
use Rattle.vocab.specs.Size.{Extent, IsSize, factorial, outcome_count}
use Rattle.meaning.specs.Subsets.{elements}
use Rattle.meaning.specs.Space.{below, rankings, ranking}
use Rattle.meaning.specs.Texts.{letter, outcome_text_of}
use Rattle.meaning.proofs.SpaceLaws.{all_at, length-rankings}
use Rattle.meaning.proofs.TextLaws.{set_texts_same}
use Rattle.profiles.proofs.DistinctTexts.{have_texts_of_their_own}
use Rattle.profiles.proofs.TableLemmas.{length-letters}
use Rattle.outcomes.specs.Laws.{HaveTextsOfLetters}

abbrev has_letters : List ℕ → Bool
has_letters r = list_all is_lower (map letter r)

rankings_have_letters : (m o : ℕ) → m ≤ 5 → o < factorial m → has_letters (ranking m o) ≡ true
rankings_have_letters m o few in_o =
    all_read has_letters (rankings m) o [] (omega (arith, length-rankings m, in_o)) (all_at (λ n. list_all has_letters (rankings n)) 6 0 m refl (omega arith) (omega arith))

-- a text of one to five small letters, as a test that computes
abbrev is_text : List ℕ → Bool
is_text text = nat_le 1 (length text) && nat_le (length text) 5 && list_all is_lower text

sets_are_texts : (m o : ℕ) → m ≤ 5 → o < 2 ^ m - 1 → is_text (map letter (elements m o)) ≡ true
sets_are_texts m o few in_o =
    all_at (λ c. is_text (map letter (elements m c))) (2 ^ m - 1) 0 o
    (all_at (λ n. list_all (λ c. is_text (map letter (elements n c))) (below (2 ^ n - 1))) 6 0 m refl (omega arith) (omega (arith, few)))
    (omega arith) (omega (arith, in_o))

module _ (size : Extent) (is_size : IsSize size) where
  abbrev IsText : List ℕ → Type 0
  IsText text = (1 ≤ length text) × (length text ≤ 5) × (list_all is_lower text ≡ true)

  text_of : (k : Kind) (o : ℕ) → o < outcome_count k size.alternatives → IsText (outcome_text_of size k o)
  text_of Choice o in_o =
      let few = is_size.few_alternatives in
      (omega arith, omega arith, and_from _ _ (and_from _ _ (le-leb 97 (letter o) (omega arith)) (le-leb (letter o) 122 (omega (arith, few, in_o)))) refl)
  text_of Ranking o in_o =
      let few = is_size.few_alternatives in
      let some = is_size.some_alternative in
      let long = length-letters size.alternatives o in_o in
      (omega (arith, some, long), omega (arith, few, long), rankings_have_letters size.alternatives o few in_o)
  text_of Sets o in_o =
      let text = map letter (elements size.alternatives o) in
      let e = and_parts (nat_le 1 (length text) && nat_le (length text) 5) (list_all is_lower text) (sets_are_texts size.alternatives o is_size.few_alternatives in_o) in
      let f = and_parts (nat_le 1 (length text)) (nat_le (length text) 5) e.0 in
      (leb-true _ _ f.0, leb-true _ _ f.1, e.1)

  other_text : (k : Kind) (o q : ℕ) → o < outcome_count k size.alternatives → q < outcome_count k size.alternatives → outcome_text_of size k o ≡ outcome_text_of size k q → o ≡ q
  other_text Choice o q in_o in_q e = let f : letter o ≡ letter q = ap (λ t. slice_index t 0) e in omega (arith, f)
  other_text Ranking o q in_o in_q e = (have_texts_of_their_own size is_size).rankings o q in_o in_q e
  other_text Sets o q in_o in_q e = set_texts_same size.alternatives o q in_o in_q e

pub have_texts_of_letters : (size : Extent) → IsSize size → HaveTextsOfLetters size
have_texts_of_letters size h = record {
  some_letter = λ o in_o. (text_of size h size.kind o in_o).0;
  few_letters = λ o in_o. (text_of size h size.kind o in_o).1;
  letters = λ o in_o. (text_of size h size.kind o in_o).2;
  distinct = other_text size h size.kind;
}
