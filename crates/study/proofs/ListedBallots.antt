-- The rankings whose texts are listed, as digits of a number, one text after another.
use mathlib.Core.Bool.{or-false}
use Rattle.std.proofs.Common.{◌≡◌, ◌≢◌, refl, sym, ◌∙◌, ap, subst, ℕ, zero, suc, ◌+◌, ◌*◌, ◌^◌, ◌%◌, ◌<◌, ◌≤◌, List, [], ◌∷◌, ◌++◌, length, get_or, take, drop, Bool, true, false, not, ◌&&◌, ◌||◌, if◌then◌else◌, Some, Ok, Err, inl, inr, bit_or, arith}
use Rattle.std.specs.Prelude.{◌==◌}
use Rattle.std.specs.Int.{bit_at, w128}
use Rattle.std.specs.List.{list_any}
use Rattle.std.specs.Str.{bytes_eq}
use Rattle.std.proofs.lemmas.Bool.{and_from, cases_eq, eq-eqb, ne_eqb, not_from_false, or_from, or_right}
use Rattle.std.proofs.lemmas.Slice.Eq.{bytes_eq-Decides}
use Rattle.std.proofs.lemmas.List.{drop_all, drop_more, take_all, take_more}
use Rattle.std.proofs.lemmas.List.Folds.{list_any-append}
use Rattle.std.proofs.lemmas.Nat.{one_shl, or_lt, pow_below}
use Rattle.std.proofs.lemmas.Nat.Bits.{bit_at_set_other, bit_at_set_same}
use Rattle.lists.proofs.TextLaws.{differ}
use Rattle.vocab.specs.Range.{up_from}
use Rattle.vocab.specs.Size.{factorial, is_digit_set}
use Rattle.vocab.proofs.DigitNumbers.{same_digits}
use Rattle.meaning.specs.Texts.{ranking_text}
use Rattle.meaning.proofs.SpaceLaws.{factorial_small, any_from}
use Rattle.profiles.specs.Weights.{rank_of}
use Rattle.profiles.proofs.TableLemmas.{rank-ranking}
use Rattle.study.specs.declared.faults.StudyFault.TheVariants as fault
use Rattle.study.specs.Ballots.{is_ranking, own_rankings, is_listed, listed_digits, ballots_in}
use Rattle.study.specs.Refusing.{and_then}

-- ---- one more digit

-- one more digit is set
digit_added : (a place j : ℕ) → place < 128 → is_digit_set (bit_or a (1 * 2 ^ place % 2 ^ 128)) j ≡ (is_digit_set a j || (j == place))
digit_added a place j h = elim (cases_eq j place) [
  | inl same ↦
      let here : bit_at (bit_or a (1 * 2 ^ place % 2 ^ 128)) j ≡ 1 = subst (λ i. bit_at (bit_or a (1 * 2 ^ place % 2 ^ 128)) i ≡ 1) (sym same) (bit_at_set_same w128 a place h) in
      ap (λ d. d == 1) here ∙ sym (or_right (is_digit_set a j) (j == place) (eq-eqb j place same))
  | inr other ↦
      let kept : bit_at (bit_or a (1 * 2 ^ place % 2 ^ 128)) j ≡ bit_at a j = bit_at_set_other w128 a place h j other in
      ap (λ d. d == 1) kept ∙ sym (ap (λ b. is_digit_set a j || b) (ne_eqb j place other) ∙ or-false (is_digit_set a j))
]

digit_fits : (n a place : ℕ) → n ≤ 128 → a < 2 ^ n → place < n → bit_or a (1 * 2 ^ place % 2 ^ 128) < 2 ^ n
digit_fits n a place most small h =
    let within : place < 128 = omega arith in
    subst (λ d. bit_or a d < 2 ^ n) (sym (one_shl place 128 within)) (or_lt n a (2 ^ place) small (pow_below place n h))

-- ---- the rankings of a text

none_below : (p : ℕ → Bool) (n a : ℕ) → ((k : ℕ) → k < a + n → p k ≡ false) → list_any p (up_from a n) ≡ false
none_below p zero a h = refl
none_below p (suc n) a h = or_from (p a) (list_any p (up_from (suc a) n)) (h a (omega arith)) (none_below p n (suc a) (λ k l. h k (omega arith)))

text_tested : (xs ys : List ℕ) → xs ≡ ys → bytes_eq xs ys ≡ true
text_tested xs ys e = (bytes_eq-Decides xs ys).1 e

-- a text that is that of a ranking, and one that is that of none
pub ranking_found : (m place : ℕ) (text : List ℕ) → place < factorial m → text ≡ ranking_text m place → is_ranking m text ≡ true
ranking_found m place text h e =
    any_from (λ k. bytes_eq text (ranking_text m k)) (factorial m) 0 place (text_tested text (ranking_text m place) e) (omega arith) (omega arith)

pub ranking_missed : (m : ℕ) (text : List ℕ) → ((place : ℕ) → place < factorial m → text ≢ ranking_text m place) → is_ranking m text ≡ false
ranking_missed m text none =
    none_below (λ k. bytes_eq text (ranking_text m k)) (factorial m) 0 (λ k l. differ text (ranking_text m k) (none k (omega arith)))

-- rankings have texts of their own
ranking_tested : (m j place : ℕ) → 1 ≤ m → m ≤ 5 → j < factorial m → place < factorial m → bytes_eq (ranking_text m j) (ranking_text m place) ≡ (j == place)
ranking_tested m j place some few h l = elim (cases_eq j place) [
  | inl same ↦ text_tested (ranking_text m j) (ranking_text m place) (ap (ranking_text m) same) ∙ sym (eq-eqb j place same)
  | inr other ↦
      differ (ranking_text m j) (ranking_text m place) (λ e. other (sym (rank-ranking m j some few h) ∙ ap rank_of e ∙ rank-ranking m place some few l))
      ∙ sym (ne_eqb j place other)
]

-- ---- text by text

module _ (m : ℕ) (texts : List (List ℕ)) where
  -- of some texts from the first, each is that of a ranking that stands nowhere earlier, and these are their digits
  pub record AreTaken (i ballots : ℕ) : Type 0 where
    pub so_far : own_rankings m (take i texts) (drop i texts) ≡ own_rankings m [] texts
    pub digits : (j : ℕ) → j < factorial m → is_digit_set ballots j ≡ is_listed m (take i texts) j
    pub small : ballots < 2 ^ factorial m

  -- one more text
  abbrev is_own : ℕ → List ℕ → Bool
  is_own i text = is_ranking m text && not (list_any (bytes_eq text) (take i texts))

  own_at : (i : ℕ) (text : List ℕ) → i < length texts → text ≡ get_or texts i text
      → own_rankings m (take i texts) (drop i texts) ≡ (if is_own i text then own_rankings m (take (i + 1) texts) (drop (i + 1) texts) else Err (fault.Ballot text))
  own_at i text within is = rw (take_more texts i text within, drop_more texts i text within, ← is) refl

  stops : (i ballots : ℕ) (text : List ℕ) → i < length texts → text ≡ get_or texts i text → AreTaken i ballots → is_own i text ≡ false → ballots_in m (Some texts) ≡ Err (fault.Ballot text)
  stops i ballots text within is taken bad =
      let here : own_rankings m [] texts ≡ Err (fault.Ballot text) = sym taken.so_far ∙ own_at i text within is ∙ rw bad refl in
      ap (and_then (λ (_ : Unit {0}). Ok (listed_digits m texts))) here

  earlier_text : (i ballots place : ℕ) (text : List ℕ) → AreTaken i ballots → place < factorial m → text ≡ ranking_text m place → list_any (bytes_eq text) (take i texts) ≡ is_digit_set ballots place
  earlier_text i ballots place text taken h spelled = ap (λ t. list_any (bytes_eq t) (take i texts)) spelled ∙ sym (taken.digits place h)

  -- that is no ranking
  pub missed_text : (i ballots : ℕ) (text : List ℕ) → i < length texts → text ≡ get_or texts i text → AreTaken i ballots → ((place : ℕ) → place < factorial m → text ≢ ranking_text m place)
      → ballots_in m (Some texts) ≡ Err (fault.Ballot text)
  missed_text i ballots text within is taken none = stops i ballots text within is taken (ap (λ b. b && not (list_any (bytes_eq text) (take i texts))) (ranking_missed m text none))

  -- that is a ranking and stands nowhere earlier
  pub taken_more : (i ballots place : ℕ) (text : List ℕ) → 1 ≤ m → m ≤ 5 → i < length texts → text ≡ get_or texts i text → AreTaken i ballots → place < factorial m → text ≡ ranking_text m place → is_digit_set ballots place ≡ false
      → AreTaken (i + 1) (bit_or ballots (1 * 2 ^ place % 2 ^ 128))
  taken_more i ballots place text some few within is taken h spelled new =
      let few_places = factorial_small m few in
      let own : is_own i text ≡ true = and_from _ _ (ranking_found m place text h spelled) (not_from_false _ (earlier_text i ballots place text taken h spelled ∙ new)) in
      let next : take (i + 1) texts ≡ take i texts ++ text ∷ [] = take_more texts i text within ∙ ap (λ t. take i texts ++ t ∷ []) (sym is) in
      let last : (j : ℕ) → j < factorial m → is_listed m (text ∷ []) j ≡ (j == place) = λ j l. or-false (bytes_eq (ranking_text m j) text) ∙ ap (bytes_eq (ranking_text m j)) spelled ∙ ranking_tested m j place some few l h in
      record {
        so_far = sym (own_at i text within is ∙ rw own refl) ∙ taken.so_far;
        digits = λ j l.
            digit_added ballots place j (omega arith) ∙ ap (λ b. b || (j == place)) (taken.digits j l) ∙ ap (λ b. is_listed m (take i texts) j || b) (sym (last j l))
            ∙ sym (ap (λ ts. is_listed m ts j) next ∙ list_any-append (bytes_eq (ranking_text m j)) (take i texts) (text ∷ []));
        small = digit_fits (factorial m) ballots place (omega arith) taken.small h;
      }

  -- all texts
  pub taken_all : (i ballots : ℕ) → length texts ≤ i → AreTaken i ballots → ballots_in m (Some texts) ≡ Ok ballots
  taken_all i ballots past taken =
      let done : own_rankings m [] texts ≡ Ok tt = sym taken.so_far ∙ ap (own_rankings m (take i texts)) (drop_all i texts past) in
      let same = same_digits (is_listed m texts) (factorial m) ballots taken.small (λ j l. taken.digits j l ∙ ap (λ ts. is_listed m ts j) (take_all i texts past)) in
      ap (and_then (λ (_ : Unit {0}). Ok (listed_digits m texts))) done ∙ ap Ok same
