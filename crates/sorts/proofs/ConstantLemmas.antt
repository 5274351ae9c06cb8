-- Constants and their texts.
use Rattle.std.proofs.Common.{◌≡◌, refl, sym, ◌∙◌, ap, ℕ, zero, suc, ◌+◌, ◌<◌, ◌≤◌, Bool, true, false, List, arith, true≢false, Option, Some, None, cond}
use Rattle.std.specs.Prelude.{◌≢◌, find, IfSome, IfNone}
use Rattle.std.specs.Cmp.Lexicographic.{bytes_decides}
use Rattle.std.specs.Str.{bytes_eq}
use Rattle.lists.proofs.TextLaws.{differ}
use Rattle.vocab.specs.Size.{Extent, ballot_count}
use Rattle.meaning.specs.Space.{up_from}
use Rattle.meaning.specs.Texts.{ballot_text}
use Rattle.profiles.specs.Distinct.{HaveTextsOfTheirOwn}
use Rattle.sorts.specs.Constants.{ballot_value}

-- a number that is another and not below is above
above_other : (a b : ℕ) → a ≤ b → a ≢ b → suc a ≤ b
above_other a b le ne = grind (arith, ne)

-- the only number of a range that passes a test is found
find_only : (t : ℕ → Bool) (a n b : ℕ) → a ≤ b → b < a + n → t b ≡ true → ((x : ℕ) → x < a + n → t x ≡ true → x ≡ b) → find t (up_from a n) ≡ Some b
find_only t a zero b low high passes only = absurd (omega (arith, low, high))
find_only t a (suc n) b low high passes only =
    elim (t a) as (λ r. t a ≡ r → cond r (Some a) (find t (up_from (suc a) n)) ≡ Some b) [
      | true ↦ λ e. ap Some (only a (omega arith) e)
      | false ↦ λ e.
          let other : a ≢ b = λ same. true≢false (sym passes ∙ sym (ap t same) ∙ e) in
          let above : suc a ≤ b = above_other a b low other in
          find_only t (suc a) n b above (omega (arith, high)) passes (λ x lt. only x (omega (arith, lt)))
    ] refl

-- where none passes there is none
find_none : (t : ℕ → Bool) (a n : ℕ) → ((x : ℕ) → x < a + n → t x ≡ false) → find t (up_from a n) ≡ None
find_none t a zero fails = refl
find_none t a (suc n) fails =
    ap (λ r. cond r (Some a) (find t (up_from (suc a) n))) (fails a (omega arith)) ∙ find_none t (suc a) n (λ x lt. fails x (omega (arith, lt)))

-- a ballot that is read is the one of the letters, and where none is read there is none
pub read_is_value : (size : Extent) (letters : List ℕ) (r : Option ℕ) → HaveTextsOfTheirOwn size
    → IfSome r (λ b. (b < ballot_count size) × (letters ≡ ballot_text size b))
    → IfNone r ((b : ℕ) → b < ballot_count size → letters ≢ ballot_text size b)
    → r ≡ ballot_value size letters
unfolding ballot_value
read_is_value size letters (Some b) own found none =
    let t : ℕ → Bool = λ x. bytes_eq letters (ballot_text size x) in
    let lt : b < 0 + ballot_count size = omega (arith, found.0) in
    sym (find_only t 0 (ballot_count size) b (omega arith) lt ((bytes_decides letters (ballot_text size b)).1 found.1)
    (λ x below_it e. own.ballots x b (omega (arith, below_it)) found.0 (sym ((bytes_decides letters (ballot_text size x)).0 e) ∙ found.1)))
read_is_value size letters None own found none =
    sym (find_none (λ x. bytes_eq letters (ballot_text size x)) 0 (ballot_count size) (λ x lt. differ letters (ballot_text size x) (none x (omega (arith, lt)))))
