-- Texts that stand in others.
use Rattle.std.proofs.Common.{◌≡◌, sym, ap, ◌∙◌, subst, ℕ, zero, suc, ◌+◌, ◌<◌, ◌==◌, Bool, true, false, cond, List, [], ◌∷◌, ◌++◌, append-nil, append_assoc, arith, Some, slice_get, count_by, ne_eqb, true≢false}
use Rattle.std.specs.List.{flat_map}
use Rattle.std.proofs.lemmas.List.Sums.{sum_by-cons}
use Rattle.vocab.specs.Range.{below}
use Rattle.vocab.proofs.Ranges.{at_below}
use Rattle.story_pages.specs.Laws.{StandsIn}

-- a text in itself
pub whole : (t : List ℕ) → StandsIn t t
whole t = record { before = []; after = []; is = sym (append-nil t) }

pub in_front : (part one two : List ℕ) → StandsIn part one → StandsIn part (one ++ two)
in_front part one two s = record {
  before = s.before;
  after = s.after ++ two;
  is = ap (λ (l : List ℕ). l ++ two) s.is ∙ append_assoc s.before (part ++ s.after) two ∙ ap (λ (l : List ℕ). s.before ++ l) (append_assoc part s.after two);
}

pub behind : (part one two : List ℕ) → StandsIn part two → StandsIn part (one ++ two)
behind part one two s = record {
  before = one ++ s.before;
  after = s.after;
  is = ap (λ (l : List ℕ). one ++ l) s.is ∙ sym (append_assoc one s.before (part ++ s.after));
}

pub between : (part one two three : List ℕ) → StandsIn part two → StandsIn part ((one ++ two) ++ three)
between part one two three s = in_front part (one ++ two) three (behind part one two s)

-- a text in one that stands in another
pub within : (part one two : List ℕ) → StandsIn part one → StandsIn one two → StandsIn part two
within part one two s t =
    subst (λ (l : List ℕ). StandsIn part l) (sym t.is) (behind part t.before (one ++ t.after) (in_front part one t.after s))

-- the text of an item among those of all
pub in_map : {X : Type 0} (f : X → List ℕ) (xs : List X) (k : ℕ) (x : X) → slice_get xs k ≡ Some x → StandsIn (f x) (flat_map f xs)
in_map f [] k x h = absurd (cc)
in_map f (y ∷ ys) zero x h =
    let same : y ≡ x = cc in
    in_front (f x) (f y) (flat_map f ys) (subst (λ z. StandsIn (f x) (f z)) (sym same) (whole (f x)))
in_map f (y ∷ ys) (suc k) x h = behind (f x) (f y) (flat_map f ys) (in_map f ys k x h)

-- the text of a number among those of all below another
pub in_below : (f : ℕ → List ℕ) (n k : ℕ) → k < n → StandsIn (f k) (flat_map f (below n))
in_below f n k h = in_map f (below n) k k (at_below n k h)

-- what passes is counted
pub some_pass : {X : Type 0} (p : X → Bool) (xs : List X) (k : ℕ) (x : X) → slice_get xs k ≡ Some x → p x ≡ true → 0 < count_by p xs
some_pass p [] k x h e = absurd (cc)
some_pass p (y ∷ ys) zero x h e =
    let same : y ≡ x = cc in
    first (p y) (ap p same ∙ e) (sum_by-cons (λ z. cond (p z) 1 0) y ys)
  where
    first : (b : Bool) → b ≡ true → count_by p (y ∷ ys) ≡ cond b 1 0 + count_by p ys → 0 < count_by p (y ∷ ys)
    first true t all = omega (arith, all)
    first false t all = absurd (true≢false (sym t))
some_pass p (y ∷ ys) (suc k) x h e = later (some_pass p ys k x h e) (cond (p y) 1 0) (sum_by-cons (λ z. cond (p z) 1 0) y ys)
  where
    later : 0 < count_by p ys → (n : ℕ) → count_by p (y ∷ ys) ≡ n + count_by p ys → 0 < count_by p (y ∷ ys)
    later more n all = omega (arith, more, all)

pub is_some : (n : ℕ) → 0 < n → (n == 0) ≡ false
is_some n h = ne_eqb n 0 (omega (arith, h))
