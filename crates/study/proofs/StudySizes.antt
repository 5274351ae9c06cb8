-- The size of a study, from what its head says.
use Rattle.std.proofs.Common.{◌≡◌, ◌≤◌, refl, sym, ◌∙◌, ap, subst, ℕ, zero, suc, ◌+◌, ◌<◌, List, [], ◌∷◌, filter, Bool, true, false, cond, None, Some, Result, Ok, arith, ltb-true}
use Rattle.std.specs.Prelude.{ℤ, pos, negsuc, nat_abs, nat_le, nat_lt, ◌^◌}
use Rattle.std.proofs.lemmas.Bool.{false≢true, and_parts, leb-true}
use Rattle.vocab.specs.declared.kinds.Kind.{Kind}
use Rattle.vocab.specs.declared.kinds.Sort.TheVariants.{Profile}
use Rattle.vocab.specs.Range.{up_from, below}
use Rattle.vocab.specs.Size.{Extent, IsSize, all_ballots, ballot_count, ballot_places, factorial, is_digit_set, sort_count}
use Rattle.vocab.specs.SizeFault.{extent_of, has_domain, is_between, size_of, size_with}
use Rattle.study.specs.declared.drafts.Head.{Head}
use Rattle.study.specs.declared.faults.StudyFault.{StudyFault}
use Rattle.study.specs.declared.faults.StudyFault.TheVariants as fault
use Rattle.study.specs.Ballots.{alternatives_of, ballots_in, is_listed, listed_digits, own_rankings, sized}
use Rattle.study.specs.Refusing.{refused_as}
use Rattle.study.proofs.Listings.{came_from, known, ok_once}
use Rattle.vocab.proofs.DigitNumbers.{digits_set}

between : (low : ℕ) (z : ℤ) (high : ℕ) → is_between low z high ≡ true → (low ≤ nat_abs z) × (nat_abs z ≤ high)
between low (pos n) high within = let (from, to) = and_parts (nat_le low n) (nat_le n high) within in (leb-true low n from, leb-true n high to)
between low (negsuc n) high within = absurd (false≢true within)

-- ---- a size that is tested

-- it is one, of these numbers and these ballots
record IsTested (wanted s : Extent) : Type 0 where
  valid : IsSize s
  same : s ≡ wanted

module _ (kind : Kind) (n m : ℤ) (b : ℕ) (absent : Bool) where
  abbrev wanted : Extent
  wanted = extent_of kind n m b absent

  tested : (voters alternatives domain few : Bool) (s : Extent) → is_between 1 n 8 ≡ voters → is_between 1 m 5 ≡ alternatives → has_domain wanted ≡ domain → nat_le (sort_count wanted Profile) 20000 ≡ few
      → size_with kind n m b absent ≡ Ok s → IsTested wanted s
  tested false a d f s e e' e1 e'' h = absurd (let h' = rw e at h in cc)
  tested true false d f s e e' e1 e'' h = absurd (let h' = rw (e, e') at h in cc)
  tested true true false f s e e' e1 e'' h = absurd (let h' = rw (e, e', e1) at h in cc)
  tested true true true false s e e' e1 e'' h = absurd (let h' = rw (e, e', e1, e'') at h in cc)
  tested true true true true s e e' e1 e'' h =
      let h' = rw (e, e', e1, e'') at h in
      let same : wanted ≡ s = ok_once h' in
      let (some_voter, few_voters) = between 1 n 8 e in
      let (some_alternative, few_alternatives) = between 1 m 5 e' in
      let domain = and_parts (nat_le 1 (ballot_count wanted)) (nat_lt b (2 ^ factorial (nat_abs m))) e1 in
      record {
        valid = subst IsSize same (record {
          some_voter = some_voter;
          few_voters = few_voters;
          some_alternative = some_alternative;
          few_alternatives = few_alternatives;
          some_ballot = leb-true 1 _ domain.0;
          no_other_ballot = ltb-true _ _ domain.1;
          few_profiles = leb-true _ 20000 e'';
        });
        same = sym same;
      }

-- ---- the size of a head

alternatives_counted : (n m : ℤ) (voters alternatives : Bool) (k : ℕ) → is_between 1 n 8 ≡ voters → is_between 1 m 5 ≡ alternatives → alternatives_of n m ≡ Ok k → k ≡ nat_abs m
alternatives_counted n m false a k e e' h = absurd (let h' = rw e at h in cc)
alternatives_counted n m true false k e e' h = absurd (let h' = rw (e, e') at h in cc)
alternatives_counted n m true true k e e' h = let h' = rw (e, e') at h in sym (ok_once h')

-- it is one, of the numbers that the head says and some ballots
pub record IsSizedBy (head : Head) (s : Extent) : Type 0 where
  pub ballots : ℕ
  pub listed : ballots_in (nat_abs head.alternatives) head.ballots ≡ Ok ballots
  pub valid : IsSize s
  pub same : s ≡ extent_of head.kind head.voters head.alternatives ballots head.absent

pub sized_by : (head : Head) (s : Extent) → sized head ≡ Ok s → IsSizedBy head s
unfolding sized
sized_by head s e =
    let m = came_from _ (alternatives_of head.voters head.alternatives) s e in
    let ballots = came_from _ (ballots_in m.value head.ballots) s m.after in
    let given = known fault.Size (size_with head.kind head.voters head.alternatives ballots.value head.absent) s ballots.after in
    let is = tested head.kind head.voters head.alternatives ballots.value head.absent _ _ _ _ s refl refl refl refl given in
    let counted = alternatives_counted head.voters head.alternatives _ _ m.value refl refl m.first in
    record { ballots = ballots.value; listed = subst (λ k. ballots_in k head.ballots ≡ Ok ballots.value) counted ballots.first; valid = is.valid; same = is.same }

-- ---- the ballots that are listed

same_kept : (t u : ℕ → Bool) (n a : ℕ) → ((k : ℕ) → k < a + n → t k ≡ u k) → filter t (up_from a n) ≡ filter u (up_from a n)
same_kept t u zero a h = refl
same_kept t u (suc n) a h =
    ap (λ (b : Bool). cond b (a ∷ filter t (up_from (suc a) n)) (filter t (up_from (suc a) n))) (h a (omega arith))
    ∙ ap (λ (rest : List ℕ). cond (u a) (a ∷ rest) rest) (same_kept t u n (suc a) (λ k l. h k (omega arith)))

digits_of_texts : (m : ℕ) (texts : List (List ℕ)) (ballots : ℕ) → ballots_in m (Some texts) ≡ Ok ballots → listed_digits m texts ≡ ballots
digits_of_texts m texts ballots e = let own = came_from _ (own_rankings m [] texts) ballots e in ok_once own.after

-- the ballots of a size are the rankings whose texts its head lists
pub listed_places : (head : Head) (texts : List (List ℕ)) (s : Extent) → head.ballots ≡ Some texts → sized head ≡ Ok s → ballot_places s ≡ filter (is_listed s.alternatives texts) (below (factorial s.alternatives))
listed_places head texts s texts_are e =
    let by = sized_by head s e in
    let m = nat_abs head.alternatives in
    let digits : listed_digits m texts ≡ by.ballots = digits_of_texts m texts by.ballots (subst (λ o. ballots_in m o ≡ Ok by.ballots) texts_are by.listed) in
    let places : filter (is_digit_set by.ballots) (below (factorial m)) ≡ filter (is_listed m texts) (below (factorial m)) =
    ap (λ b. filter (is_digit_set b) (below (factorial m))) (sym digits) ∙ same_kept (is_digit_set (listed_digits m texts)) (is_listed m texts) (factorial m) 0 (λ k l. digits_set (is_listed m texts) (factorial m) k (omega arith)) in
    subst (λ (x : Extent). ballot_places x ≡ filter (is_listed x.alternatives texts) (below (factorial x.alternatives))) (sym by.same) places

-- the ballots of a size are all rankings where its head lists none
pub all_places : (head : Head) (s : Extent) → head.ballots ≡ None → sized head ≡ Ok s → s.ballots ≡ all_ballots s.alternatives
all_places head s none e =
    let by = sized_by head s e in
    let all : Path (Result ℕ StudyFault) (Ok (all_ballots (nat_abs head.alternatives))) (Ok by.ballots) = subst (λ o. ballots_in (nat_abs head.alternatives) o ≡ Ok by.ballots) none by.listed in
    subst (λ (x : Extent). x.ballots ≡ all_ballots x.alternatives) (sym by.same) (sym (ok_once all))

-- ---- a head that says nothing of ballots and of absence

plain_by : (head : Head) (voters alternatives : Bool) → head.ballots ≡ None → head.absent ≡ false → is_between 1 head.voters 8 ≡ voters → is_between 1 head.alternatives 5 ≡ alternatives
    → sized head ≡ refused_as fault.Size (size_of head.kind head.voters head.alternatives)
unfolding sized
plain_by head false a none present e e' = rw e refl
plain_by head true false none present e e' = rw (e, e') refl
plain_by head true true none present e e' = rw (none, present, e, e') refl

-- it has the size of its numbers, or their first fault
pub plain_size : (head : Head) → head.ballots ≡ None → head.absent ≡ false → sized head ≡ refused_as fault.Size (size_of head.kind head.voters head.alternatives)
plain_size head none present = plain_by head (is_between 1 head.voters 8) (is_between 1 head.alternatives 5) none present refl refl
