-- Boards: what has a mark is there, and nothing else.
use mathlib.Core.Bool.{or-true, or-false, or_assoc}
use Rattle.std.proofs.Common.{◌≡◌, ◌≢◌, refl, sym, ◌∙◌, ap, ap₂, subst, ℕ, zero, suc, ◌+◌, ◌*◌, ◌<◌, ◌≤◌, Bool, true, false, not, cond, ◌||◌, inl, inr, List, [], ◌∷◌, ◌++◌, length, get_or, set, arith, true≢false, length-append, length-set}
use Rattle.std.specs.Prelude.{sum_by}
use Rattle.std.specs.List.{list_all, remove}
use Rattle.std.proofs.lemmas.Bool.{and_parts, and_from, or_cases, or_left, or_right, both_ways, false_from_ne_true, not-true, cases_Bool}
use Rattle.std.proofs.lemmas.List.{get_or-set_same, get_or-set_other}
use Rattle.std.proofs.lemmas.List.Sums.{sum_by-set}
use Rattle.vocab.specs.declared.kinds.Kind.{Kind}
use Rattle.vocab.specs.declared.kinds.Kind.TheVariants.{Choice, Ranking, Sets}
use Rattle.vocab.specs.declared.kinds.Sort.TheVariants.{Profile}
use Rattle.vocab.specs.declared.literals.Literal.{Literal}
use Rattle.vocab.specs.declared.literals.Literal.TheVariants.{Wins, Loses, Above}
use Rattle.vocab.specs.Literal.{same_literal, has}
use Rattle.vocab.specs.Size.{Extent, IsSize, sort_count}
use Rattle.meaning.specs.Literals.{is_literal, is_literal_of, is_of_winner}
use Rattle.meaning.proofs.LiteralLaws.{same_literal-equal, same_literal-refl, winner_in, ranking_in}
use Rattle.worlds.specs.Boards.{without_literal, are_distinct, mark_of, free, IsBoard}
use Rattle.lists.proofs.TestLaws.{all_snoc}

-- ---- lists of literals

pub has-append : (ls : List Literal) (k l : Literal) → has (ls ++ l ∷ []) k ≡ (has ls k || same_literal k l)
has-append [] k l = elim (same_literal k l) as (λ b. (b || false) ≡ (false || b)) [ true ↦ refl | false ↦ refl ]
has-append (x ∷ ls) k l = ap (λ b. same_literal k x || b) (has-append ls k l) ∙ sym (or_assoc (same_literal k x) (has ls k) (same_literal k l))

-- a test that all pass, what is there passes
pub all_has : (t : Literal → Bool) (ls : List Literal) (l : Literal) → list_all t ls ≡ true → has ls l ≡ true → t l ≡ true
all_has t [] l h k = absurd (true≢false (sym k))
all_has t (x ∷ ls) l h k =
    let p = and_parts (t x) (list_all t ls) h in
    elim (or_cases (same_literal l x) (has ls l) k) [
      | inl e ↦ subst (λ y. t y ≡ true) (sym (same_literal-equal l x e)) p.0
      | inr e ↦ all_has t ls l p.1 e
    ]

-- what is not there is not what is
apart : (ls : List Literal) (k l : Literal) → has ls k ≡ true → has ls l ≡ false → same_literal k l ≡ false
apart ls k l h n = false_from_ne_true _ (λ e. both_ways _ n (subst (λ x. has ls x ≡ true) (same_literal-equal k l e) h))

same_literal-sym : (k l : Literal) → same_literal k l ≡ false → same_literal l k ≡ false
same_literal-sym k l h = false_from_ne_true _ (λ e. both_ways _ h (subst (λ x. same_literal k x ≡ true) (sym (same_literal-equal l k e)) (same_literal-refl k)))

-- ---- without a literal

without-same : (l x : Literal) (ls : List Literal) → same_literal l x ≡ true → without_literal l (x ∷ ls) ≡ without_literal l ls
without-same l x ls e = ap (λ b. cond (not b) (x ∷ without_literal l ls) (without_literal l ls)) e

without-other : (l x : Literal) (ls : List Literal) → same_literal l x ≡ false → without_literal l (x ∷ ls) ≡ x ∷ without_literal l ls
without-other l x ls e = ap (λ b. cond (not b) (x ∷ without_literal l ls) (without_literal l ls)) e

-- the parts of what is there, and of what is not
not_there : (l x : Literal) (ls : List Literal) → has (x ∷ ls) l ≡ false → (same_literal l x ≡ false) × (has ls l ≡ false)
not_there l x ls h = (false_from_ne_true _ (λ e. both_ways _ h (or_left _ _ e)), false_from_ne_true _ (λ e. both_ways _ h (or_right _ _ e)))

pub without-none : (l : Literal) (ls : List Literal) → has ls l ≡ false → without_literal l ls ≡ ls
without-none l [] h = refl
without-none l (x ∷ ls) h = let n = not_there l x ls h in without-other l x ls n.0 ∙ ap (λ r. x ∷ r) (without-none l ls n.1)

-- without what came last
pub without-last : (l : Literal) (ls : List Literal) → has ls l ≡ false → without_literal l (ls ++ l ∷ []) ≡ ls
without-last l [] h = without-same l l [] (same_literal-refl l)
without-last l (x ∷ ls) h = let n = not_there l x ls h in without-other l x (ls ++ l ∷ []) n.0 ∙ ap (λ r. x ∷ r) (without-last l ls n.1)

pub has-without_same : (l : Literal) (ls : List Literal) → has (without_literal l ls) l ≡ false
has-without_same l [] = refl
has-without_same l (x ∷ ls) = elim (cases_Bool (same_literal l x)) [
  | inl e ↦ subst (λ r. has r l ≡ false) (sym (without-same l x ls e)) (has-without_same l ls)
  | inr e ↦ subst (λ r. has r l ≡ false) (sym (without-other l x ls e)) (ap (λ b. b || has (without_literal l ls) l) e ∙ has-without_same l ls)
]

pub has-without_other : (l k : Literal) (ls : List Literal) → same_literal k l ≡ false → has (without_literal l ls) k ≡ has ls k
has-without_other l k [] h = refl
has-without_other l k (x ∷ ls) h = elim (cases_Bool (same_literal l x)) [
  | inl e ↦
      let here : same_literal k x ≡ false = subst (λ y. same_literal k y ≡ false) (same_literal-equal l x e) h in
      subst (λ r. has r k ≡ has (x ∷ ls) k) (sym (without-same l x ls e)) (has-without_other l k ls h ∙ ap (λ b. b || has ls k) (sym here))
  | inr e ↦ subst (λ r. has r k ≡ has (x ∷ ls) k) (sym (without-other l x ls e)) (ap (λ b. same_literal k x || b) (has-without_other l k ls h))
]

all-without : (t : Literal → Bool) (l : Literal) (ls : List Literal) → list_all t ls ≡ true → list_all t (without_literal l ls) ≡ true
all-without t l [] h = refl
all-without t l (x ∷ ls) h =
    let p = and_parts (t x) (list_all t ls) h in
    elim (cases_Bool (same_literal l x)) [
      | inl e ↦ subst (λ r. list_all t r ≡ true) (sym (without-same l x ls e)) (all-without t l ls p.1)
      | inr e ↦ subst (λ r. list_all t r ≡ true) (sym (without-other l x ls e)) (and_from _ _ p.0 (all-without t l ls p.1))
    ]

-- ---- distinct literals

distinct_parts : (x : Literal) (ls : List Literal) → are_distinct (x ∷ ls) ≡ true → (has ls x ≡ false) × (are_distinct ls ≡ true)
distinct_parts x ls h = let p = and_parts (not (has ls x)) (are_distinct ls) h in (not-true _ p.0, p.1)

distinct-without : (l : Literal) (ls : List Literal) → are_distinct ls ≡ true → are_distinct (without_literal l ls) ≡ true
distinct-without l [] h = refl
distinct-without l (x ∷ ls) h =
    let p = distinct_parts x ls h in
    elim (cases_Bool (same_literal l x)) [
      | inl e ↦ subst (λ r. are_distinct r ≡ true) (sym (without-same l x ls e)) (distinct-without l ls p.1)
      | inr e ↦
          let none : has (without_literal l ls) x ≡ false = has-without_other l x ls (same_literal-sym l x e) ∙ p.0 in
          subst (λ r. are_distinct r ≡ true) (sym (without-other l x ls e)) (and_from _ _ (ap not none) (distinct-without l ls p.1))
    ]

distinct-append : (l : Literal) (ls : List Literal) → are_distinct ls ≡ true → has ls l ≡ false → are_distinct (ls ++ l ∷ []) ≡ true
distinct-append l [] h n = refl
distinct-append l (x ∷ ls) h n =
    let p = distinct_parts x ls h in
    let q = not_there l x ls n in
    let none : has (ls ++ l ∷ []) x ≡ false = has-append ls x l ∙ ap₂ (λ a b. a || b) p.0 (same_literal-sym l x q.0) in
    and_from _ _ (ap not none) (distinct-append l ls p.1 q.1)

-- what came last was not there before
pub last_is_new : (l : Literal) (ls : List Literal) → are_distinct (ls ++ l ∷ []) ≡ true → has ls l ≡ false
last_is_new l [] h = refl
last_is_new l (x ∷ ls) h =
    let p = distinct_parts x (ls ++ l ∷ []) h in
    let n : (has ls x || same_literal x l) ≡ false = sym (has-append ls x l) ∙ p.0 in
    let other : same_literal x l ≡ false = false_from_ne_true _ (λ e. both_ways _ n (or_right _ _ e)) in
    ap₂ (λ a b. a || b) (same_literal-sym x l other) (last_is_new l ls p.1)

length-without : (l : Literal) (ls : List Literal) → are_distinct ls ≡ true → has ls l ≡ true → length (without_literal l ls) + 1 ≡ length ls
length-without l [] h k = absurd (true≢false (sym k))
length-without l (x ∷ ls) h k =
    let p = distinct_parts x ls h in
    elim (or_cases (same_literal l x) (has ls l) k) [
      | inl e ↦
          let gone : has ls l ≡ false = subst (λ y. has ls y ≡ false) (sym (same_literal-equal l x e)) p.0 in
          let rest : without_literal l (x ∷ ls) ≡ ls = without-same l x ls e ∙ without-none l ls gone in
          ap (λ r. length r + 1) rest ∙ omega arith
      | inr e ↦
          let other : same_literal l x ≡ false = apart ls l x e p.0 in
          let inner : length (without_literal l ls) + 1 ≡ length ls = length-without l ls p.1 e in
          ap (λ r. length r + 1) (without-other l x ls other) ∙ omega arith
    ]

-- what stands at a place is there
pub has_at : (ls : List Literal) (i : ℕ) (l d : Literal) → i < length ls → get_or ls i d ≡ l → has ls l ≡ true
has_at [] i l d lt e = absurd (omega arith)
has_at (x ∷ ls) zero l d lt e = or_left _ _ (subst (λ y. same_literal l y ≡ true) (sym e) (same_literal-refl l))
has_at (x ∷ ls) (suc i) l d lt e = or_right _ _ (has_at ls i l d (omega arith) e)

-- a literal is taken away at its place
pub remove-without : (l : Literal) (ls : List Literal) (i : ℕ) → are_distinct ls ≡ true → i < length ls → get_or ls i l ≡ l → remove ls i ≡ without_literal l ls
remove-without l [] i h lt e = absurd (omega arith)
remove-without l (x ∷ ls) zero h lt e =
    let p = distinct_parts x ls h in
    let gone : has ls l ≡ false = subst (λ y. has ls y ≡ false) e p.0 in
    let same : same_literal l x ≡ true = subst (λ y. same_literal l y ≡ true) (sym e) (same_literal-refl l) in
    sym (without-same l x ls same ∙ without-none l ls gone)
remove-without l (x ∷ ls) (suc i) h lt e =
    let p = distinct_parts x ls h in
    let there : has ls l ≡ true = has_at ls i l l (omega arith) e in
    ap (λ r. x ∷ r) (remove-without l ls i p.1 (omega arith) e) ∙ sym (without-other l x ls (apart ls l x there p.0))

-- ---- marks

mark_bound : (x y p m n : ℕ) → x < m → m ≤ 5 → y < 5 → p < n → p * 25 + x * 5 + y < n * 25
mark_bound x y p m n lt few small in_p = omega arith

one_mark : (x y p v w q : ℕ) → x < 5 → y < 5 → v < 5 → w < 5 → p * 25 + x * 5 + y ≡ q * 25 + v * 5 + w → (p ≡ q) × (x ≡ v) × (y ≡ w)
one_mark x y p v w q a b c d e = (omega arith, omega arith, omega arith)

module _ (size : Extent) (valid : IsSize size) where
  below_five : (x : ℕ) → x < size.alternatives → x < 5
  below_five x lt = omega (arith, valid.few_alternatives)

  mark_of_winner : (l : Literal) → is_of_winner size l ≡ true → mark_of l < sort_count size Profile * 25
  mark_of_winner (Wins x p) h =
      let e = winner_in size x p h in
      let bound : p * 25 + x * 5 + 0 < sort_count size Profile * 25 = mark_bound x 0 p size.alternatives (sort_count size Profile) e.0 valid.few_alternatives (omega arith) e.1 in
      omega arith
  mark_of_winner (Loses x p) h = let e = winner_in size x p h in mark_bound x 1 p size.alternatives (sort_count size Profile) e.0 valid.few_alternatives (omega arith) e.1
  mark_of_winner (Above x y p) h = absurd (true≢false (sym h))

  mark_of_kind : (k : Kind) (l : Literal) → is_literal_of size k l ≡ true → mark_of l < sort_count size Profile * 25
  mark_of_kind Choice l h = mark_of_winner l h
  mark_of_kind Ranking (Wins x p) h = absurd (true≢false (sym h))
  mark_of_kind Ranking (Loses x p) h = absurd (true≢false (sym h))
  mark_of_kind Ranking (Above x y p) h = let e = ranking_in size x y p h in mark_bound x y p size.alternatives (sort_count size Profile) e.0 valid.few_alternatives (below_five y e.1) e.3
  mark_of_kind Sets l h = mark_of_winner l h

  pub mark_below : (l : Literal) → is_literal size l ≡ true → mark_of l < sort_count size Profile * 25
  mark_below l h = mark_of_kind size.kind l h

  wins_mark : (x p y q a b : ℕ) → x < 5 → y < 5 → a < 5 → b < 5 → p * 25 + x * 5 + a ≡ q * 25 + y * 5 + b → (x ≡ y) × (p ≡ q) × (a ≡ b)
  wins_mark x p y q a b hx hy ha hb e = let n = one_mark x a p y b q hx ha hy hb e in (n.1, n.0, n.2)

  winners_of_one_mark : (a b : Literal) → is_of_winner size a ≡ true → is_of_winner size b ≡ true → mark_of a ≡ mark_of b → a ≡ b
  winners_of_one_mark (Wins x p) (Wins y q) h g e =
      let n = wins_mark x p y q 0 0 (below_five x (winner_in size x p h).0) (below_five y (winner_in size y q g).0) (omega arith) (omega arith) (omega arith) in
      ap₂ Wins n.0 n.1
  winners_of_one_mark (Loses x p) (Loses y q) h g e =
      let n = wins_mark x p y q 1 1 (below_five x (winner_in size x p h).0) (below_five y (winner_in size y q g).0) (omega arith) (omega arith) e in
      ap₂ Loses n.0 n.1
  winners_of_one_mark (Wins x p) (Loses y q) h g e =
      let n = wins_mark x p y q 0 1 (below_five x (winner_in size x p h).0) (below_five y (winner_in size y q g).0) (omega arith) (omega arith) (omega arith) in
      absurd (let no : 0 ≡ 1 = n.2 in omega arith)
  winners_of_one_mark (Loses x p) (Wins y q) h g e =
      let n = wins_mark x p y q 1 0 (below_five x (winner_in size x p h).0) (below_five y (winner_in size y q g).0) (omega arith) (omega arith) (omega arith) in
      absurd (let no : 1 ≡ 0 = n.2 in omega arith)
  winners_of_one_mark (Above x y p) b h g e = absurd (true≢false (sym h))
  winners_of_one_mark (Wins x p) (Above v w q) h g e = absurd (true≢false (sym g))
  winners_of_one_mark (Loses x p) (Above v w q) h g e = absurd (true≢false (sym g))

  of_one_mark : (k : Kind) (a b : Literal) → is_literal_of size k a ≡ true → is_literal_of size k b ≡ true → mark_of a ≡ mark_of b → a ≡ b
  of_one_mark Choice a b h g e = winners_of_one_mark a b h g e
  of_one_mark Ranking (Above x y p) (Above v w q) h g e =
      let i = ranking_in size x y p h in
      let j = ranking_in size v w q g in
      let n = one_mark x y p v w q (below_five x i.0) (below_five y i.1) (below_five v j.0) (below_five w j.1) e in
      λ k. Above (n.1 k) (n.2 k) (n.0 k)
  of_one_mark Ranking (Wins x p) b h g e = absurd (true≢false (sym h))
  of_one_mark Ranking (Loses x p) b h g e = absurd (true≢false (sym h))
  of_one_mark Ranking (Above x y p) (Wins v q) h g e = absurd (true≢false (sym g))
  of_one_mark Ranking (Above x y p) (Loses v q) h g e = absurd (true≢false (sym g))
  of_one_mark Sets a b h g e = winners_of_one_mark a b h g e

  -- another literal has another mark
  other_mark : (a b : Literal) → is_literal size a ≡ true → is_literal size b ≡ true → same_literal a b ≡ false → mark_of a ≢ mark_of b
  other_mark a b h g n e = both_ways _ n (subst (λ x. same_literal a x ≡ true) (of_one_mark size.kind a b h g e) (same_literal-refl a))

-- ---- boards

module _ (size : Extent) (ls : List Literal) (capacity : ℕ) (marks : List Bool) (board : IsBoard size ls capacity marks) where
  -- the mark of a literal of the size is within
  pub mark_within : (l : Literal) → is_literal size l ≡ true → mark_of l < length marks
  mark_within l h = let lt = mark_below size board.valid l h in omega (arith, board.wide)

  pub board_with : (l : Literal) (cap : ℕ) → is_literal size l ≡ true → has ls l ≡ false → capacity ≤ cap → IsBoard size (ls ++ l ∷ []) cap (set marks (mark_of l) true)
  board_with l cap h n more =
      let within = mark_within l h in
      let unmarked : get_or marks (mark_of l) false ≡ false = board.marked l h ∙ n in
      let counts : sum_by free (set marks (mark_of l) true) + free (get_or marks (mark_of l) false) ≡ sum_by free marks + free true = sum_by-set free marks (mark_of l) true false within in
      let one : free (get_or marks (mark_of l) false) ≡ 1 = ap free unmarked in
      let wide : length (set marks (mark_of l) true) ≡ length marks = length-set marks (mark_of l) true in
      let longer : length (ls ++ l ∷ []) ≡ length ls + 1 = length-append ls (l ∷ []) in
      record {
        valid = board.valid;
        wide = wide ∙ board.wide;
        marked = λ k own. elim (cases_Bool (same_literal k l)) [
          | inl e ↦
              let is : l ≡ k = sym (same_literal-equal k l e) in
              subst (λ x. get_or (set marks (mark_of l) true) (mark_of x) false ≡ has (ls ++ l ∷ []) x) is
              (get_or-set_same marks (mark_of l) true false within ∙ sym (has-append ls l l ∙ ap₂ (λ a b. a || b) n (same_literal-refl l)))
          | inr e ↦
              get_or-set_other marks (mark_of l) (mark_of k) true false (other_mark size board.valid k l own h e)
              ∙ board.marked k own ∙ sym (has-append ls k l ∙ ap (λ b. has ls k || b) e ∙ or-false (has ls k))
        ];
        ours = all_snoc (is_literal size) ls l board.ours h;
        distinct = distinct-append l ls board.distinct n;
        room = omega (arith, board.room);
        capacious = omega (arith, board.capacious);
      }

  pub board_without : (l : Literal) (cap : ℕ) → has ls l ≡ true → capacity ≤ cap → IsBoard size (without_literal l ls) cap (set marks (mark_of l) false)
  board_without l cap there more =
      let h : is_literal size l ≡ true = all_has (is_literal size) ls l board.ours there in
      let within = mark_within l h in
      let has_mark : get_or marks (mark_of l) false ≡ true = board.marked l h ∙ there in
      let counts : sum_by free (set marks (mark_of l) false) + free (get_or marks (mark_of l) false) ≡ sum_by free marks + free false = sum_by-set free marks (mark_of l) false false within in
      let none : free (get_or marks (mark_of l) false) ≡ 0 = ap free has_mark in
      let wide : length (set marks (mark_of l) false) ≡ length marks = length-set marks (mark_of l) false in
      let shorter : length (without_literal l ls) + 1 ≡ length ls = length-without l ls board.distinct there in
      record {
        valid = board.valid;
        wide = wide ∙ board.wide;
        marked = λ k own. elim (cases_Bool (same_literal k l)) [
          | inl e ↦
              let is : l ≡ k = sym (same_literal-equal k l e) in
              subst (λ x. get_or (set marks (mark_of l) false) (mark_of x) false ≡ has (without_literal l ls) x) is
              (get_or-set_same marks (mark_of l) false false within ∙ sym (has-without_same l ls))
          | inr e ↦
              get_or-set_other marks (mark_of l) (mark_of k) false false (other_mark size board.valid k l own h e)
              ∙ board.marked k own ∙ sym (has-without_other l k ls e)
        ];
        ours = all-without (is_literal size) l ls board.ours;
        distinct = distinct-without l ls board.distinct;
        room = omega (arith, board.room);
        capacious = omega (arith, board.capacious);
      }

-- what came last goes first
module _ (size : Extent) (ls : List Literal) (l : Literal) (capacity : ℕ) (marks : List Bool) (board : IsBoard size (ls ++ l ∷ []) capacity marks) where
  last_there : has (ls ++ l ∷ []) l ≡ true
  last_there = has-append ls l l ∙ ap (λ b. has ls l || b) (same_literal-refl l) ∙ or-true (has ls l)

  pub last_mark : mark_of l < length marks
  last_mark = mark_within size (ls ++ l ∷ []) capacity marks board l (all_has (is_literal size) (ls ++ l ∷ []) l board.ours last_there)

  pub board_before : (cap : ℕ) → capacity ≤ cap → IsBoard size ls cap (set marks (mark_of l) false)
  board_before cap more =
      subst (λ r. IsBoard size r cap (set marks (mark_of l) false)) (without-last l ls (last_is_new l ls board.distinct))
      (board_without size (ls ++ l ∷ []) capacity marks board l cap last_there more)
