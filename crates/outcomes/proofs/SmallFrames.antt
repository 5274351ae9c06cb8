-- Frames are small, and have the variables of their profile alone.
use Rattle.std.proofs.Common.{◌≡◌, refl, sym, subst, ◌∙◌, ℕ, suc, ◌+◌, ◌*◌, ◌<◌, ◌≤◌, Bool, true, false, ◌&&◌, List, length, arith, lit≤, le-leb}
use Rattle.std.specs.Prelude.{nat_le, sum_by}
use Rattle.std.specs.List.{list_all}
use Rattle.std.proofs.lemmas.Bool.{and_from}
use Rattle.std.proofs.lemmas.List.Folds.{list_all-map}
use Rattle.vocab.specs.declared.kinds.Kind.{Kind}
use Rattle.vocab.specs.declared.kinds.Kind.TheVariants.{Choice, Ranking, Sets}
use Rattle.vocab.specs.Size.{Extent, IsSize}
use Rattle.cnf.specs.Sat.{Clause}
use Rattle.cnf.specs.Signed.{Signed}
use Rattle.meaning.specs.Space.{below}
use Rattle.meaning.specs.StudyClauses.{clauses_of, frame_of}
use Rattle.meaning.specs.Variables.{bits, pairs, triples, pair_place}
use Rattle.meaning.proofs.PairLaws.{pair_found, pairs-from, triples-from}
use Rattle.meaning.proofs.SpaceLaws.{all_from}
use Rattle.meaning.proofs.TestLaws.{list_all-flat_map}
use Rattle.outcomes.specs.Laws.{AreFramesSmall}
use Rattle.outcomes.specs.Places.{winner_lit, pair_lit}
use Rattle.outcomes.specs.Rows.{some_wins, one_loses, no_round, choice_rows, set_rows, ranking_rows}
use Rattle.outcomes.proofs.FrameRows.{choice_frame, set_frame, ranking_frame}
use Rattle.outcomes.proofs.PlaceTables.{pairs_few}

-- ---- how many there are

abbrev IsSmall : List Clause → Type 0
IsSmall rows = (length rows ≤ 20) × (sum_by length rows ≤ 60)

choices_small : (m p : ℕ) → m ≤ 5 → IsSmall (choice_rows m p)
choices_small (suc (suc (suc (suc (suc (suc m)))))) p h = absurd (omega (arith, h))
choices_small x p h = (lit≤ tt, lit≤ tt)

sets_small : (m p : ℕ) → m ≤ 5 → IsSmall (set_rows m p)
sets_small (suc (suc (suc (suc (suc (suc m)))))) p h = absurd (omega (arith, h))
sets_small x p h = (lit≤ tt, lit≤ tt)

rankings_small : (m p : ℕ) → m ≤ 5 → IsSmall (ranking_rows m p)
rankings_small (suc (suc (suc (suc (suc (suc m)))))) p h = absurd (omega (arith, h))
rankings_small x p h = (lit≤ tt, lit≤ tt)

-- ---- their variables

-- a variable of the profile where it has n
abbrev is_at : ℕ → ℕ → Signed → Bool
is_at p n l = nat_le (p * n + 1) l.variable && nat_le l.variable ((p + 1) * n)

at_from : (p n k : ℕ) (l : Signed) → l.variable ≡ p * n + 1 + k → k < n → is_at p n l ≡ true
at_from p n k l e lt = and_from _ _ (le-leb (p * n + 1) l.variable (omega (arith, e))) (le-leb l.variable ((p + 1) * n) (omega (arith, e, lt, once p n)))
  where
    once : (q d : ℕ) → (q + 1) * d ≡ q * d + d
    once q d = omega arith

module _ (m p : ℕ) where
  winner_at : (s : Bool) (x : ℕ) → x < m → is_at p m (winner_lit m p s x) ≡ true
  winner_at s x lt = at_from p m x (winner_lit m p s x) (omega arith) lt

  winners_at : list_all (is_at p m) (some_wins m p) ≡ true
  winners_at = list_all-map (is_at p m) (winner_lit m p true) (below m) ∙ all_from (λ x. is_at p m (winner_lit m p true x)) m 0 (λ x low high. winner_at true x (omega arith))

  choices_at : list_all (list_all (is_at p m)) (choice_rows m p) ≡ true
  choices_at =
      and_from _ _ winners_at
      (list_all-map (list_all (is_at p m)) (one_loses m p) (pairs m)
      ∙ pairs-from m (λ (t : ℕ × ℕ). list_all (is_at p m) (one_loses m p t)) (λ x y lt l. and_from _ _ (winner_at false x (omega arith)) (and_from _ _ (winner_at false y l) refl)))

  pair_at_profile : (s : Bool) (x y : ℕ) → x < y → y < m → is_at p (length (pairs m)) (pair_lit m p s x y) ≡ true
  pair_at_profile s x y lt l = at_from p (length (pairs m)) (pair_place m x y) (pair_lit m p s x y) refl (pair_found m x y lt l).0

  rankings_at : list_all (list_all (is_at p (length (pairs m)))) (ranking_rows m p) ≡ true
  rankings_at =
      list_all-flat_map (list_all (is_at p (length (pairs m)))) (no_round m p) (triples m)
      ∙ triples-from m (λ (t : ℕ × ℕ × ℕ). list_all (list_all (is_at p (length (pairs m)))) (no_round m p t)) (λ x y z lt lt' l.
      let xy = λ (s : Bool). pair_at_profile s x y lt (omega arith) in
      let xz = λ (s : Bool). pair_at_profile s x z (omega arith) l in
      let yz = λ (s : Bool). pair_at_profile s y z lt' l in
      let three = λ (a b c : Bool) (e : a ≡ true) (f : b ≡ true) (g : c ≡ true). and_from a (b && (c && true)) e (and_from b (c && true) f (and_from c true g refl)) in
      and_from _ _ (three _ _ _ (xy false) (xz true) (yz false)) (and_from _ _ (three _ _ _ (xy true) (xz false) (yz true)) refl))

module _ (size : Extent) where
  abbrev IsSmallFrame : Kind → ℕ → Type 0
  IsSmallFrame k p =
      IsSmall (clauses_of size (frame_of size k p)) × (list_all (list_all (is_at p (bits k size.alternatives))) (clauses_of size (frame_of size k p)) ≡ true)

  small_frame : (k : Kind) → size.alternatives ≤ 5 → (p : ℕ) → IsSmallFrame k p
  small_frame Choice few p =
      let m = size.alternatives in
      let Small : List Clause → Type 0 = λ rows. IsSmall rows × (list_all (list_all (is_at p m)) rows ≡ true) in
      subst Small (sym (choice_frame size p)) (choices_small m p few, choices_at m p)
  small_frame Ranking few p =
      let m = size.alternatives in
      let Small : List Clause → Type 0 = λ rows. IsSmall rows × (list_all (list_all (is_at p (length (pairs m)))) rows ≡ true) in
      subst Small (sym (ranking_frame size p few)) (rankings_small m p few, rankings_at m p)
  small_frame Sets few p =
      let m = size.alternatives in
      let Small : List Clause → Type 0 = λ rows. IsSmall rows × (list_all (list_all (is_at p m)) rows ≡ true) in
      subst Small (sym (set_frame size p)) (sets_small m p few, and_from _ _ (winners_at m p) refl)

pub few_bits : (k : Kind) (m : ℕ) → m ≤ 5 → bits k m ≤ 10
few_bits Choice m few = omega (arith, few)
few_bits Ranking m few = pairs_few m few
few_bits Sets m few = omega (arith, few)

pub frames_small : (size : Extent) → IsSize size → AreFramesSmall size
frames_small size h =
    let few = h.few_alternatives in
    record {
      few_bits = few_bits size.kind size.alternatives few;
      own_variables = λ p. (small_frame size size.kind few p).1;
      few_clauses = λ p. (small_frame size size.kind few p).0.0;
      few_literals = λ p. (small_frame size size.kind few p).0.1;
    }
