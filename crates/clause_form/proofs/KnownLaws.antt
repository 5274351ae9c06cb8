-- The clauses of a formula of which something is known, and what is left of a connective where one side is known.
use Rattle.std.proofs.Common.{◌≡◌, refl, sym, ◌∙◌, ap, ap₂, List, [], ◌∷◌, ◌++◌, map, false, true}
use Rattle.std.proofs.lemmas.List.{append-nil}
use Rattle.meaning.specs.declared.three.Three.{Three}
use Rattle.meaning.specs.declared.three.Three.TheVariants.{True, False, Unknown}
use Rattle.meaning.specs.Clauses.{Disjunction, for_falsity, for_truth, joined, known_truth, minus, plus}
use Rattle.meaning.specs.Kleene.{three_and, three_not, three_or, three_same}
use Rattle.meaning.specs.Written.{And, Iff, Neg, Or, Written, Fact, Known}
use Rattle.meaning.proofs.ClauseLaws.{joined-nil}
use Rattle.meaning.proofs.ThreeLaws.{three_and-true, three_or-false}

same_true : (t : Three) → three_same t True ≡ t
same_true True = refl
same_true False = refl
same_true Unknown = refl

same_false : (t : Three) → three_same t False ≡ three_not t
same_false True = refl
same_false False = refl
same_false Unknown = refl

-- ---- what is known has fixed clauses

fixed_truth : (t : Three) (row : List Disjunction) → for_truth t row ≡ for_truth t (for_truth t row)
fixed_truth True row = refl
fixed_truth False row = refl
fixed_truth Unknown row = refl

fixed_falsity : (t : Three) (row : List Disjunction) → for_falsity t row ≡ for_falsity t (for_falsity t row)
fixed_falsity True row = refl
fixed_falsity False row = refl
fixed_falsity Unknown row = refl

fixed_rows : (w : Written) → (plus w ≡ for_truth (known_truth w) (plus w)) × (minus w ≡ for_falsity (known_truth w) (minus w))
fixed_rows (Known true) = (refl, refl)
fixed_rows (Known false) = (refl, refl)
fixed_rows (Fact l) = (refl, refl)
fixed_rows (Neg a) = (fixed_truth (known_truth (Neg a)) (minus a), fixed_falsity (known_truth (Neg a)) (plus a))
fixed_rows (And a b) = (fixed_truth (known_truth (And a b)) (plus a ++ plus b), fixed_falsity (known_truth (And a b)) (joined (minus a) (minus b)))
fixed_rows (Or a b) = (fixed_truth (known_truth (Or a b)) (joined (plus a) (plus b)), fixed_falsity (known_truth (Or a b)) (minus a ++ minus b))
fixed_rows (Iff a b) = (
  fixed_truth (known_truth (Iff a b)) (joined (minus a) (plus b) ++ joined (plus a) (minus b)),
  fixed_falsity (known_truth (Iff a b)) (joined (minus a) (minus b) ++ joined (plus a) (plus b)),
)

pub plus_true : (w : Written) → known_truth w ≡ True → plus w ≡ []
plus_true w e = (fixed_rows w).0 ∙ ap (λ t. for_truth t (plus w)) e

pub plus_false : (w : Written) → known_truth w ≡ False → plus w ≡ [] ∷ []
plus_false w e = (fixed_rows w).0 ∙ ap (λ t. for_truth t (plus w)) e

pub minus_true : (w : Written) → known_truth w ≡ True → minus w ≡ [] ∷ []
minus_true w e = (fixed_rows w).1 ∙ ap (λ t. for_falsity t (minus w)) e

pub minus_false : (w : Written) → known_truth w ≡ False → minus w ≡ []
minus_false w e = (fixed_rows w).1 ∙ ap (λ t. for_falsity t (minus w)) e

-- ---- joining with no clause, and with the empty one

joined_one_left : (ys : List Disjunction) → joined ([] ∷ []) ys ≡ ys
joined_one_left ys = append-nil (map (λ d. d) ys) ∙ same ys
  where
    same : (zs : List Disjunction) → map (λ d. d) zs ≡ zs
    same [] = refl
    same (z ∷ zs) = ap (λ us. z ∷ us) (same zs)

joined_one_right : (xs : List Disjunction) → joined xs ([] ∷ []) ≡ xs
joined_one_right [] = refl
joined_one_right (c ∷ xs) = ap₂ (λ d us. d ∷ us) (append-nil c) (joined_one_right xs)

-- ---- formulas of which the same is known, with the same clauses

pub record SameForm (w v : Written) : Type 0 where
  pub known : known_truth w ≡ known_truth v
  pub plus_same : plus w ≡ plus v
  pub minus_same : minus w ≡ minus v

to_truth : (t : Three) (row : List Disjunction) (v : Written) → t ≡ known_truth v → row ≡ plus v → for_truth t row ≡ plus v
to_truth t row v e h = ap₂ for_truth e h ∙ sym (fixed_rows v).0

to_falsity : (t : Three) (row : List Disjunction) (v : Written) → t ≡ known_truth v → row ≡ minus v → for_falsity t row ≡ minus v
to_falsity t row v e h = ap₂ for_falsity e h ∙ sym (fixed_rows v).1

-- a negation swaps the two lists
not_truth : (t : Three) (row : List Disjunction) → for_truth (three_not t) row ≡ for_falsity t row
not_truth True row = refl
not_truth False row = refl
not_truth Unknown row = refl

not_falsity : (t : Three) (row : List Disjunction) → for_falsity (three_not t) row ≡ for_truth t row
not_falsity True row = refl
not_falsity False row = refl
not_falsity Unknown row = refl

pub plus-neg : (w : Written) → plus (Neg w) ≡ minus w
plus-neg w = not_truth (known_truth w) (minus w) ∙ sym (fixed_rows w).1

pub minus-neg : (w : Written) → minus (Neg w) ≡ plus w
minus-neg w = not_falsity (known_truth w) (plus w) ∙ sym (fixed_rows w).0

pub and_true_left : (x y : Written) → known_truth x ≡ True → SameForm (And x y) y
and_true_left x y e =
    let k : known_truth (And x y) ≡ known_truth y = ap (λ t. three_and t (known_truth y)) e in record {
      known = k;
      plus_same = to_truth (known_truth (And x y)) (plus x ++ plus y) y k (ap (λ r. r ++ plus y) (plus_true x e));
      minus_same = to_falsity (known_truth (And x y)) (joined (minus x) (minus y)) y k (ap (λ r. joined r (minus y)) (minus_true x e) ∙ joined_one_left (minus y));
    }

pub and_true_right : (x y : Written) → known_truth y ≡ True → SameForm (And x y) x
and_true_right x y e =
    let k : known_truth (And x y) ≡ known_truth x = ap (λ t. three_and (known_truth x) t) e ∙ three_and-true (known_truth x) in record {
      known = k;
      plus_same = to_truth (known_truth (And x y)) (plus x ++ plus y) x k (ap (λ r. plus x ++ r) (plus_true y e) ∙ append-nil (plus x));
      minus_same = to_falsity (known_truth (And x y)) (joined (minus x) (minus y)) x k (ap (λ r. joined (minus x) r) (minus_true y e) ∙ joined_one_right (minus x));
    }

pub or_false_left : (x y : Written) → known_truth x ≡ False → SameForm (Or x y) y
or_false_left x y e =
    let k : known_truth (Or x y) ≡ known_truth y = ap (λ t. three_or t (known_truth y)) e in record {
      known = k;
      plus_same = to_truth (known_truth (Or x y)) (joined (plus x) (plus y)) y k (ap (λ r. joined r (plus y)) (plus_false x e) ∙ joined_one_left (plus y));
      minus_same = to_falsity (known_truth (Or x y)) (minus x ++ minus y) y k (ap (λ r. r ++ minus y) (minus_false x e));
    }

pub or_false_right : (x y : Written) → known_truth y ≡ False → SameForm (Or x y) x
or_false_right x y e =
    let k : known_truth (Or x y) ≡ known_truth x = ap (λ t. three_or (known_truth x) t) e ∙ three_or-false (known_truth x) in record {
      known = k;
      plus_same = to_truth (known_truth (Or x y)) (joined (plus x) (plus y)) x k (ap (λ r. joined (plus x) r) (plus_false y e) ∙ joined_one_right (plus x));
      minus_same = to_falsity (known_truth (Or x y)) (minus x ++ minus y) x k (ap (λ r. minus x ++ r) (minus_false y e) ∙ append-nil (minus x));
    }

pub iff_true_left : (x y : Written) → known_truth x ≡ True → SameForm (Iff x y) y
iff_true_left x y e =
    let k : known_truth (Iff x y) ≡ known_truth y = ap (λ t. three_same t (known_truth y)) e in record {
      known = k;
      plus_same = to_truth (known_truth (Iff x y)) (joined (minus x) (plus y) ++ joined (plus x) (minus y)) y k
          (ap₂ (λ r s. joined r (plus y) ++ joined s (minus y)) (minus_true x e) (plus_true x e) ∙ append-nil _ ∙ joined_one_left (plus y));
      minus_same = to_falsity (known_truth (Iff x y)) (joined (minus x) (minus y) ++ joined (plus x) (plus y)) y k
          (ap₂ (λ r s. joined r (minus y) ++ joined s (plus y)) (minus_true x e) (plus_true x e) ∙ append-nil _ ∙ joined_one_left (minus y));
    }

pub iff_false_left : (x y : Written) → known_truth x ≡ False → SameForm (Iff x y) (Neg y)
iff_false_left x y e =
    let k : known_truth (Iff x y) ≡ known_truth (Neg y) = ap (λ t. three_same t (known_truth y)) e in record {
      known = k;
      plus_same = to_truth (known_truth (Iff x y)) (joined (minus x) (plus y) ++ joined (plus x) (minus y)) (Neg y) k
          (ap₂ (λ r s. joined r (plus y) ++ joined s (minus y)) (minus_false x e) (plus_false x e) ∙ joined_one_left (minus y) ∙ sym (plus-neg y));
      minus_same = to_falsity (known_truth (Iff x y)) (joined (minus x) (minus y) ++ joined (plus x) (plus y)) (Neg y) k
          (ap₂ (λ r s. joined r (minus y) ++ joined s (plus y)) (minus_false x e) (plus_false x e) ∙ joined_one_left (plus y) ∙ sym (minus-neg y));
    }

pub iff_true_right : (x y : Written) → known_truth y ≡ True → SameForm (Iff x y) x
iff_true_right x y e =
    let k : known_truth (Iff x y) ≡ known_truth x = ap (λ t. three_same (known_truth x) t) e ∙ same_true (known_truth x) in record {
      known = k;
      plus_same = to_truth (known_truth (Iff x y)) (joined (minus x) (plus y) ++ joined (plus x) (minus y)) x k
          (ap₂ (λ r s. joined (minus x) r ++ joined (plus x) s) (plus_true y e) (minus_true y e) ∙ ap (λ r. r ++ joined (plus x) ([] ∷ [])) (joined-nil (minus x)) ∙ joined_one_right (plus x));
      minus_same = to_falsity (known_truth (Iff x y)) (joined (minus x) (minus y) ++ joined (plus x) (plus y)) x k
          (ap₂ (λ r s. joined (minus x) r ++ joined (plus x) s) (minus_true y e) (plus_true y e) ∙ ap₂ (λ r s. r ++ s) (joined_one_right (minus x)) (joined-nil (plus x)) ∙ append-nil (minus x));
    }

pub iff_false_right : (x y : Written) → known_truth y ≡ False → SameForm (Iff x y) (Neg x)
iff_false_right x y e =
    let k : known_truth (Iff x y) ≡ known_truth (Neg x) = ap (λ t. three_same (known_truth x) t) e ∙ same_false (known_truth x) in record {
      known = k;
      plus_same = to_truth (known_truth (Iff x y)) (joined (minus x) (plus y) ++ joined (plus x) (minus y)) (Neg x) k
          (ap₂ (λ r s. joined (minus x) r ++ joined (plus x) s) (plus_false y e) (minus_false y e) ∙ ap₂ (λ r s. r ++ s) (joined_one_right (minus x)) (joined-nil (plus x)) ∙ append-nil (minus x) ∙ sym (plus-neg x));
      minus_same = to_falsity (known_truth (Iff x y)) (joined (minus x) (minus y) ++ joined (plus x) (plus y)) (Neg x) k
          (ap₂ (λ r s. joined (minus x) r ++ joined (plus x) s) (minus_false y e) (plus_false y e) ∙ ap (λ r. r ++ joined (plus x) ([] ∷ [])) (joined-nil (minus x)) ∙ joined_one_right (plus x) ∙ sym (minus-neg x));
    }

-- ---- where nothing is known of either side

pub record OpenForm (w : Written) (p m : List Disjunction) : Type 0 where
  pub open_known : known_truth w ≡ Unknown
  pub open_plus : plus w ≡ p
  pub open_minus : minus w ≡ m

opened : (t : Three) (p m : List Disjunction) → t ≡ Unknown → (for_truth t p ≡ p) × (for_falsity t m ≡ m)
opened t p m e = (ap (λ u. for_truth u p) e, ap (λ u. for_falsity u m) e)

pub and_open : (x y : Written) → known_truth x ≡ Unknown → known_truth y ≡ Unknown → OpenForm (And x y) (plus x ++ plus y) (joined (minus x) (minus y))
and_open x y e f =
    let k : known_truth (And x y) ≡ Unknown = ap₂ three_and e f in
    let o = opened (known_truth (And x y)) (plus x ++ plus y) (joined (minus x) (minus y)) k in record { open_known = k; open_plus = o.0; open_minus = o.1 }

pub or_open : (x y : Written) → known_truth x ≡ Unknown → known_truth y ≡ Unknown → OpenForm (Or x y) (joined (plus x) (plus y)) (minus x ++ minus y)
or_open x y e f =
    let k : known_truth (Or x y) ≡ Unknown = ap₂ three_or e f in
    let o = opened (known_truth (Or x y)) (joined (plus x) (plus y)) (minus x ++ minus y) k in record { open_known = k; open_plus = o.0; open_minus = o.1 }

pub iff_open : (x y : Written) → known_truth x ≡ Unknown → known_truth y ≡ Unknown →
    OpenForm (Iff x y) (joined (minus x) (plus y) ++ joined (plus x) (minus y)) (joined (minus x) (minus y) ++ joined (plus x) (plus y))
iff_open x y e f =
    let k : known_truth (Iff x y) ≡ Unknown = ap₂ three_same e f in
    let o = opened (known_truth (Iff x y)) (joined (minus x) (plus y) ++ joined (plus x) (minus y)) (joined (minus x) (minus y) ++ joined (plus x) (plus y)) k in
    record { open_known = k; open_plus = o.0; open_minus = o.1 }
