-- Sides: what is known of a formula, or its clauses of one sign.
use Rattle.std.specs.Prelude.{if◌then◌else◌}
use Rattle.std.proofs.Common.{◌≡◌, refl, sym, ◌∙◌, ap, ap₂, subst, Bool, true, false, not, List, [], ◌∷◌, ◌++◌, ◌≤◌, length, Option, Some}
use Rattle.vocab.specs.declared.literals.Literal.{Literal}
use Rattle.vocab.specs.Literal.{opposite_of}
use Rattle.vocab.specs.Size.{Extent}
use Rattle.cnf.specs.Sat.{Clause, opposite_lit}
use Rattle.cnf.specs.Signed.{Signed}
use Rattle.meaning.specs.Clauses.{joined, known_truth, minus, plus}
use Rattle.meaning.specs.Kleene.{three_and, three_not, three_of, three_or}
use Rattle.meaning.specs.declared.three.Three.TheVariants.{Unknown}
use Rattle.meaning.specs.Literals.{is_literal}
use Rattle.meaning.specs.Variables.{lit_of}
use Rattle.meaning.specs.Written.{And, Fact, Iff, Neg, Or, Written}
use Rattle.meaning.proofs.VariableLaws.{lit_of-opposite}
use Rattle.clause_form.specs.Rows.{AreSome, IsRows, Shows}
use Rattle.clause_form.specs.Signed.{IsShort, IsSide, met, rows_of}
use Rattle.clause_form.specs.declared.rows.Rows.{Rows}
use Rattle.clause_form.specs.declared.signed.Short.TheVariants as short
use Rattle.clause_form.specs.declared.signed.Side.{Side}
use Rattle.clause_form.specs.declared.signed.Side.TheVariants.{Known, Open}
use Rattle.clause_form.proofs.KnownLaws.{SameForm, and_open, iff_open, minus-neg, or_open, plus-neg}
use Rattle.clause_form.proofs.SomeLaws.{some_minus, some_plus}

-- ---- clauses of a sign

rows_same : (positive : Bool) (w v : Written) → SameForm w v → rows_of positive w ≡ rows_of positive v
rows_same true w v s = s.plus_same
rows_same false w v s = s.minus_same

pub rows_some : (positive : Bool) (w : Written) → known_truth w ≡ Unknown → 1 ≤ length (rows_of positive w)
rows_some true w e = some_plus w e
rows_some false w e = some_minus w e

rows_neg : (positive : Bool) (w : Written) → rows_of positive (Neg w) ≡ rows_of (not positive) w
rows_neg true w = plus-neg w
rows_neg false w = minus-neg w

rows_and : (positive : Bool) (x y : Written) → known_truth x ≡ Unknown → known_truth y ≡ Unknown → rows_of positive (And x y) ≡ met positive (rows_of positive x) (rows_of positive y)
rows_and true x y e f = (and_open x y e f).open_plus
rows_and false x y e f = (and_open x y e f).open_minus

rows_or : (positive : Bool) (x y : Written) → known_truth x ≡ Unknown → known_truth y ≡ Unknown → rows_of positive (Or x y) ≡ met (not positive) (rows_of positive x) (rows_of positive y)
rows_or true x y e f = (or_open x y e f).open_plus
rows_or false x y e f = (or_open x y e f).open_minus

-- ---- sides

pub same_side : (size : Extent) (positive : Bool) (s : Side) (w v : Written) → SameForm w v → IsSide size positive s v → IsSide size positive s w
same_side size positive (Known b) w v s h = s.known ∙ h
same_side size positive (Open r) w v s h = (s.known ∙ h.0, subst (IsRows size r) (sym (rows_same positive w v s)) h.1)

pub known_side : (size : Extent) (positive : Bool) (s : Side) (b t : Bool) (w : Written) → s ≡ Known b → b ≡ t → IsSide size positive s w → known_truth w ≡ three_of t
known_side size positive s b t w e h k = let l : known_truth w ≡ three_of b = subst (λ u. IsSide size positive u w) e k in l ∙ ap three_of h

pub open_side : (size : Extent) (positive : Bool) (s : Side) (r : Rows) (w : Written) → s ≡ Open r → IsSide size positive s w → (known_truth w ≡ Unknown) × IsRows size r (rows_of positive w)
open_side size positive s r w e h = subst (λ u. IsSide size positive u w) e h

-- an open side is of some clauses
pub some_side : (size : Extent) (positive : Bool) (s : Side) (r : Rows) (w : Written) → s ≡ Open r → IsSide size positive s w → (known_truth w ≡ Unknown) × AreSome size r (rows_of positive w)
some_side size positive s r w e h = let o = open_side size positive s r w e h in (o.0, (rows_some positive w o.0, o.1))

not_of : (b : Bool) → three_not (three_of b) ≡ three_of (not b)
not_of true = refl
not_of false = refl

pub not_known : (size : Extent) (positive : Bool) (b : Bool) (w : Written) → known_truth w ≡ three_of b → IsSide size positive (Known (not b)) (Neg w)
not_known size positive b w h = ap three_not h ∙ not_of b

pub not_open : (size : Extent) (positive : Bool) (r : Rows) (w : Written) → (known_truth w ≡ Unknown) × IsRows size r (rows_of (not positive) w) → IsSide size positive (Open r) (Neg w)
not_open size positive r w h = (ap three_not h.0, subst (IsRows size r) (sym (rows_neg positive w)) h.1)

pub and_side : (size : Extent) (positive : Bool) (r : Rows) (x y : Written) → known_truth x ≡ Unknown → known_truth y ≡ Unknown → IsRows size r (met positive (rows_of positive x) (rows_of positive y))
    → IsSide size positive (Open r) (And x y)
and_side size positive r x y e f h = (ap₂ three_and e f, subst (IsRows size r) (sym (rows_and positive x y e f)) h)

pub or_side : (size : Extent) (positive : Bool) (r : Rows) (x y : Written) → known_truth x ≡ Unknown → known_truth y ≡ Unknown → IsRows size r (met (not positive) (rows_of positive x) (rows_of positive y))
    → IsSide size positive (Open r) (Or x y)
or_side size positive r x y e f h = (ap₂ three_or e f, subst (IsRows size r) (sym (rows_or positive x y e f)) h)

pub iff_side : (size : Extent) (positive : Bool) (r : Rows) (x y : Written) → known_truth x ≡ Unknown → known_truth y ≡ Unknown → IsRows size r (rows_of positive (Iff x y)) → IsSide size positive (Open r) (Iff x y)
iff_side size positive r x y e f h = ((iff_open x y e f).open_known, h)

-- the disjunctions of an equivalence
pub iff_plus : (size : Extent) (r : Rows) (x y : Written) → known_truth x ≡ Unknown → known_truth y ≡ Unknown → IsRows size r (joined (minus x) (plus y) ++ joined (plus x) (minus y)) → IsRows size r (plus (Iff x y))
iff_plus size r x y e f h = subst (IsRows size r) (sym (iff_open x y e f).open_plus) h

pub iff_minus : (size : Extent) (r : Rows) (x y : Written) → known_truth x ≡ Unknown → known_truth y ≡ Unknown → IsRows size r (joined (minus x) (minus y) ++ joined (plus x) (plus y)) → IsRows size r (minus (Iff x y))
iff_minus size r x y e f h = subst (IsRows size r) (sym (iff_open x y e f).open_minus) h

-- ---- two literals

four : (a b c d a' b' c' d' : Signed) → a ≡ a' → b ≡ b' → c ≡ c' → d ≡ d' → (let x : List Clause = (a ∷ b ∷ []) ∷ (c ∷ d ∷ []) ∷ [] in x) ≡ (a' ∷ b' ∷ []) ∷ (c' ∷ d' ∷ []) ∷ []
four a b c d a' b' c' d' e f g h = ap₂ (λ (x y : Clause). x ∷ y ∷ []) (ap₂ (λ (x y : Signed). x ∷ y ∷ []) e f) (ap₂ (λ (x y : Signed). x ∷ y ∷ []) g h)

opposites : (size : Extent) (l : Literal) (a : Signed) → is_literal size l ≡ true → a ≡ lit_of size l → opposite_lit a ≡ lit_of size (opposite_of l)
opposites size l a h e = ap opposite_lit e ∙ sym (lit_of-opposite size size.kind l h)

facts_plus : (size : Extent) (r : Rows) (l k : Literal) (a b : Signed) → is_literal size l ≡ true → is_literal size k ≡ true → a ≡ lit_of size l → b ≡ lit_of size k → r.counts ≡ record { clauses = 2; literals = 4 }
    → r.clauses ≡ Some ((a ∷ opposite_lit b ∷ []) ∷ (opposite_lit a ∷ b ∷ []) ∷ []) → IsRows size r (plus (Iff (Fact l) (Fact k)))
facts_plus size r l k a b h j e f counts clauses = record {
  counted = counts;
  shown = subst (λ (u : Option (List Clause)). Shows size u (plus (Iff (Fact l) (Fact k)))) (sym clauses) (four _ _ _ _ _ _ _ _ e (opposites size k b j f) (opposites size l a h e) f);
}

facts_minus : (size : Extent) (r : Rows) (l k : Literal) (a b : Signed) → is_literal size l ≡ true → is_literal size k ≡ true → a ≡ lit_of size l → b ≡ lit_of size k → r.counts ≡ record { clauses = 2; literals = 4 }
    → r.clauses ≡ Some ((a ∷ b ∷ []) ∷ (opposite_lit a ∷ opposite_lit b ∷ []) ∷ []) → IsRows size r (minus (Iff (Fact l) (Fact k)))
facts_minus size r l k a b h j e f counts clauses = record {
  counted = counts;
  shown = subst (λ (u : Option (List Clause)). Shows size u (minus (Iff (Fact l) (Fact k)))) (sym clauses) (four _ _ _ _ _ _ _ _ e f (opposites size l a h e) (opposites size k b j f));
}

pub pair_plus : (size : Extent) (r : Rows) (a b : Signed) (x y : Written) → r.counts ≡ record { clauses = 2; literals = 4 } → r.clauses ≡ Some ((a ∷ opposite_lit b ∷ []) ∷ (opposite_lit a ∷ b ∷ []) ∷ [])
    → IsShort size (short.Fact a) x → IsShort size (short.Fact b) y → IsRows size r (plus (Iff x y))
pair_plus size r a b x y counts clauses h k = rw (h.1.fact, k.1.fact) (facts_plus size r h.0 k.0 a b h.1.literal k.1.literal h.2 k.2 counts clauses)

pub pair_minus : (size : Extent) (r : Rows) (a b : Signed) (x y : Written) → r.counts ≡ record { clauses = 2; literals = 4 } → r.clauses ≡ Some ((a ∷ b ∷ []) ∷ (opposite_lit a ∷ opposite_lit b ∷ []) ∷ [])
    → IsShort size (short.Fact a) x → IsShort size (short.Fact b) y → IsRows size r (minus (Iff x y))
pair_minus size r a b x y counts clauses h k = rw (h.1.fact, k.1.fact) (facts_minus size r h.0 k.0 a b h.1.literal k.1.literal h.2 k.2 counts clauses)

pub pair_known : (size : Extent) (a b : Signed) (x y : Written) → IsShort size (short.Fact a) x → IsShort size (short.Fact b) y → known_truth (Iff x y) ≡ Unknown
pair_known size a b x y h k = rw h.1.fact refl

-- ---- one literal

pub fact_side : (size : Extent) (positive : Bool) (r : Rows) (a : Signed) (x : Written) → r.counts ≡ record { clauses = 1; literals = 1 } → r.clauses ≡ Some (((if positive then a else opposite_lit a) ∷ []) ∷ [])
    → IsShort size (short.Fact a) x → IsSide size positive (Open r) x
fact_side size true r a x counts clauses h = rw h.1.fact (
  refl,
  record {
    counted = counts;
    shown = subst (λ (u : Option (List Clause)). Shows size u ((h.0 ∷ []) ∷ [])) (sym clauses) (ap (λ (s : Signed). (s ∷ []) ∷ []) h.2);
  },
)
fact_side size false r a x counts clauses h = rw h.1.fact (
  refl,
  record {
    counted = counts;
    shown = subst (λ (u : Option (List Clause)). Shows size u ((opposite_of h.0 ∷ []) ∷ [])) (sym clauses) (ap (λ (s : Signed). (s ∷ []) ∷ []) (opposites size h.0 a h.1.literal h.2));
  },
)
