-- Forms of formulas.
use Rattle.std.proofs.Common.{◌≡◌, sym, ◌∙◌, ap, ap₂, subst, Bool, List, ◌++◌, reverse, Option, Some, None, IsTrue}
use Rattle.vocab.specs.Size.{Extent}
use Rattle.cnf.specs.Sat.{Clause}
use Rattle.meaning.specs.Clauses.{Disjunction, joined, known_truth, minus, plus}
use Rattle.meaning.specs.Kleene.{three_not, three_of}
use Rattle.meaning.specs.declared.three.Three.TheVariants.{Unknown}
use Rattle.meaning.specs.Written.{Neg, Written}
use Rattle.clause_form.specs.Forms.{IsForm}
use Rattle.clause_form.specs.Factors.{each_joined}
use Rattle.clause_form.specs.Rows.{IsRows, Shows}
use Rattle.clause_form.specs.Wide.{capped_counts, is_wide, numbered}
use Rattle.clause_form.specs.declared.forms.Form.{Form}
use Rattle.clause_form.specs.declared.forms.Form.TheVariants.{Known, Open}
use Rattle.clause_form.specs.declared.rows.Rows.{Rows}
use Rattle.clause_form.proofs.KnownLaws.{OpenForm, SameForm, minus-neg, plus-neg}
use Rattle.clause_form.proofs.RowLaws.{rows_append, rows_joined}

pub same_form : (size : Extent) (f : Form) (w v : Written) → SameForm w v → IsForm size f v → IsForm size f w
same_form size (Known b) w v s h = s.known ∙ h
same_form size (Open p m) w v s h = (s.known ∙ h.0, subst (IsRows size p) (sym s.plus_same) h.1, subst (IsRows size m) (sym s.minus_same) h.2)

pub known_form : (size : Extent) (f : Form) (b t : Bool) (w : Written) → f ≡ Known b → b ≡ t → IsForm size f w → known_truth w ≡ three_of t
known_form size f b t w e h k = let l : known_truth w ≡ three_of b = subst (λ u. IsForm size u w) e k in l ∙ ap three_of h

pub open_form : (size : Extent) (f : Form) (p m : Rows) (w : Written) → f ≡ Open p m → IsForm size f w → (known_truth w ≡ Unknown) × IsRows size p (plus w) × IsRows size m (minus w)
open_form size f p m w e h = subst (λ u. IsForm size u w) e h

pub opened_form : (size : Extent) (p m : Rows) (w : Written) (xs ys : List Disjunction) → OpenForm w xs ys → IsRows size p xs → IsRows size m ys → IsForm size (Open p m) w
opened_form size p m w xs ys o h k = (o.open_known, subst (IsRows size p) (sym o.open_plus) h, subst (IsRows size m) (sym o.open_minus) k)

pub each_shown : (size : Extent) (xs ys : List Disjunction) (a b : Option (List Clause)) (left right out : List Clause) → a ≡ Some left → b ≡ Some right →
    out ≡ each_joined left right → Shows size a xs → Shows size b ys → out ≡ reverse (numbered size (joined xs ys))
each_shown size xs ys a b left right out e f o h k =
    let l : left ≡ reverse (numbered size xs) = subst (λ u. Shows size u xs) e h in
    let r : right ≡ reverse (numbered size ys) = subst (λ u. Shows size u ys) f k in
    o ∙ ap₂ each_joined l r ∙ rows_joined size xs ys

pub both_shown : (size : Extent) (xs ys : List Disjunction) (a b : Option (List Clause)) (left right out : List Clause) → a ≡ Some left → b ≡ Some right →
    out ≡ right ++ left → Shows size a xs → Shows size b ys → out ≡ reverse (numbered size (xs ++ ys))
both_shown size xs ys a b left right out e f o h k =
    let l : left ≡ reverse (numbered size xs) = subst (λ u. Shows size u xs) e h in
    let r : right ≡ reverse (numbered size ys) = subst (λ u. Shows size u ys) f k in
    o ∙ ap₂ (λ u v. u ++ v) r l ∙ rows_append size xs ys

pub none_wide : (size : Extent) (rows : List Disjunction) (a : Option (List Clause)) → a ≡ None → Shows size a rows → IsTrue (is_wide (capped_counts rows))
none_wide size rows a e h = subst (λ u. Shows size u rows) e h

pub negated_form : (size : Extent) (p m : Rows) (w : Written) → known_truth w ≡ Unknown → IsRows size p (plus w) → IsRows size m (minus w) → IsForm size (Open m p) (Neg w)
negated_form size p m w e h k = (ap three_not e, subst (IsRows size m) (sym (plus-neg w)) k, subst (IsRows size p) (sym (minus-neg w)) h)
