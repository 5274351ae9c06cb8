-- What is known of a formula holds of each rule of which the known literals hold.
use Rattle.std.proofs.Common.{◌&&◌, ◌<◌, Bool, List, ap, arith, false, le-ltb, ltb-true, not, refl, subst, sym, true, true≢false, ℕ, ◌∙◌, ◌≡◌, ◌||◌}
use Rattle.std.proofs.lemmas.Bool.{not-true}
use Rattle.std.specs.Bool.{beq}
use Rattle.std.specs.Prelude.{if◌then◌else◌, slice_index}
use Rattle.vocab.specs.Literal.{has, opposite_of}
use Rattle.vocab.specs.Size.{Extent}
use Rattle.vocab.specs.Tree.{Tree}
use Rattle.vocab.specs.declared.literals.Literal.{Literal}
use Rattle.vocab.specs.declared.literals.Literal.TheVariants.{Above, Loses, Wins}
use Rattle.meaning.specs.Kleene.{partial_truth, three_and, three_literal, three_not, three_or, three_same}
use Rattle.meaning.specs.Laws.{Hold}
use Rattle.meaning.specs.Space.{place, ranking}
use Rattle.meaning.specs.Truth.{holds, is_true_at}
use Rattle.meaning.specs.Written.{And, Fact, Iff, Known, Neg, Or, Written, evaluate, write_out}
use Rattle.meaning.specs.declared.three.Three.{Three}
use Rattle.meaning.specs.declared.three.Three.TheVariants.{False, True, Unknown}
use Rattle.meaning.proofs.WrittenLaws.{truth_written}

-- what is known of a truth value is right
abbrev pub Agrees : Bool → Three → Type 0
Agrees b True = b ≡ true
Agrees b False = b ≡ false
Agrees b Unknown = Unit {0}

agrees_not : (b : Bool) (t : Three) → Agrees b t → Agrees (not b) (three_not t)
agrees_not b True h = ap not h
agrees_not b False h = ap not h
agrees_not b Unknown h = tt

agrees_and : (a b : Bool) (s t : Three) → Agrees a s → Agrees b t → Agrees (a && b) (three_and s t)
agrees_and true b True t h k = k
agrees_and false b True t h k = absurd (true≢false (sym h))
agrees_and true b False t h k = absurd (true≢false h)
agrees_and false b False t h k = refl
agrees_and a true Unknown False h k = absurd (true≢false k)
agrees_and true false Unknown False h k = refl
agrees_and false false Unknown False h k = refl
agrees_and a b Unknown True h k = tt
agrees_and a b Unknown Unknown h k = tt

agrees_or : (a b : Bool) (s t : Three) → Agrees a s → Agrees b t → Agrees (a || b) (three_or s t)
agrees_or true b True t h k = refl
agrees_or false b True t h k = absurd (true≢false (sym h))
agrees_or true b False t h k = absurd (true≢false h)
agrees_or false b False t h k = k
agrees_or true true Unknown True h k = refl
agrees_or false true Unknown True h k = refl
agrees_or a false Unknown True h k = absurd (true≢false (sym k))
agrees_or a b Unknown False h k = tt
agrees_or a b Unknown Unknown h k = tt

agrees_same : (a b : Bool) (s t : Three) → Agrees a s → Agrees b t → Agrees (beq a b) (three_same s t)
agrees_same a b Unknown t h k = tt
agrees_same true true True t h k = k
agrees_same true false True t h k = k
agrees_same false b True t h k = absurd (true≢false (sym h))
agrees_same true b False t h k = absurd (true≢false h)
agrees_same false true False t h k = agrees_not true t k
agrees_same false false False t h k = agrees_not false t k

-- a literal and its opposite do not both hold
abbrev pub IsConsistent : (Literal → Bool) → Type 0
IsConsistent v = (l : Literal) → v (opposite_of l) ≡ true → v l ≡ false

-- what is known of a formula is right where what is known of each literal is
module _ (v : Literal → Bool) (known : List Literal) (literals : (l : Literal) → Agrees (v l) (three_literal known l)) where
  pub partial_agrees_by : (w : Written) → Agrees (evaluate v w) (partial_truth known w)
  partial_agrees_by (Known true) = refl
  partial_agrees_by (Known false) = refl
  partial_agrees_by (Fact l) = literals l
  partial_agrees_by (Neg a) = agrees_not _ _ (partial_agrees_by a)
  partial_agrees_by (And a b) = agrees_and _ _ _ _ (partial_agrees_by a) (partial_agrees_by b)
  partial_agrees_by (Or a b) = agrees_or _ _ _ _ (partial_agrees_by a) (partial_agrees_by b)
  partial_agrees_by (Iff a b) = agrees_same _ _ _ _ (partial_agrees_by a) (partial_agrees_by b)

module _ (v : Literal → Bool) (known : List Literal) (consistent : IsConsistent v) (hold : Hold v known) where
  agrees_literal : (l : Literal) → Agrees (v l) (three_literal known l)
  agrees_literal l = cases (has known l) (has known (opposite_of l)) refl refl
    where
      cases : (a b : Bool) → has known l ≡ a → has known (opposite_of l) ≡ b → Agrees (v l) (if a then True else (if b then False else Unknown))
      cases true b e f = hold l e
      cases false true e f = consistent l (hold (opposite_of l) f)
      cases false false e f = tt

  pub partial_agrees : (w : Written) → Agrees (evaluate v w) (partial_truth known w)
  partial_agrees = partial_agrees_by v known agrees_literal

-- of one rule a literal and its opposite do not both hold
pub holds_consistent : (size : Extent) (table : List ℕ) → IsConsistent (holds size table)
holds_consistent size table (Wins x p) h = not-true _ h
holds_consistent size table (Loses x p) h = ap not h
holds_consistent size table (Above x y p) h =
    let r = ranking size.alternatives (slice_index table p) in
    let lt : place r y < place r x = ltb-true (place r y) (place r x) h in
    le-ltb (place r x) (place r y) (omega arith)

-- what is known of a formula is right of each rule of which the known literals hold
module _ (size : Extent) (table : List ℕ) (known : List Literal) (f : Tree) (env : List ℕ) (hold : Hold (holds size table) known) where
  rule_agrees : (t : Three) → partial_truth known (write_out size f env) ≡ t → Agrees (evaluate (holds size table) (write_out size f env)) t
  rule_agrees t e = subst (Agrees (evaluate (holds size table) (write_out size f env))) e (partial_agrees (holds size table) known (holds_consistent size table) hold (write_out size f env))

  pub false_of_rules : partial_truth known (write_out size f env) ≡ False → is_true_at size table f env ≡ false
  false_of_rules e = truth_written size table f env ∙ rule_agrees False e

  pub true_of_rules : partial_truth known (write_out size f env) ≡ True → is_true_at size table f env ≡ true
  true_of_rules e = truth_written size table f env ∙ rule_agrees True e
