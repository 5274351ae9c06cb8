-- Bits of outcomes and the literals that hold of them, and frames as clauses.
use mathlib.Core.Bool.{not-not}
use Rattle.std.proofs.Common.{◌≡◌, sym, ap, subst, ◌∙◌, ℕ, ◌+◌, ◌*◌, ◌-◌, ◌<◌, ◌≤◌, Bool, true, false, not, arith, mul-le-mul_right}
use Rattle.std.specs.Bool.{beq}
use Rattle.std.specs.List.{list_all, list_any}
use Rattle.vocab.specs.declared.kinds.Sort.TheVariants.{Profile}
use Rattle.vocab.specs.declared.literals.Literal.{Literal}
use Rattle.vocab.specs.Literal.{opposite_of}
use Rattle.vocab.specs.Size.{Extent, sort_count, outcome_count}
use Rattle.cnf.specs.Sat.{is_lit_true, is_satisfied}
use Rattle.cnf.specs.Signed.{Signed}
use Rattle.meaning.specs.Laws.{AreOf, literal_under}
use Rattle.meaning.specs.Literals.{is_literal}
use Rattle.meaning.specs.StudyClauses.{frame_of}
use Rattle.meaning.specs.Truth.{holds_of}
use Rattle.meaning.specs.Variables.{bits, variable_count, lit_of, literal_at, literal_of}
use Rattle.meaning.proofs.BitLaws.{beq-true, beq-false}
use Rattle.meaning.proofs.FrameLaws.{is_frame}
use Rattle.meaning.proofs.OppositeLaws.{opposites_differ}
use Rattle.meaning.proofs.RuleLaws.{frame-same}
use Rattle.meaning.proofs.StudyLaws.{literal_under-opposite, true-clauses_of}
use Rattle.meaning.proofs.VariableLaws.{are_variables, literal-lit_of, literal_at-not}
use Rattle.outcomes.specs.Frames.{frame_clauses}
use Rattle.outcomes.specs.Laws.{FramesSayOneOutcome, BitsSayLiterals}
use Rattle.outcomes.specs.OutcomeBits.{AreBitsAt}

-- a variable of a profile is one of the study
pub variable_in : (p count n i : ℕ) → p < count → i ≤ (p + 1) * n → i ≤ count * n
variable_in p count n i in_p high = let next : p + 1 ≤ count = omega (arith, in_p) in omega (arith, high, mul-le-mul_right n next)

module _ (size : Extent) (p : ℕ) (in_p : p < sort_count size Profile) (v : ℕ → Bool) where
  module _ (o : ℕ) (in_o : o < outcome_count size.kind size.alternatives) where
    -- the bit of a literal's variable, by its sign
    bit_is : (l : Literal) → is_literal size l ≡ true → (k : ℕ) (sign : Bool) → literal_at size size.kind k sign ≡ l → beq (holds_of size o (literal_at size size.kind k true)) sign ≡ holds_of size o l
    bit_is l in_l k true e = beq-true _ ∙ ap (holds_of size o) e
    bit_is l in_l k false e =
        beq-false _
        ∙ ap (λ j. not (holds_of size o j)) (literal_at-not size size.kind k false ∙ ap opposite_of e)
        ∙ ap not (opposites_differ size size.kind o in_o l in_l)
        ∙ not-not (holds_of size o l)

    -- bits of an outcome give the literals of the profile their truth values
    pub from_bits : AreBitsAt size p o v → AreOf size p o (literal_under size v)
    from_bits same l in_l here =
        let n = bits size.kind size.alternatives in
        let r = (are_variables size).from_profile l in_l in
        let Within : ℕ → Type 0 = λ q. (q * n + 1 ≤ (lit_of size l).variable) × ((lit_of size l).variable ≤ (q + 1) * n) in
        let s = subst Within here r in
        ap (λ b. beq b (lit_of size l).positive) (same (lit_of size l).variable s.0 s.1)
        ∙ bit_is l in_l ((lit_of size l).variable - 1) (lit_of size l).positive (literal-lit_of size size.kind l in_l)

  -- the other way around
  pub to_bits : (o : ℕ) → AreOf size p o (literal_under size v) → AreBitsAt size p o v
  to_bits o same i low high =
      let s : Signed = record { variable = i; positive = true } in
      let some : 1 ≤ i = omega (arith, low) in
      let all : i ≤ variable_count size = variable_in p (sort_count size Profile) (bits size.kind size.alternatives) i in_p high in
      sym (beq-true (v i))
      ∙ sym (ap (is_lit_true v) ((are_variables size).of_literal s some all))
      ∙ same (literal_of size s) ((are_variables size).literal s some all) ((are_variables size).to_profile p s low high)

  -- a frame's clauses are satisfied where the frame is
  frame_satisfied : is_satisfied v (frame_clauses size p) ≡ list_all (list_any (literal_under size v)) (frame_of size size.kind p)
  frame_satisfied = true-clauses_of size v (frame_of size size.kind p)

pub says_one_outcome : (size : Extent) → FramesSayOneOutcome size
says_one_outcome size p in_p = record {
  each = λ v o in_o same.
      frame_satisfied size p in_p v
      ∙ frame-same size p in_p (literal_under size v) (holds_of size o) size.kind (from_bits size p in_p v o in_o same)
      ∙ (is_frame size p in_p).each o in_o;
  some = λ v h.
      let found = (is_frame size p in_p).some (literal_under size v) (literal_under-opposite size v size.kind) (sym (frame_satisfied size p in_p v) ∙ h) in
      (found.0, found.1, to_bits size p in_p v found.0 found.2);
  one = λ v o q in_o in_q same_o same_q.
      (is_frame size p in_p).one (literal_under size v) o q in_o in_q (from_bits size p in_p v o in_o same_o) (from_bits size p in_p v q in_q same_q);
}

pub say_literals : (size : Extent) → BitsSayLiterals size
say_literals size p o in_p in_o v same l in_l here = from_bits size p in_p v o in_o same l in_l here
