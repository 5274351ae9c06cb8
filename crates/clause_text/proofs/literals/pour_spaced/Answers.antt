use Rattle.std.proofs.Common.{ℕ, List, [], ◌∷◌, ◌++◌, ◌≡◌, sym, subst, Bool, if◌then◌else◌, arith}
use Rattle.verdicts.specs.Numbers.{number_text}
use Rattle.texts.proofs.PourLemmas.{renamed}
use Rattle.clause_text.proofs.SpacedLemmas.{short_number, plain_number, negated_number}
use Rattle.clause_text.proofs.literals.pour_spaced.Goals as goal

pub write_digits-start-requires : goal.write_digits-start-requires
write_digits-start-requires g c = omega (arith, short_number c.args.number c.ranges.number.fits)

pub overflow_sub-bytes : goal.overflow_sub-bytes
overflow_sub-bytes g c = omega (arith, short_number c.args.number c.ranges.number.fits, c.write_digits-start.ensures.start)

pub overflow_sub-start : goal.overflow_sub-start
overflow_sub-start g c = omega (arith, short_number c.args.number c.ranges.number.fits, c.write_digits-start.ensures.start)

-- the piece is what is added, with a minus or without
written : (is_plain known : Bool) (n : ℕ) (piece : List ℕ) → is_plain ≡ known → piece ≡ (if known then number_text n else 45 ∷ number_text n) ++ 32 ∷ [] → piece ≡ (if is_plain then number_text n else 45 ∷ number_text n) ++ 32 ∷ []
written is_plain known n piece is = subst (λ (b : Bool). piece ≡ (if b then number_text n else 45 ∷ number_text n) ++ 32 ∷ []) (sym is)

pub returns-then-is_plain : goal.returns-then-is_plain
returns-then-is_plain g c = renamed _ _ _ _ _ _ c.put.result _ _ (written c.args.is_plain _ c.args.number _ c.if-is_plain.true (plain_number c.args.number c.write_digits-start.result c.write_digits-start.new.buf c.ranges.number.fits c.write_digits-start.auto.buf c.write_digits-start.ensures.written)) c.put.ensures

pub returns : goal.returns
returns g c = renamed _ _ _ _ _ _ c.put-2.result _ _ (written c.args.is_plain _ c.args.number _ c.if-is_plain.false (negated_number c.args.number c.write_digits-start.result c.write_digits-start.new.buf c.ranges.number.fits c.write_digits-start.auto.buf c.write_digits-start.ensures.written c.write_digits-start.ensures.start)) c.put-2.ensures
