-- The clauses of an implication whose left side is known to be true.
use Rattle.std.proofs.Common.{◌≡◌, sym, ap}
use Rattle.meaning.specs.Clauses.{known_truth, plus}
use Rattle.meaning.specs.declared.three.Three.TheVariants.{True}
use Rattle.meaning.specs.Kleene.{three_not}
use Rattle.meaning.specs.Written.{Neg, Or, Written}
use Rattle.clause_form.proofs.KnownLaws.{or_false_left}

-- they are those of its right side
pub premise_rows : (w v : Written) → known_truth w ≡ True → plus v ≡ plus (Or (Neg w) v)
premise_rows w v e = sym (or_false_left (Neg w) v (ap three_not e)).plus_same
