use Rattle.std.proofs.Common.{◌∙◌, sym, ap, ◌+◌, arith}
use Rattle.vocab.specs.Size.{is_digit_set}
use Rattle.vocab.proofs.Ranges.{counted-passed, counted-failed, set-from, unset-from}
use Rattle.vocab.proofs.sizes.digits_set.Goals as goal
use Rattle.vocab.proofs.sizes.digits_set.Goals.{then-number-j-eq1, else-number-j-eq1}

pub loop-j-preserved : goal.loop-j-preserved
loop-j-preserved c = elim c.if-number-j-eq1.branch [
  | then-number-j-eq1 w ↦ record {
    counted = w.count-is ∙ ap (λ n. n + 1) c.loop-j.invariant.counted ∙ sym (counted-passed (is_digit_set c.args.number) c.loop-j.j (set-from c.args.number c.loop-j.j w.if-number-j-eq1.true));
    few = omega (arith, w.count-is, c.loop-j.invariant.few);
  }
  | else-number-j-eq1 w ↦ record {
    counted = w.count-is ∙ c.loop-j.invariant.counted ∙ sym (counted-failed (is_digit_set c.args.number) c.loop-j.j (unset-from c.args.number c.loop-j.j w.if-number-j-eq1.false));
    few = omega (arith, w.count-is, c.loop-j.invariant.few);
  }
]
