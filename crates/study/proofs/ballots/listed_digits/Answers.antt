use Rattle.std.proofs.Common.{Err, sym, ap, ◌∙◌, arith}
use Rattle.meaning.proofs.SpaceLaws.{factorial_small}
use Rattle.study.proofs.ListedBallots.{missed_text, taken_more, taken_all}
use Rattle.study.proofs.ballots.listed_digits.Goals as goal

pub returns-in_default : goal.returns-in_default
returns-in_default c other =
    missed_text c.args.alternatives.number c.args.texts.now c.loop-text.text-index c.loop-text.ballots c.text-item.result c.loop-text-test.true c.text-item.is c.loop-text.invariant
    (λ place h e. c.in_default.ensures.none place h (c.as_slice.ensures ∙ e))
    ∙ ap Err (sym (c.ballot_fault.ensures other))

pub is_set-requires : goal.is_set-requires
is_set-requires c = omega (arith, factorial_small c.args.alternatives.number c.args.alternatives.few, c.in-Some.ensures.found)

pub overflow_shl-ballots : goal.overflow_shl-ballots
overflow_shl-ballots c = omega (arith, factorial_small c.args.alternatives.number c.args.alternatives.few, c.in-Some.ensures.found)

pub loop-text-preserved : goal.loop-text-preserved
loop-text-preserved c =
    taken_more c.args.alternatives.number c.args.texts.now c.loop-text.text-index c.loop-text.ballots c.in-Some.place c.text-item.result c.args.alternatives.some c.args.alternatives.few c.loop-text-test.true c.text-item.is c.loop-text.invariant
    c.in-Some.ensures.found.0 (sym c.as_slice.ensures ∙ c.in-Some.ensures.found.1) (sym c.is_set.ensures ∙ c.if-is_set.false)

pub returns : goal.returns
returns c = taken_all c.args.alternatives.number c.args.texts.now c.loop-text.text-index c.loop-text.ballots c.loop-text-test.false c.loop-text.invariant
