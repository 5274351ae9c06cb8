use Rattle.std.proofs.Common.{sym, ◌∙◌}
use Rattle.verdict_reading.proofs.EndLemmas.{cut_off, followed, confirms, goes_on}
use Rattle.verdict_reading.proofs.reading.end_of_report.Goals as goal

pub returns-then-not-whole : goal.returns-then-not-whole
returns-then-not-whole c = λ study s rest h same. cut_off c.args.whole c.args.line rest s c.if-not-whole.true

pub returns-then-not-ended : goal.returns-then-not-ended
returns-then-not-ended c = λ study s rest h same. followed c.args.whole c.args.ended c.args.line rest s c.if-not-whole.false same c.if-not-ended.true

pub returns-in-Some : goal.returns-in-Some
returns-in-Some c = λ study s rest h same.
    confirms c.args.whole c.args.ended c.args.line rest c.if-not-whole.false same c.if-not-ended.false s c.in-Some.verdict (sym c.in-Some.is ∙ c.in_ok-verdict.ensures study s h)

pub returns-in-None : goal.returns-in-None
returns-in-None c = λ study s rest h same.
    goes_on c.args.whole c.args.ended c.args.line rest c.if-not-whole.false same c.if-not-ended.false s (sym c.in-None.is ∙ c.in_ok-verdict.ensures study s h)
