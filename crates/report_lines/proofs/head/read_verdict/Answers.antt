use Rattle.std.proofs.Common.{◌∙◌, sym, Some, None}
use Rattle.std.specs.Prelude.{codes}
use Rattle.verdicts.specs.Texts.{words_of}
use Rattle.report_lines.specs.declared.lines.Line.TheVariants as held
use Rattle.report_lines.specs.Held.{held_line}
use Rattle.report_lines.proofs.LineLemmas.{word_told, verdict_of, is_impossible, is_undecided, is_no_verdict}
use Rattle.report_lines.proofs.head.read_verdict.Goals as goal

pub returns-then-is_same-2 : goal.returns-then-is_same-2
returns-then-is_same-2 c = λ study number.
    word_told (held_line study) (codes "verdict") verdict_of (words_of c.args.text.now) c.in-Some.word.now (Some held.SaysImpossible) c.in-Some.ensures
    (is_impossible (held_line study) c.in-Some.word.now (sym c.is_same-else-is_same.ensures ∙ c.if-is_same-2.true))

pub returns-then-is_same-3 : goal.returns-then-is_same-3
returns-then-is_same-3 c = λ study number.
    word_told (held_line study) (codes "verdict") verdict_of (words_of c.args.text.now) c.in-Some.word.now (Some held.SaysUndecided) c.in-Some.ensures
    (is_undecided (held_line study) c.in-Some.word.now (sym c.is_same-else-is_same-2.ensures ∙ c.if-is_same-3.true))

pub returns-else-is_same-3 : goal.returns-else-is_same-3
returns-else-is_same-3 c = λ study number.
    word_told (held_line study) (codes "verdict") verdict_of (words_of c.args.text.now) c.in-Some.word.now None c.in-Some.ensures
    (is_no_verdict (held_line study) c.in-Some.word.now (sym c.is_same.ensures ∙ c.if-is_same.false) (sym c.is_same-else-is_same.ensures ∙ c.if-is_same-2.false) (sym c.is_same-else-is_same-2.ensures ∙ c.if-is_same-3.false))
