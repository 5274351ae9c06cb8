use Rattle.std.proofs.Common.{◌∙◌, sym, true, false, Some, None}
use Rattle.std.specs.Prelude.{codes}
use Rattle.verdicts.specs.Texts.{words_of}
use Rattle.report_lines.specs.declared.lines.Line.TheVariants as held
use Rattle.report_lines.specs.Held.{held_line}
use Rattle.report_lines.proofs.LineLemmas.{word_told, absent_line, is_yes, is_no, is_neither}
use Rattle.report_lines.proofs.head.read_absent.Goals as goal

pub returns-then-is_same : goal.returns-then-is_same
returns-then-is_same c = λ study number.
    word_told (held_line study) (codes "absent") absent_line (words_of c.args.text.now) c.in_ok-word.word.now (Some (held.AbsentIs true)) c.in_ok-word.ensures
    (is_yes (held_line study) c.in_ok-word.word.now (sym c.is_same.ensures ∙ c.if-is_same.true))

pub returns-then-is_same-2 : goal.returns-then-is_same-2
returns-then-is_same-2 c = λ study number.
    word_told (held_line study) (codes "absent") absent_line (words_of c.args.text.now) c.in_ok-word.word.now (Some (held.AbsentIs false)) c.in_ok-word.ensures
    (is_no (held_line study) c.in_ok-word.word.now (sym c.is_same-else-is_same.ensures ∙ c.if-is_same-2.true))

pub returns-else-is_same-2 : goal.returns-else-is_same-2
returns-else-is_same-2 c = λ study number.
    word_told (held_line study) (codes "absent") absent_line (words_of c.args.text.now) c.in_ok-word.word.now None c.in_ok-word.ensures
    (is_neither (held_line study) c.in_ok-word.word.now (sym c.is_same.ensures ∙ c.if-is_same.false) (sym c.is_same-else-is_same.ensures ∙ c.if-is_same-2.false))
