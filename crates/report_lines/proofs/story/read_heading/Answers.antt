use Rattle.std.proofs.Common.{◌∙◌, sym, Some, None}
use Rattle.std.specs.Prelude.{codes}
use Rattle.verdicts.specs.Reading.{read_heading}
use Rattle.verdicts.specs.Texts.{words_of}
use Rattle.report_lines.specs.declared.lines.Line.TheVariants as held
use Rattle.report_lines.specs.Held.{held_line}
use Rattle.report_lines.proofs.LineLemmas.{word_told, is_heading, no_heading}
use Rattle.report_lines.proofs.story.read_heading.Goals as goal

pub returns-then-is_same : goal.returns-then-is_same
returns-then-is_same c = λ study.
    word_told (held_line study) (codes "lemma") (read_heading c.args.number) (words_of c.args.text.now) c.in-Some.word.now (Some (held.Heading c.args.number)) c.in-Some.ensures
    (is_heading study c.args.number c.in-Some.word.now c.as_bytes.result.now c.ranges.number.fits (c.as_bytes.ensures.value ∙ c.format.ensures.text) (sym c.is_same.ensures ∙ c.if-is_same.true))

pub returns-else-is_same : goal.returns-else-is_same
returns-else-is_same c = λ study.
    word_told (held_line study) (codes "lemma") (read_heading c.args.number) (words_of c.args.text.now) c.in-Some.word.now None c.in-Some.ensures
    (no_heading study c.args.number c.in-Some.word.now c.as_bytes.result.now c.ranges.number.fits (c.as_bytes.ensures.value ∙ c.format.ensures.text) (sym c.is_same.ensures ∙ c.if-is_same.false))
