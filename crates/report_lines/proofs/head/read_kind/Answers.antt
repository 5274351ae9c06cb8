use Rattle.std.proofs.Common.{◌∙◌, sym, Some, None}
use Rattle.std.specs.Prelude.{codes}
use Rattle.vocab.specs.declared.kinds.Kind.TheVariants.{Choice, Ranking, Sets}
use Rattle.verdicts.specs.Texts.{words_of}
use Rattle.report_lines.specs.declared.lines.Line.TheVariants as held
use Rattle.report_lines.specs.Held.{held_line}
use Rattle.report_lines.proofs.LineLemmas.{word_told, kind_line, is_choice, is_ranking, is_sets, is_no_kind}
use Rattle.report_lines.proofs.head.read_kind.Goals as goal

pub returns-then-is_same : goal.returns-then-is_same
returns-then-is_same c = λ study number.
    word_told (held_line study) (codes "kind") kind_line (words_of c.args.text.now) c.in_ok-word.word.now (Some (held.KindIs Choice)) c.in_ok-word.ensures
    (is_choice (held_line study) c.in_ok-word.word.now (sym c.is_same.ensures ∙ c.if-is_same.true))

pub returns-then-is_same-2 : goal.returns-then-is_same-2
returns-then-is_same-2 c = λ study number.
    word_told (held_line study) (codes "kind") kind_line (words_of c.args.text.now) c.in_ok-word.word.now (Some (held.KindIs Ranking)) c.in_ok-word.ensures
    (is_ranking (held_line study) c.in_ok-word.word.now (sym c.is_same-else-is_same.ensures ∙ c.if-is_same-2.true))

pub returns-then-is_same-3 : goal.returns-then-is_same-3
returns-then-is_same-3 c = λ study number.
    word_told (held_line study) (codes "kind") kind_line (words_of c.args.text.now) c.in_ok-word.word.now (Some (held.KindIs Sets)) c.in_ok-word.ensures
    (is_sets (held_line study) c.in_ok-word.word.now (sym c.is_same-else-is_same-2.ensures ∙ c.if-is_same-3.true))

pub returns-else-is_same-3 : goal.returns-else-is_same-3
returns-else-is_same-3 c = λ study number.
    word_told (held_line study) (codes "kind") kind_line (words_of c.args.text.now) c.in_ok-word.word.now None c.in_ok-word.ensures
    (is_no_kind (held_line study) c.in_ok-word.word.now (sym c.is_same.ensures ∙ c.if-is_same.false) (sym c.is_same-else-is_same.ensures ∙ c.if-is_same-2.false) (sym c.is_same-else-is_same-2.ensures ∙ c.if-is_same-3.false))
