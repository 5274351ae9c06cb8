use Rattle.std.proofs.Common.{◌≡◌, ◌∙◌, ap, Some, option_map}
use Rattle.std.specs.Prelude.{codes}
use Rattle.vocab.specs.Size.{Extent}
use Rattle.verdicts.specs.Lines.{Suppose}
use Rattle.verdicts.specs.Texts.{words_of, read_literal}
use Rattle.report_lines.specs.declared.lines.Line.TheVariants as held
use Rattle.report_lines.specs.Held.{held_line}
use Rattle.report_lines.proofs.LineLemmas.{word_told}
use Rattle.report_lines.proofs.story.read_suppose.Goals as goal

pub returns-in-Some-read_literal : goal.returns-in-Some-read_literal
returns-in-Some-read_literal c =
    let study = c.args.study.now in
    let word = c.in-Some.word.now in
    let named : Some c.in-Some-read_literal.literal ≡ read_literal study.size word = c.in-Some-read_literal.ensures ∙ ap (λ (s : Extent). read_literal s word) c.requires in
    word_told (held_line study) (codes "suppose") (λ w. option_map Suppose (read_literal study.size w)) (words_of c.args.text.now) word (Some (held.Suppose c.in-Some-read_literal.literal)) c.in-Some.ensures
    (ap (λ o. option_map (held_line study) (option_map Suppose o)) named)
