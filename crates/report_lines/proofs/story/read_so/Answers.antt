use Rattle.std.proofs.Common.{◌≡◌, ◌∙◌, ap, Some, sym}
use Rattle.vocab.specs.Size.{Extent}
use Rattle.verdicts.specs.Texts.{words_of, read_literal}
use Rattle.report_lines.specs.Rest.{words_after}
use Rattle.report_lines.proofs.LineLemmas.{a_so, no_so_literal, no_so_reason}
use Rattle.report_lines.proofs.story.read_so.Goals as goal

pub returns-in_default-read_literal : goal.returns-in_default-read_literal
returns-in_default-read_literal c =
    let word = c.in-Some-next_word.word.now in
    no_so_literal c.args.study.now (words_of c.args.text.now) (words_after c.in-Some.rest.now) (words_after c.in-Some-next_word.more.now) word c.in-Some.ensures c.in-Some-next_word.ensures.0
    (sym c.in_default-read_literal.is ∙ c.read_literal.ensures ∙ ap (λ (s : Extent). read_literal s word) c.requires)

pub returns-in-Some-read_reason : goal.returns-in-Some-read_reason
returns-in-Some-read_reason c =
    let word = c.in-Some-next_word.word.now in
    let literal = c.in-Some-read_literal.literal in
    let named : Some literal ≡ read_literal c.args.study.now.size word = c.in-Some-read_literal.ensures ∙ ap (λ (s : Extent). read_literal s word) c.requires in
    a_so c.args.study.now (words_of c.args.text.now) (words_after c.in-Some.rest.now) (words_after c.in-Some-next_word.more.now) word c.in-Some.ensures c.in-Some-next_word.ensures.0
    literal (words_after c.in-Some-after_key.words.now) c.in-Some-read_reason.reason named c.in-Some-after_key.ensures c.in-Some-read_reason.ensures

pub returns-in-None : goal.returns-in-None
returns-in-None c =
    let word = c.in-Some-next_word.word.now in
    let literal = c.in-Some-read_literal.literal in
    let named : Some literal ≡ read_literal c.args.study.now.size word = c.in-Some-read_literal.ensures ∙ ap (λ (s : Extent). read_literal s word) c.requires in
    no_so_reason c.args.study.now (words_of c.args.text.now) (words_after c.in-Some.rest.now) (words_after c.in-Some-next_word.more.now) word c.in-Some.ensures c.in-Some-next_word.ensures.0
    literal (words_after c.in-Some-after_key.words.now) named c.in-Some-after_key.ensures c.in-None.ensures
