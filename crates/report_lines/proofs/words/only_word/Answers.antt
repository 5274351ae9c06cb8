use Rattle.std.proofs.Common.{◌∙◌, sym}
use Rattle.report_lines.specs.Rest.{words_after}
use Rattle.report_lines.proofs.WordLemmas.{not_one}
use Rattle.report_lines.proofs.words.only_word.Goals as goal

pub returns-else-is_empty : goal.returns-else-is_empty
returns-else-is_empty c = not_one (words_after c.args.rest.now) c.in_ok-word.word.now c.in_ok-word.more.now c.in_ok-word.ensures.0 (sym c.is_empty.ensures ∙ c.if-is_empty.false)
