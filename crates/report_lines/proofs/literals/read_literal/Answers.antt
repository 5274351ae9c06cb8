use Rattle.std.proofs.Common.{◌∙◌, ap}
use Rattle.vocab.specs.Size.{Extent}
use Rattle.vocab.specs.declared.kinds.Kind.TheVariants.{Choice, Ranking, Sets}
use Rattle.report_lines.proofs.LiteralLemmas.{literal_is}
use Rattle.report_lines.proofs.literals.read_literal.Goals as goal

pub returns-in-Choice : goal.returns-in-Choice
returns-in-Choice c = literal_is c.args.space.now c.args.word.now c.spaces_have_sizes.ensures Choice (c.in-Choice.ensures ∙ ap (λ (s : Extent). s.kind) c.size.ensures) c.read_winning.result c.read_winning.ensures

pub returns-in-Ranking : goal.returns-in-Ranking
returns-in-Ranking c = literal_is c.args.space.now c.args.word.now c.spaces_have_sizes.ensures Ranking (c.in-Ranking.ensures ∙ ap (λ (s : Extent). s.kind) c.size.ensures) c.read_ranking.result c.read_ranking.ensures

pub returns-in-Sets : goal.returns-in-Sets
returns-in-Sets c = literal_is c.args.space.now c.args.word.now c.spaces_have_sizes.ensures Sets (c.in-Sets.ensures ∙ ap (λ (s : Extent). s.kind) c.size.ensures) c.read_winning-in-Sets.result c.read_winning-in-Sets.ensures
