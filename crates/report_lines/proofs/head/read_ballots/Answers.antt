use Rattle.std.proofs.Common.{◌∙◌, sym}
use Rattle.verdicts.specs.Texts.{words_of}
use Rattle.report_lines.specs.Rest.{words_after}
use Rattle.report_lines.proofs.BallotLemmas.{no_ranking, no_rankings, some_rankings}
use Rattle.report_lines.proofs.head.read_ballots.Goals as goal

pub returns-then-is_empty : goal.returns-then-is_empty
returns-then-is_empty c = λ study number same.
    no_ranking study (words_of c.args.text.now) c.in-Some.rest.now c.in-Some.ensures (sym c.is_empty.ensures ∙ c.if-is_empty.true)

pub returns-then-are_rankings : goal.returns-then-are_rankings
returns-then-are_rankings c = λ study number same.
    some_rankings study c.args.space.now same c.spaces_have_sizes.ensures (words_of c.args.text.now) c.in-Some.rest.now c.are_all_ballots.result c.in-Some.ensures (sym c.is_empty.ensures ∙ c.if-is_empty.false)
    (sym c.are_rankings.ensures ∙ c.if-are_rankings.true) c.are_all_ballots.ensures

pub returns-else-are_rankings : goal.returns-else-are_rankings
returns-else-are_rankings c = λ study number same.
    no_rankings study c.args.space.now same (words_of c.args.text.now) (words_after c.in-Some.rest.now) c.in-Some.ensures (sym c.are_rankings.ensures ∙ c.if-are_rankings.false)
