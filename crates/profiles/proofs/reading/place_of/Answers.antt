use Rattle.std.proofs.Common.{◌≡◌, ◌∙◌, sym, ap, length}
use Rattle.meaning.specs.Texts.{ranking_text}
use Rattle.profiles.specs.Weights.{rank_of}
use Rattle.profiles.proofs.ProfileTexts.{length-ranking_text}
use Rattle.profiles.proofs.TableLemmas.{rank-ranking}
use Rattle.profiles.proofs.reading.place_of.Goals as goal

pub returns-then-text-alternatives-clause-none : goal.returns-then-text-alternatives-clause-none
returns-then-text-alternatives-clause-none c = λ b h e. c.if-text-alternatives.true (ap length e ∙ length-ranking_text c.args.alternatives.number b h)

pub returns-else-spells-clause-none : goal.returns-else-spells-clause-none
returns-else-spells-clause-none c = λ b h e.
    let number : b ≡ c.rank.result = sym (c.rank.ensures.value ∙ ap rank_of e ∙ rank-ranking c.args.alternatives.number b c.args.alternatives.some c.args.alternatives.few h) in
    c.if-spells.ensures.other (e ∙ ap (ranking_text c.args.alternatives.number) number)
