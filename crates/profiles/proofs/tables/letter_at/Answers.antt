use Rattle.std.proofs.Common.{◌∙◌, ◌+◌, ◌-◌, ap}
use Rattle.profiles.proofs.TableLemmas.{small_ballot, letter_at}
use Rattle.profiles.proofs.tables.letter_at.Goals as goal

pub alternative_at-requires-clause-ballot : goal.alternative_at-requires-clause-ballot
alternative_at-requires-clause-ballot c = small_ballot c.args.order.alternatives.number c.args.order.place c.args.order.alternatives.few c.args.order.listed

pub returns : goal.returns
returns c =
    ap (λ a. (97 + a) - (5 - c.args.order.alternatives.number)) c.alternative_at.ensures.value
    ∙ letter_at c.args.order.alternatives.number c.args.order.place c.args.place c.args.order.alternatives.some c.args.order.alternatives.few c.args.order.listed c.requires
