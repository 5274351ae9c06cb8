use Rattle.std.proofs.Common.{ap₂, ◌∙◌}
use Rattle.std.specs.Prelude.{nat_lt}
use Rattle.profiles.proofs.TableLemmas.{small_ballot, above_by_places}
use Rattle.profiles.proofs.tables.is_above.Goals as goal

pub place_at-requires-clause-ballot : goal.place_at-requires-clause-ballot
place_at-requires-clause-ballot c = small_ballot c.args.order.alternatives.number c.args.order.place c.args.order.alternatives.few c.args.order.listed

pub place_at-requires-2-clause-ballot : goal.place_at-requires-2-clause-ballot
place_at-requires-2-clause-ballot c = small_ballot c.args.order.alternatives.number c.args.order.place c.args.order.alternatives.few c.args.order.listed

pub returns : goal.returns
returns c =
    ap₂ nat_lt c.place_at.ensures c.place_at-2.ensures
    ∙ above_by_places c.args.order.alternatives.number c.args.order.place c.args.x c.args.y c.args.order.alternatives.some c.args.order.alternatives.few c.args.order.listed c.requires.x c.requires.y
