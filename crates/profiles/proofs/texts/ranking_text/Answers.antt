use Rattle.std.proofs.Common.{ap}
use Rattle.vocab.specs.Name.{is_name}
use Rattle.profiles.proofs.TableLemmas.{ballots_are_names}
use Rattle.std.proofs.Common.{◌∙◌}
use Rattle.profiles.proofs.texts.ranking_text.Goals as goal

pub unwrap-requires : goal.unwrap-requires
unwrap-requires c = c.new.ensures.when.1 (ap is_name c.spelled-letters.ensures ∙ ballots_are_names c.args.order.alternatives.number c.args.order.place c.args.order.alternatives.some c.args.order.alternatives.few c.args.order.listed)
