use Rattle.std.proofs.Common.{◌∙◌}
use Rattle.names.proofs.index.NameIndex.place_of.Goals as goal

pub returns : goal.returns
returns c = λ first names finds. c.copied.ensures ∙ c.get.ensures.value ∙ finds c.args.name.now
