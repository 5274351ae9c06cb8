use Rattle.std.proofs.Common.{◌∙◌}
use Rattle.study.proofs.FirstPlaces.{among_names, stands_within}
use Rattle.study.proofs.by_name.ByName.place_of.Goals as goal

pub returns-clause-place : goal.returns-clause-place
returns-clause-place c = c.place_of.ensures 0 _ c.args.self.now.first ∙ among_names c.args.self.now.entries.now c.args.name.now 0

pub returns-clause-within : goal.returns-clause-within
returns-clause-within c =
    stands_within c.args.self.now.entries.now c.args.name.now c.place_of.result (c.place_of.ensures 0 _ c.args.self.now.first ∙ among_names c.args.self.now.entries.now c.args.name.now 0)
