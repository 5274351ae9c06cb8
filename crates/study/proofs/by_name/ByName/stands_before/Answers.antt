use Rattle.study.proofs.FirstPlaces.{stands_earlier, stands_not}
use Rattle.study.proofs.by_name.ByName.stands_before.Goals as goal

pub returns-in-Some : goal.returns-in-Some
returns-in-Some c = stands_earlier c.args.self.now.entries.now c.args.name.now c.args.place c.in-Some.first c.in-Some.ensures.place

pub returns-in-None : goal.returns-in-None
returns-in-None c = stands_not c.args.self.now.entries.now c.args.name.now c.args.place c.in-None.ensures.place
