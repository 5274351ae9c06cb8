use Rattle.std.proofs.Common.{sym}
use Rattle.study.proofs.FirstPlaces.{none_under, stands_there}
use Rattle.study.proofs.by_name.ByName.under.Goals as goal

pub returns-in_err-place-clause-text : goal.returns-in_err-place-clause-text
returns-in_err-place-clause-text c = rw c.from_residual.ensures (sym (none_under c.args.self.now.entries.now c.args.name.now 0 (sym c.in_err-place.ensures.place)))

pub returns-clause-text : goal.returns-clause-text
returns-clause-text c = sym ((stands_there c.args.self.now.entries.now c.args.name.now c.in_ok-place.place (sym c.in_ok-place.ensures.place)).text c.index-self-place.result)

pub returns-clause-name : goal.returns-clause-name
returns-clause-name c = (stands_there c.args.self.now.entries.now c.args.name.now c.in_ok-place.place (sym c.in_ok-place.ensures.place)).named c.index-self-place.result
