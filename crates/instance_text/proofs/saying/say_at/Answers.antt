use Rattle.std.proofs.Common.{◌≡◌, false, sym, ◌∙◌, [], slice_get, Some}
use Rattle.instance_text.specs.Said.{has_numbered_instance, said_of_instance}
use Rattle.instance_text.proofs.SaidLemmas.{at_place}
use Rattle.instance_text.proofs.saying.say_at.Goals as goal

pub returns-clause-there : goal.returns-clause-there
returns-clause-there g c =
    let study = c.args.study.now in
    let at : slice_get study.axioms c.args.place ≡ Some c.get-named.result.now = rw c.axioms.ensures.axioms at c.get-named.ensures in
    c.in_ok-said.ensures.there ∙ sym (at_place study c.args.place c.get-named.result.now at (has_numbered_instance study c.args.number) false)

pub returns-clause-text : goal.returns-clause-text
returns-clause-text g c =
    let study = c.args.study.now in
    let at : slice_get study.axioms c.args.place ≡ Some c.get-named.result.now = rw c.axioms.ensures.axioms at c.get-named.ensures in
    c.in_ok-said.ensures.text ∙ sym (at_place study c.args.place c.get-named.result.now at (said_of_instance study c.args.number c.args.place) [])
