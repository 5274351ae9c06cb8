use Rattle.std.proofs.Common.{arith, get_or, ◌∙◌, ◌≡◌, ◌<◌, [], length}
use Rattle.std.proofs.lemmas.List.{get_or_default}
use Rattle.propagate.specs.Watchers.{follow}
use Rattle.propagate.proofs.ChainLemmas.{IsLinked-add}
use Rattle.propagate.proofs.watchers.Watchers.add.Goals as goal

pub invariant_of-self : goal.invariant_of-self
invariant_of-self c =
    let none : follow c.self.inside.next.items c.self.inside.cursor (length c.self.inside.next.items) ≡ [] = rw (← c.self.view_is) at c.requires.loose in
    let within : c.args.owner < length c.self.inside.heads.items = rw (← c.self.view_is) at c.requires.list in
    let few : length c.self.inside.owners.items < 18446744073709551615 = rw (← c.self.view_is) at c.requires.few in
    let sizes : length c.self.inside.owners.items ≡ length c.self.inside.next.items = c.self.invariant.linked.sizes in
    let all = IsLinked-add c.self.inside.owners.items c.self.inside.heads.items c.self.inside.next.items c.self.inside.cursor c.args.owner c.self.invariant none within (omega arith) in
    let at : c.index.result.now ≡ get_or c.self.inside.heads.items c.args.owner 0 = c.index.ensures ∙ get_or_default c.self.inside.heads.items c.args.owner c.index.result.now 0 within in
    rw (c.push_reserved.ensures.items, c.push_reserved-2.ensures.items, at, c.as_slice-node.ensures.value, sizes) (all.0)
