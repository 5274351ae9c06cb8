use Rattle.std.proofs.Common.{get_or, ◌∙◌, ◌≡◌, ◌<◌, [], length}
use Rattle.std.proofs.lemmas.List.{get_or_default}
use Rattle.propagate.specs.Watchers.{follow}
use Rattle.propagate.proofs.ChainLemmas.{IsLinked-detach}
use Rattle.propagate.proofs.watchers.Watchers.detach.Goals as goal

pub invariant_of-self : goal.invariant_of-self
invariant_of-self c =
    let none : follow c.self.inside.next.items c.self.inside.cursor (length c.self.inside.next.items) ≡ [] = rw (← c.self.view_is) at c.requires.loose in
    let within : c.args.list < length c.self.inside.heads.items = rw (← c.self.view_is) at c.requires.list in
    let at : c.index.result.now ≡ get_or c.self.inside.heads.items c.args.list 0 = c.index.ensures ∙ get_or_default c.self.inside.heads.items c.args.list c.index.result.now 0 within in
    rw at ((IsLinked-detach _ _ _ _ c.args.list c.self.invariant none within).0)

pub returns-clause-loose : goal.returns-clause-loose
returns-clause-loose c =
    let none : follow c.self.inside.next.items c.self.inside.cursor (length c.self.inside.next.items) ≡ [] = rw (← c.self.view_is) at c.requires.loose in
    let within : c.args.list < length c.self.inside.heads.items = rw (← c.self.view_is) at c.requires.list in
    let at : c.index.result.now ≡ get_or c.self.inside.heads.items c.args.list 0 = c.index.ensures ∙ get_or_default c.self.inside.heads.items c.args.list c.index.result.now 0 within in
    rw at ((IsLinked-detach _ _ _ _ c.args.list c.self.invariant none within).1)
