use Rattle.std.proofs.Common.{arith, get_or, sym, ◌≡◌, ◌<◌, ◌≤◌, ◌∙◌, ◌∷◌, length}
use Rattle.std.proofs.lemmas.List.{get_or_default}
use Rattle.propagate.specs.Watchers.{follow}
use Rattle.propagate.proofs.ChainLemmas.{IsLinked-relink, some_follow, at_node}
use Rattle.propagate.proofs.watchers.Watchers.relink.Goals as goal
use Rattle.lists.proofs.PlaceLaws.{cons_same}

pub index-requires : goal.index-requires
index-requires c =
    let some : 1 ≤ length (follow c.self.inside.next.items c.self.inside.cursor (length c.self.inside.next.items)) = rw (← c.self.view_is) at c.requires.some in
    let f = some_follow c.self.inside.next.items c.self.inside.cursor (length c.self.inside.next.items) some in
    let a = at_node _ _ _ _ _ f.0 c.self.invariant f.1 in
    omega (arith, a.2, c.self.inside.next.ok.0)

pub index_mut-requires : goal.index_mut-requires
index_mut-requires c =
    let some : 1 ≤ length (follow c.self.inside.next.items c.self.inside.cursor (length c.self.inside.next.items)) = rw (← c.self.view_is) at c.requires.some in
    let f = some_follow c.self.inside.next.items c.self.inside.cursor (length c.self.inside.next.items) some in
    let a = at_node _ _ _ _ _ f.0 c.self.invariant f.1 in
    omega (arith, a.2, c.self.inside.owners.ok.0, c.self.invariant.linked.sizes)

pub index_mut-requires-2 : goal.index_mut-requires-2
index_mut-requires-2 c =
    let some : 1 ≤ length (follow c.self.inside.next.items c.self.inside.cursor (length c.self.inside.next.items)) = rw (← c.self.view_is) at c.requires.some in
    let f = some_follow c.self.inside.next.items c.self.inside.cursor (length c.self.inside.next.items) some in
    let a = at_node _ _ _ _ _ f.0 c.self.invariant f.1 in
    omega (arith, a.2, c.self.inside.next.ok.0)

pub invariant_of-self : goal.invariant_of-self
invariant_of-self c =
    let within : c.args.list < length c.self.inside.heads.items = rw (← c.self.view_is) at c.requires.list in
    let some : 1 ≤ length (follow c.self.inside.next.items c.self.inside.cursor (length c.self.inside.next.items)) = rw (← c.self.view_is) at c.requires.some in
    let f = some_follow c.self.inside.next.items c.self.inside.cursor (length c.self.inside.next.items) some in
    let a = at_node _ _ _ _ _ f.0 c.self.invariant f.1 in
    let at : c.index.result.now ≡ get_or c.self.inside.next.items c.self.inside.cursor 0 = c.index.ensures ∙ get_or_default c.self.inside.next.items c.self.inside.cursor c.index.result.now 0 a.2 in
    let at_2 : c.index-2.result.now ≡ get_or c.self.inside.heads.items c.args.list 0 = c.index-2.ensures ∙ get_or_default c.self.inside.heads.items c.args.list c.index-2.result.now 0 within in
    rw (at, at_2) ((IsLinked-relink _ _ _ _ c.args.list _ f.0 c.self.invariant f.1 within).0)

pub returns-clause-loose : goal.returns-clause-loose
returns-clause-loose c = λ n rest e.
    let within : c.args.list < length c.self.inside.heads.items = rw (← c.self.view_is) at c.requires.list in
    let some : 1 ≤ length (follow c.self.inside.next.items c.self.inside.cursor (length c.self.inside.next.items)) = rw (← c.self.view_is) at c.requires.some in
    let f = some_follow c.self.inside.next.items c.self.inside.cursor (length c.self.inside.next.items) some in
    let was : follow c.self.inside.next.items c.self.inside.cursor (length c.self.inside.next.items) ≡ n ∷ rest = rw (← c.self.view_is) at e in
    let same : f.0 ≡ rest = (cons_same c.self.inside.cursor n f.0 rest (sym f.1 ∙ was)).1 in
    let a = at_node _ _ _ _ _ f.0 c.self.invariant f.1 in
    let at : c.index.result.now ≡ get_or c.self.inside.next.items c.self.inside.cursor 0 = c.index.ensures ∙ get_or_default c.self.inside.next.items c.self.inside.cursor c.index.result.now 0 a.2 in
    let at_2 : c.index-2.result.now ≡ get_or c.self.inside.heads.items c.args.list 0 = c.index-2.ensures ∙ get_or_default c.self.inside.heads.items c.args.list c.index-2.result.now 0 within in
    rw (at, at_2) ((IsLinked-relink _ _ _ _ c.args.list _ f.0 c.self.invariant f.1 within).1 ∙ same)
