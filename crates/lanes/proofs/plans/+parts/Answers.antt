use Rattle.std.proofs.Common.{◌≡◌, inl, inr}
use Rattle.vocab.specs.Size.{sort_count}
use Rattle.vocab.specs.Tree.{tree_of, Not, Both, Either, Implies, Same}
use Rattle.lanes.proofs.UnderLaws.{inside_all, inside_part, inside_some}
use Rattle.lanes.proofs.plans.+parts.Goals as goal

pub part_of-requires-clause-inside : goal.part_of-requires-clause-inside
part_of-requires-clause-inside g t c =
    let size = g.K.OutcomeKind.size c.args.setting.now.kind.now in
    let f = tree_of c.in-Not.f.value in
    rw c.deref.ensures (λ κs out. inside_part size c.args.setting.now.named.now.sentence (Not f) f c.args.counts.now (λ env h. h) (rw c.in-Not.is at c.requires.inside))

pub part_of-requires-in-Both-clause-inside : goal.part_of-requires-in-Both-clause-inside
part_of-requires-in-Both-clause-inside g t c =
    let size = g.K.OutcomeKind.size c.args.setting.now.kind.now in
    let f = tree_of c.in-Both.f.value in
    let h = tree_of c.in-Both.g.value in
    let inside = inside_part size c.args.setting.now.named.now.sentence in
    rw c.deref-in-Both.ensures (λ κs out. elim c.in-Both.is [
      | inl e ↦ inside (Both f h) f c.args.counts.now (λ env e. e.0) (rw e at c.requires.inside)
      | inr (inl e) ↦ inside (Either f h) f c.args.counts.now (λ env e. e.0) (rw e at c.requires.inside)
      | inr (inr (inl e)) ↦ inside (Implies f h) f c.args.counts.now (λ env e. e.0) (rw e at c.requires.inside)
      | inr (inr (inr e)) ↦ inside (Same f h) f c.args.counts.now (λ env e. e.0) (rw e at c.requires.inside)
    ])

pub part_of-requires-in-Both-2-clause-inside : goal.part_of-requires-in-Both-2-clause-inside
part_of-requires-in-Both-2-clause-inside g t c =
    let size = g.K.OutcomeKind.size c.args.setting.now.kind.now in
    let f = tree_of c.in-Both.f.value in
    let h = tree_of c.in-Both.g.value in
    let inside = inside_part size c.args.setting.now.named.now.sentence in
    rw c.deref-in-Both-2.ensures (λ κs out. elim c.in-Both.is [
      | inl e ↦ inside (Both f h) h c.args.counts.now (λ env e. e.1) (rw e at c.requires.inside)
      | inr (inl e) ↦ inside (Either f h) h c.args.counts.now (λ env e. e.1) (rw e at c.requires.inside)
      | inr (inr (inl e)) ↦ inside (Implies f h) h c.args.counts.now (λ env e. e.1) (rw e at c.requires.inside)
      | inr (inr (inr e)) ↦ inside (Same f h) h c.args.counts.now (λ env e. e.1) (rw e at c.requires.inside)
    ])

pub part_of-requires-in-All-clause-inside : goal.part_of-requires-in-All-clause-inside
part_of-requires-in-All-clause-inside g t c =
    let size = g.K.OutcomeKind.size c.args.setting.now.kind.now in
    let f = tree_of c.in-All.f.value in
    let count : c.sort_len.result ≡ sort_count size c.in-All.sort = rw (c.size.ensures, c.space.ensures) at c.sort_len.ensures in
    rw (c.with-more.ensures, c.deref-in-All.ensures, count) (λ κs out. elim c.in-All.is [
      | inl e ↦ inside_all size c.args.setting.now.named.now.sentence c.in-All.sort f c.args.counts.now (rw e at c.requires.inside)
      | inr e ↦ inside_some size c.args.setting.now.named.now.sentence c.in-All.sort f c.args.counts.now (rw e at c.requires.inside)
    ])
