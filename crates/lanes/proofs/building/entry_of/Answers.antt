use Rattle.std.proofs.Common.{◌≡◌, ◌∙◌, ap, sym, subst, ℕ, List, ◌+◌, ◌<◌, ◌++◌, arith}
use Rattle.vocab.specs.Limits.{bases_of, instance_count}
use Rattle.vocab.specs.Tree.{tree_of}
use Rattle.meaning.specs.Clauses.{known_truth}
use Rattle.meaning.specs.Instances.{instance_values}
use Rattle.meaning.specs.Written.{write_out}
use Rattle.worlds.specs.Conditions.{IsEvaluable}
use Rattle.lanes.specs.Lanes.{place_in}
use Rattle.lanes.proofs.PlanLaws.{is_entry}
use Rattle.lanes.proofs.UnderLaws.{under_at}
use Rattle.lanes.proofs.building.entry_of.Goals as goal

pub what_is_known-requires-after_bounds : goal.what_is_known-requires-after_bounds
what_is_known-requires-after_bounds g c = λ κs out.
    let size = g.K.OutcomeKind.size c.args.setting.now.kind.now in
    let sentence = c.args.setting.now.named.now.sentence in
    let f = tree_of c.args.leaf.now in
    let n : ℕ = c.args.number + c.loop-k.k in
    let values : c.in-Some-joined.env ≡ instance_values size sentence n ++ c.args.inner.now = c.in-Some-joined.ensures.all ∙ ap (λ (v : List ℕ). v ++ c.args.inner.now) c.values_of-at.ensures.values in
    let within : n < instance_count size sentence = let k = c.if-k-setting.false in let e = c.requires.setting.instances in omega (arith, k, e) in
    c.requires.leaf c.in-Some-joined.env
    (subst (λ (v : List ℕ). IsEvaluable size f v) (sym values) (under_at size f c.args.counts.now c.args.inner.now (instance_values size sentence n) c.requires.inner (c.requires.inside n within)))
    c.in-Some-joined.ensures.few

pub loop-k-preserved : goal.loop-k-preserved
loop-k-preserved g c = λ j.
    let size = g.K.OutcomeKind.size c.args.setting.now.kind.now in
    let sentence = c.args.setting.now.named.now.sentence in
    let f = tree_of c.args.leaf.now in
    let n : ℕ = c.args.number + c.loop-k.k in
    let values : c.in-Some-joined.env ≡ instance_values size sentence n ++ c.args.inner.now = c.in-Some-joined.ensures.all ∙ ap (λ (v : List ℕ). v ++ c.args.inner.now) c.values_of-at.ensures.values in
    c.marked-marks.ensures (λ j. write_out size f (instance_values size sentence (c.args.number + j) ++ c.args.inner.now)) c.loop-k.invariant (c.what_is_known.ensures ∙ ap (λ (v : List ℕ). known_truth (write_out size f v)) values) j

pub returns : goal.returns
returns g c =
    let size = g.K.OutcomeKind.size c.args.setting.now.kind.now in
    let sentence = c.args.setting.now.named.now.sentence in
    let shape = c.args.setting.now.shape in
    let n : ℕ = c.args.number in
    let at : c.place_in-first.result ≡ place_in shape.outer (bases_of size sentence) n = rw (c.space-space.ensures, c.sentence.ensures) at c.place_in-first.ensures in
    let values : c.in-Some.values ≡ instance_values size sentence n ++ c.args.inner.now = c.in-Some.ensures.all ∙ ap (λ (v : List ℕ). v ++ c.args.inner.now) c.values_of.ensures.values in
    let within : n < instance_count size sentence = let k = c.requires.within in let e = c.requires.setting.instances in omega (arith, k, e) in
    is_entry size sentence (tree_of c.args.leaf.now) shape c.requires.setting.shaped n c.args.inner.now (record { values = c.in-Some.values; first = c.place_in-first.result; marks = c.loop-k.marks }) within at values c.loop-k.invariant
