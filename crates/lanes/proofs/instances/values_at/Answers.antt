use Rattle.std.proofs.Common.{◌≡◌, ◌<◌, ◌≤◌, ◌∙◌, List, ℕ, ap, arith, length, subst, sym}
use Rattle.std.specs.Prelude.{slice_index}
use Rattle.vocab.specs.Formula.{body_of}
use Rattle.vocab.specs.Limits.{bases_of}
use Rattle.worlds.specs.Conditions.{IsFormulaAt}
use Rattle.meaning.specs.Instances.{instance_values}
use Rattle.lanes.specs.Lanes.{strides}
use Rattle.lanes.proofs.InstanceLemmas.{few_values}
use Rattle.lanes.proofs.StrideLaws.{all-digits, length-strides, one-digit, stride-some}
use Rattle.lanes.proofs.instances.values_at.Goals as goal

pub nonzero_div-rest : goal.nonzero_div-rest
nonzero_div-rest g c =
    let bases = bases_of (g.K.OutcomeKind.size c.args.kind.now) c.args.named.now.sentence in
    let at = c.requires.plan.strides in
    let long = length-strides bases in
    let many = ap length at in
    let end = c.len-k-end.ensures in
    let within : c.loop-k.k < length bases = (let t = c.loop-k-test.true in omega (arith, t, end, many, long)) in
    let stride : c.get-stride.result ≡ slice_index (strides bases) c.loop-k.k = c.get-stride.ensures ∙ ap (λ (xs : List ℕ). slice_index xs c.loop-k.k) at in
    stride-some bases c.args.number c.loop-k.k c.loop-k.rest c.loop-k.values c.loop-k.invariant within c.get-stride.result stride

pub with-values-requires : goal.with-values-requires
with-values-requires g c =
    let bases = bases_of (g.K.OutcomeKind.size c.args.kind.now) c.args.named.now.sentence in
    let at = c.requires.plan.strides in
    let long = length-strides bases in
    let many = ap length at in
    let end = c.len-k-end.ensures in
    let few = few_values (g.K.OutcomeKind.size c.args.kind.now) c.args.named.now c.requires.sentence in
    let t = c.loop-k-test.true in
    omega (arith, t, end, many, long, few, c.loop-k.invariant.many)

pub nonzero_rem-rest : goal.nonzero_rem-rest
nonzero_rem-rest g c =
    let bases = bases_of (g.K.OutcomeKind.size c.args.kind.now) c.args.named.now.sentence in
    let at = c.requires.plan.strides in
    let long = length-strides bases in
    let many = ap length at in
    let end = c.len-k-end.ensures in
    let within : c.loop-k.k < length bases = (let t = c.loop-k-test.true in omega (arith, t, end, many, long)) in
    let stride : c.get-stride.result ≡ slice_index (strides bases) c.loop-k.k = c.get-stride.ensures ∙ ap (λ (xs : List ℕ). slice_index xs c.loop-k.k) at in
    stride-some bases c.args.number c.loop-k.k c.loop-k.rest c.loop-k.values c.loop-k.invariant within c.get-stride.result stride

pub loop-k-preserved : goal.loop-k-preserved
loop-k-preserved g c =
    let bases = bases_of (g.K.OutcomeKind.size c.args.kind.now) c.args.named.now.sentence in
    let at = c.requires.plan.strides in
    let long = length-strides bases in
    let many = ap length at in
    let end = c.len-k-end.ensures in
    let within : c.loop-k.k < length bases = (let t = c.loop-k-test.true in omega (arith, t, end, many, long)) in
    let stride : c.get-stride.result ≡ slice_index (strides bases) c.loop-k.k = c.get-stride.ensures ∙ ap (λ (xs : List ℕ). slice_index xs c.loop-k.k) at in
    rw c.with-values.ensures (one-digit bases c.args.number c.loop-k.k c.loop-k.rest c.loop-k.values c.loop-k.invariant within c.get-stride.result stride)

pub returns-clause-values : goal.returns-clause-values
returns-clause-values g c =
    let bases = bases_of (g.K.OutcomeKind.size c.args.kind.now) c.args.named.now.sentence in
    let at = c.requires.plan.strides in
    let long = length-strides bases in
    let many = ap length at in
    let end = c.len-k-end.ensures in
    let past : length bases ≤ c.loop-k.k = (let t = c.loop-k-test.false in omega (arith, t, end, many, long)) in
    all-digits bases c.args.number c.loop-k.k c.loop-k.rest c.loop-k.values c.loop-k.invariant past

pub returns-clause-fits : goal.returns-clause-fits
returns-clause-fits g c =
    let bases = bases_of (g.K.OutcomeKind.size c.args.kind.now) c.args.named.now.sentence in
    let at = c.requires.plan.strides in
    let long = length-strides bases in
    let many = ap length at in
    let end = c.len-k-end.ensures in
    let size = g.K.OutcomeKind.size c.args.kind.now in
    let a = c.args.named.now in
    let past : length bases ≤ c.loop-k.k = (let t = c.loop-k-test.false in omega (arith, t, end, many, long)) in
    let e : c.loop-k.values ≡ instance_values size a.sentence c.args.number = all-digits bases c.args.number c.loop-k.k c.loop-k.rest c.loop-k.values c.loop-k.invariant past in
    subst (λ (v : List ℕ). IsFormulaAt size (body_of a.sentence) v) (sym e)
    (c.bodies_have_values.ensures size a c.requires.sentence _ ((c.numbers_are_digits.ensures bases).digits c.args.number c.requires.within))
