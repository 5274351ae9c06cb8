use Rattle.std.proofs.Common.{sym, subst, ℕ, ◌<◌, arith}
use Rattle.vocab.specs.Range.{product}
use Rattle.meaning.specs.Space.{cast_bases}
use Rattle.profiles.proofs.DigitPlaces.{lists_few}
use Rattle.profiles.proofs.DigitChanges.{is_replaced, replaced_within}
use Rattle.profiles.proofs.space.Space.replaced.Goals as goal

pub overflow_mul-result : goal.overflow_mul-result
overflow_mul-result c =
    let r = is_replaced c.args.self.now c.args.p c.args.i c.args.new c.args.old c.weight-weight.result c.requires.listed c.requires.voter c.requires.old c.weight-weight.ensures.value in
    omega (arith, r.taken)

pub overflow_sub-result : goal.overflow_sub-result
overflow_sub-result c =
    (is_replaced c.args.self.now c.args.p c.args.i c.args.new c.args.old c.weight-weight.result c.requires.listed c.requires.voter c.requires.old c.weight-weight.ensures.value).taken

pub overflow_mul-result-2 : goal.overflow_mul-result-2
overflow_mul-result-2 c =
    let r = is_replaced c.args.self.now c.args.p c.args.i c.args.new c.args.old c.weight-weight.result c.requires.listed c.requires.voter c.requires.old c.weight-weight.ensures.value in
    omega (arith, r.added, lists_few c.args.self.now, replaced_within c.args.self.now c.args.p c.args.i c.args.new c.requires.listed c.requires.voter c.requires.new)

pub overflow_add-result : goal.overflow_add-result
overflow_add-result c =
    let r = is_replaced c.args.self.now c.args.p c.args.i c.args.new c.args.old c.weight-weight.result c.requires.listed c.requires.voter c.requires.old c.weight-weight.ensures.value in
    omega (arith, r.number, lists_few c.args.self.now, replaced_within c.args.self.now c.args.p c.args.i c.args.new c.requires.listed c.requires.voter c.requires.new)

pub returns-clause-value : goal.returns-clause-value
returns-clause-value c =
    (is_replaced c.args.self.now c.args.p c.args.i c.args.new c.args.old c.weight-weight.result c.requires.listed c.requires.voter c.requires.old c.weight-weight.ensures.value).number

pub returns-clause-listed : goal.returns-clause-listed
returns-clause-listed c =
    let r = is_replaced c.args.self.now c.args.p c.args.i c.args.new c.args.old c.weight-weight.result c.requires.listed c.requires.voter c.requires.old c.weight-weight.ensures.value in
    subst (λ (x : ℕ). x < product (cast_bases c.args.self.now)) (sym r.number) (replaced_within c.args.self.now c.args.p c.args.i c.args.new c.requires.listed c.requires.voter c.requires.new)
