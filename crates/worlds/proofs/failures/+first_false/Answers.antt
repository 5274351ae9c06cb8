use Rattle.std.proofs.Common.{◌≡◌, ◌≤◌, ◌*◌, min, ℕ, arith}
use Rattle.std.proofs.Common.{mul-le-mul_right}
use Rattle.vocab.specs.Limits.{instance_count}
use Rattle.vocab.specs.Size.{sort_count}
use Rattle.vocab.specs.Tree.{tree_of, All}
use Rattle.worlds.proofs.WalkLemmas.{most, IsBlock, is_block, first_block, past_the_end, AreTrueBefore, found_in_block, walk_goes_on}
use Rattle.worlds.proofs.failures.+first_false.Goals as goal

pub overflow_step-value : goal.overflow_step-value
overflow_step-value g t c =
    let p : ℕ = instance_count c.args.space.now (tree_of c.in-All.inner.value) in
    let n : ℕ = sort_count c.args.space.now c.in-All.sort in
    let cut : c.instance_count-block.result ≡ min p most = rw (← c.deref.ensures) c.instance_count-block.ensures in
    let within : c.args.to ≤ n * p = rw c.in-All.is at c.requires.within in
    let fits : c.args.to ≤ most = omega (arith, c.ranges.to.fits) in
    let count : c.sort_len-count.result ≡ n = rw (← c.size.ensures) c.sort_len-count.ensures in
    let first = first_block n p c.args.from c.args.to c.instance_count-block.result cut c.if-from-to.false fits within in
    omega (arith, first.1, count, c.sort_len-count.type_inv)

pub loop-value-init : goal.loop-value-init
loop-value-init g t c =
    let p : ℕ = instance_count c.args.space.now (tree_of c.in-All.inner.value) in
    let n : ℕ = sort_count c.args.space.now c.in-All.sort in
    let cut : c.instance_count-block.result ≡ min p most = rw (← c.deref.ensures) c.instance_count-block.ensures in
    let within : c.args.to ≤ n * p = rw c.in-All.is at c.requires.within in
    let fits : c.args.to ≤ most = omega (arith, c.ranges.to.fits) in
    let count : c.sort_len-count.result ≡ n = rw (← c.size.ensures) c.sort_len-count.ensures in
    let first = first_block n p c.args.from c.args.to c.instance_count-block.result cut c.if-from-to.false fits within in
    λ k low high lower. absurd (omega (arith, first.2))

pub returns-then-start-to : goal.returns-then-start-to
returns-then-start-to g t c =
    let p : ℕ = instance_count c.args.space.now (tree_of c.in-All.inner.value) in
    let n : ℕ = sort_count c.args.space.now c.in-All.sort in
    let cut : c.instance_count-block.result ≡ min p most = rw (← c.deref.ensures) c.instance_count-block.ensures in
    let within : c.args.to ≤ n * p = rw c.in-All.is at c.requires.within in
    let fits : c.args.to ≤ most = omega (arith, c.ranges.to.fits) in
    let count : c.sort_len-count.result ≡ n = rw (← c.size.ensures) c.sort_len-count.ensures in
    let start : c.saturating_mul-start.result ≡ min (c.loop-value.value * c.instance_count-block.result) most = rw (← c.from.ensures) c.saturating_mul-start.ensures in
    λ k low high. c.loop-value.invariant k low high (past_the_end p c.loop-value.value c.saturating_mul-start.result c.args.to c.instance_count-block.result k cut start c.if-start-to.true high)

pub returns-in-Some : goal.returns-in-Some
returns-in-Some g t c =
    let p : ℕ = instance_count c.args.space.now (tree_of c.in-All.inner.value) in
    let n : ℕ = sort_count c.args.space.now c.in-All.sort in
    let cut : c.instance_count-block.result ≡ min p most = rw (← c.deref.ensures) c.instance_count-block.ensures in
    let within : c.args.to ≤ n * p = rw c.in-All.is at c.requires.within in
    let fits : c.args.to ≤ most = omega (arith, c.ranges.to.fits) in
    let count : c.sort_len-count.result ≡ n = rw (← c.size.ensures) c.sort_len-count.ensures in
    let start : c.saturating_mul-start.result ≡ min (c.loop-value.value * c.instance_count-block.result) most = rw (← c.from.ensures) c.saturating_mul-start.ensures in
    let is : IsBlock n p c.loop-value.value c.saturating_mul-start.result = is_block n p c.loop-value.value c.saturating_mul-start.result c.args.to c.instance_count-block.result cut start c.if-start-to.false fits within in
    let before : AreTrueBefore c.args.space.now c.args.rule.now.table.now (All c.in-All.sort (tree_of c.in-All.inner.value)) c.args.env.now c.args.from c.args.to p c.loop-value.value = rw c.in-All.is at c.loop-value.invariant in
    rw c.in-All.is (found_in_block c.args.space.now c.args.rule.now.table.now c.in-All.sort (tree_of c.in-All.inner.value) c.args.env.now n c.args.from c.args.to c.loop-value.value c.saturating_mul-start.result c.instance_count-block.result c.in-Some.instance is cut before
    (rw (c.deref-in-loop-value.ensures, c.with-values.ensures, c.saturating_sub-low.ensures, c.min-high.ensures) at c.in-Some.ensures))

pub loop-value-preserved : goal.loop-value-preserved
loop-value-preserved g t c =
    let p : ℕ = instance_count c.args.space.now (tree_of c.in-All.inner.value) in
    let n : ℕ = sort_count c.args.space.now c.in-All.sort in
    let cut : c.instance_count-block.result ≡ min p most = rw (← c.deref.ensures) c.instance_count-block.ensures in
    let within : c.args.to ≤ n * p = rw c.in-All.is at c.requires.within in
    let fits : c.args.to ≤ most = omega (arith, c.ranges.to.fits) in
    let count : c.sort_len-count.result ≡ n = rw (← c.size.ensures) c.sort_len-count.ensures in
    let start : c.saturating_mul-start.result ≡ min (c.loop-value.value * c.instance_count-block.result) most = rw (← c.from.ensures) c.saturating_mul-start.ensures in
    let is : IsBlock n p c.loop-value.value c.saturating_mul-start.result = is_block n p c.loop-value.value c.saturating_mul-start.result c.args.to c.instance_count-block.result cut start c.if-start-to.false fits within in
    let before : AreTrueBefore c.args.space.now c.args.rule.now.table.now (All c.in-All.sort (tree_of c.in-All.inner.value)) c.args.env.now c.args.from c.args.to p c.loop-value.value = rw c.in-All.is at c.loop-value.invariant in
    rw c.in-All.is (walk_goes_on c.args.space.now c.args.rule.now.table.now c.in-All.sort (tree_of c.in-All.inner.value) c.args.env.now n c.args.from c.args.to c.loop-value.value c.saturating_mul-start.result c.instance_count-block.result is cut fits before
    (rw (c.deref-in-loop-value.ensures, c.with-values.ensures, c.saturating_sub-low.ensures, c.min-high.ensures) at c.in_default-first_false.ensures))

pub returns-after-loop-value : goal.returns-after-loop-value
returns-after-loop-value g t c =
    let p : ℕ = instance_count c.args.space.now (tree_of c.in-All.inner.value) in
    let n : ℕ = sort_count c.args.space.now c.in-All.sort in
    let cut : c.instance_count-block.result ≡ min p most = rw (← c.deref.ensures) c.instance_count-block.ensures in
    let within : c.args.to ≤ n * p = rw c.in-All.is at c.requires.within in
    let fits : c.args.to ≤ most = omega (arith, c.ranges.to.fits) in
    let count : c.sort_len-count.result ≡ n = rw (← c.size.ensures) c.sort_len-count.ensures in
    let past : n ≤ c.loop-value.value = omega (arith, count, c.loop-value-test.false) in
    λ k low high. c.loop-value.invariant k low high (let all = mul-le-mul_right p past in omega (arith, all))
