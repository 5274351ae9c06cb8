use Rattle.std.proofs.Common.{◌-◌, ◌++◌, ◌∷◌, [], ℕ, arith}
use Rattle.vocab.specs.Size.{sort_count}
use Rattle.vocab.specs.Tree.{tree_of}
use Rattle.meaning.specs.Written.{Written, write_out}
use Rattle.worlds.proofs.ChainLemmas.{all_from, all_grows, all_end, some_from, some_grows, some_end}
use Rattle.lanes.specs.Lanes.{lane_values}
use Rattle.lanes.specs.Marks.{IsTold}
use Rattle.lanes.proofs.LaneLaws.{told_more}
use Rattle.lanes.proofs.plans.+marks.Goals as goal

pub all_marks-loop-v-preserved : goal.all_marks-loop-v-preserved
all_marks-loop-v-preserved t c =
    let size = c.args.space.now in
    let f = tree_of c.in-All.f.value in
    let env = c.args.env.now in
    let last = c.last_of-last.result in
    let v = c.loop-v.v in
    record {
      below = omega (arith, c.loop-v.invariant.below);
      chained = λ shape part long k l.
          let parts : ℕ → Written = λ v. write_out size f (lane_values shape c.args.first k env ++ v ∷ []) in
          let told = told_more size shape f c.args.first (v - 1) env c.with-in-loop-v.result c.marks_of.result c.with-in-loop-v.ensures long k c.in-One.p.value (rw (c.deref-in-loop-v.ensures, c.deref-in-loop-v-2.ensures) at (c.marks_of.ensures shape)) part l in
          all_grows (IsTold c.conjunction-value.result k) parts v last (omega (arith, c.loop-v-test.true)) c.loop-v.invariant.below
          (c.conjunction-value.ensures k (parts (v - 1)) (all_from parts v (last - v)) told (c.loop-v.invariant.chained shape part long k l));
    }

pub all_marks-returns-after-loop-v : goal.all_marks-returns-after-loop-v
all_marks-returns-after-loop-v t c = λ shape.
    let size = c.args.space.now in
    let f = tree_of c.in-All.f.value in
    let env = c.args.env.now in
    rw (c.in-All.is, c.in-One.is) (λ part long k l.
    all_end (IsTold c.loop-v.value k) (λ v. write_out size f (lane_values shape c.args.first k env ++ v ∷ [])) c.loop-v.v c.last_of-last.result (sort_count size c.in-All.sort)
    (omega (arith, c.loop-v-test.false)) (rw c.size.ensures at c.last_of-last.ensures) (c.loop-v.invariant.chained shape part long k l))

pub some_marks-loop-v-preserved : goal.some_marks-loop-v-preserved
some_marks-loop-v-preserved t c =
    let size = c.args.space.now in
    let f = tree_of c.in-Exists.f.value in
    let env = c.args.env.now in
    let last = c.last_of-last.result in
    let v = c.loop-v.v in
    record {
      below = omega (arith, c.loop-v.invariant.below);
      chained = λ shape part long k l.
          let parts : ℕ → Written = λ v. write_out size f (lane_values shape c.args.first k env ++ v ∷ []) in
          let told = told_more size shape f c.args.first (v - 1) env c.with-in-loop-v.result c.marks_of.result c.with-in-loop-v.ensures long k c.in-One.p.value (rw (c.deref-in-loop-v.ensures, c.deref-in-loop-v-2.ensures) at (c.marks_of.ensures shape)) part l in
          some_grows (IsTold c.disjunction-value.result k) parts v last (omega (arith, c.loop-v-test.true)) c.loop-v.invariant.below
          (c.disjunction-value.ensures k (parts (v - 1)) (some_from parts v (last - v)) told (c.loop-v.invariant.chained shape part long k l));
    }

pub some_marks-returns-after-loop-v : goal.some_marks-returns-after-loop-v
some_marks-returns-after-loop-v t c = λ shape.
    let size = c.args.space.now in
    let f = tree_of c.in-Exists.f.value in
    let env = c.args.env.now in
    rw (c.in-Exists.is, c.in-One.is) (λ part long k l.
    some_end (IsTold c.loop-v.value k) (λ v. write_out size f (lane_values shape c.args.first k env ++ v ∷ [])) c.loop-v.v c.last_of-last.result (sort_count size c.in-Exists.sort)
    (omega (arith, c.loop-v-test.false)) (rw c.size.ensures at c.last_of-last.ensures) (c.loop-v.invariant.chained shape part long k l))
