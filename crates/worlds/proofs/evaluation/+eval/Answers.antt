use Rattle.std.proofs.Common.{rules, arith, ◌++◌, ◌∷◌, [], refl}
use Rattle.vocab.specs.Size.{sort_count}
use Rattle.vocab.specs.Tree.{tree_of}
use Rattle.meaning.specs.Written.{write_out}
use Rattle.worlds.proofs.ChainLemmas.{all_grows, all_end, all_decided, some_grows, some_end, some_decided}
use Rattle.worlds.proofs.evaluation.+eval.Goals as goal

pub eval_all-returns-then-is_known : goal.eval_all-returns-then-is_known
eval_all-returns-then-is_known g t c =
    let kept = c.loop-v.invariant.same in
    record {
      ok = all_decided (g.A.Algebra.stands c.args.algebra.now c.loop-v.value) (λ v. write_out c.args.space.now (tree_of c.args.inner.now) (c.args.env.now ++ v ∷ []))
          (λ x y h. kept.back c.loop-v.value _ ((c.is_known.ensures.no c.if-is_known.true refl x y (kept.onward c.loop-v.value x h)).1))
          c.loop-v.v c.last_value-last.result (sort_count c.args.space.now c.args.sort) c.loop-v.invariant.below c.last_value-last.ensures c.loop-v.invariant.chained;
      err = search rules;
      same = kept;
    }

pub eval_all-loop-v-preserved : goal.eval_all-loop-v-preserved
eval_all-loop-v-preserved g t c = record {
  below = omega arith;
  chained = all_grows (g.A.Algebra.stands c.args.algebra.now c.in_ok-value-2.value) _ c.loop-v.v _ (omega arith) (omega arith) (search rules);
  same = search rules;
}

pub eval_all-returns : goal.eval_all-returns
eval_all-returns g t c = record {
  ok = all_end (g.A.Algebra.stands c.args.algebra.now c.loop-v.value) (λ v. write_out c.args.space.now (tree_of c.args.inner.now) (c.args.env.now ++ v ∷ []))
      c.loop-v.v c.last_value-last.result (sort_count c.args.space.now c.args.sort) c.loop-v-test.false c.last_value-last.ensures c.loop-v.invariant.chained;
  err = search rules;
  same = c.loop-v.invariant.same;
}

pub eval_exists-returns-then-is_known : goal.eval_exists-returns-then-is_known
eval_exists-returns-then-is_known g t c =
    let kept = c.loop-v.invariant.same in
    record {
      ok = some_decided (g.A.Algebra.stands c.args.algebra.now c.loop-v.value) (λ v. write_out c.args.space.now (tree_of c.args.inner.now) (c.args.env.now ++ v ∷ []))
          (λ x y h. kept.back c.loop-v.value _ ((c.is_known.ensures.yes c.if-is_known.true refl x y (kept.onward c.loop-v.value x h)).1))
          c.loop-v.v c.last_value-last.result (sort_count c.args.space.now c.args.sort) c.loop-v.invariant.below c.last_value-last.ensures c.loop-v.invariant.chained;
      err = search rules;
      same = kept;
    }

pub eval_exists-loop-v-preserved : goal.eval_exists-loop-v-preserved
eval_exists-loop-v-preserved g t c = record {
  below = omega arith;
  chained = some_grows (g.A.Algebra.stands c.args.algebra.now c.in_ok-value-2.value) _ c.loop-v.v _ (omega arith) (omega arith) (search rules);
  same = search rules;
}

pub eval_exists-returns : goal.eval_exists-returns
eval_exists-returns g t c = record {
  ok = some_end (g.A.Algebra.stands c.args.algebra.now c.loop-v.value) (λ v. write_out c.args.space.now (tree_of c.args.inner.now) (c.args.env.now ++ v ∷ []))
      c.loop-v.v c.last_value-last.result (sort_count c.args.space.now c.args.sort) c.loop-v-test.false c.last_value-last.ensures c.loop-v.invariant.chained;
  err = search rules;
  same = c.loop-v.invariant.same;
}
