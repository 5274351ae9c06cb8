use Rattle.std.proofs.Common.{rules, arith, refl, ◌++◌, ◌∷◌, []}
use Rattle.vocab.specs.Size.{sort_count}
use Rattle.vocab.specs.Tree.{tree_of}
use Rattle.meaning.specs.Written.{write_out}
use Rattle.worlds.proofs.ChainLemmas.{all_decided, all_end, all_grows, some_decided, some_end, some_grows}
use Rattle.clause_form.specs.Signed.{IsSide}
use Rattle.clause_form.proofs.SoundLaws.{sound_here}
use Rattle.clause_form.proofs.signed.+side.Goals as goal

pub all_side-returns-then-is_known : goal.all_side-returns-then-is_known
all_side-returns-then-is_known g t c =
    let size = g.K.OutcomeKind.size c.args.kind.now in
    (
    all_decided (IsSide size c.args.positive c.loop-v.value) (λ v. write_out size (tree_of c.args.inner.now) (c.args.env.now ++ v ∷ []))
    (λ x y h. (c.is_known.ensures.no c.if-is_known.true refl size c.args.positive x y h).1)
    c.loop-v.v c.last_value-last.result (sort_count size c.args.sort) c.loop-v.invariant.below c.last_value-last.ensures c.loop-v.invariant.chained)

pub all_side-loop-v-preserved : goal.all_side-loop-v-preserved
all_side-loop-v-preserved g t c =
    let size = g.K.OutcomeKind.size c.args.kind.now in
    record {
      below = omega arith;
      chained = all_grows (IsSide size c.args.positive c.in_ok-value-2.value) _ c.loop-v.v _ (omega arith) (omega arith) (search rules);
    }

pub all_side-returns : goal.all_side-returns
all_side-returns g t c =
    let size = g.K.OutcomeKind.size c.args.kind.now in
    (
    all_end (IsSide size c.args.positive c.loop-v.value) (λ v. write_out size (tree_of c.args.inner.now) (c.args.env.now ++ v ∷ []))
    c.loop-v.v c.last_value-last.result (sort_count size c.args.sort) c.loop-v-test.false c.last_value-last.ensures c.loop-v.invariant.chained)

pub exists_side-returns-then-is_known : goal.exists_side-returns-then-is_known
exists_side-returns-then-is_known g t c =
    let size = g.K.OutcomeKind.size c.args.kind.now in
    (
    some_decided (IsSide size c.args.positive c.loop-v.value) (λ v. write_out size (tree_of c.args.inner.now) (c.args.env.now ++ v ∷ []))
    (λ x y h. (c.is_known.ensures.yes c.if-is_known.true refl size c.args.positive x y h).1)
    c.loop-v.v c.last_value-last.result (sort_count size c.args.sort) c.loop-v.invariant.below c.last_value-last.ensures c.loop-v.invariant.chained)

pub exists_side-loop-v-preserved : goal.exists_side-loop-v-preserved
exists_side-loop-v-preserved g t c =
    let size = g.K.OutcomeKind.size c.args.kind.now in
    record {
      below = omega arith;
      chained = some_grows (IsSide size c.args.positive c.in_ok-value-2.value) _ c.loop-v.v _ (omega arith) (omega arith) (search rules);
    }

pub exists_side-returns : goal.exists_side-returns
exists_side-returns g t c =
    let size = g.K.OutcomeKind.size c.args.kind.now in
    (
    some_end (IsSide size c.args.positive c.loop-v.value) (λ v. write_out size (tree_of c.args.inner.now) (c.args.env.now ++ v ∷ []))
    c.loop-v.v c.last_value-last.result (sort_count size c.args.sort) c.loop-v-test.false c.last_value-last.ensures c.loop-v.invariant.chained)

pub side_of-plain_truth-requires-clause-fits : goal.side_of-plain_truth-requires-clause-fits
side_of-plain_truth-requires-clause-fits g t c = λ κs out. sound_here (g.K.OutcomeKind.size c.args.kind.now) (tree_of c.args.formula.now) c.args.env.now c.requires.sound

pub side_of-atom_side-requires-clause-fits : goal.side_of-atom_side-requires-clause-fits
side_of-atom_side-requires-clause-fits g t c = λ κs out. sound_here (g.K.OutcomeKind.size c.args.kind.now) (tree_of c.args.formula.now) c.args.env.now c.requires.sound
