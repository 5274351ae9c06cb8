use Rattle.std.proofs.Common.{rules, ◌<◌, arith}
use Rattle.vocab.specs.declared.kinds.Sort.TheVariants.{Profile}
use Rattle.vocab.specs.Size.{sort_count}
use Rattle.grounding.proofs.FrameLemmas.{frames-more}
use Rattle.grounding.proofs.making.frames_of.Goals as goal

pub loop-p-preserved : goal.loop-p-preserved
loop-p-preserved g c =
    let size = g.K.OutcomeKind.size c.args.kind.now in
    let here : c.loop-p.p < sort_count size Profile = search rules in
    let few = c.kinds_have_sizes.ensures.few_profiles in
    frames-more size c.frames_are_small.ensures c.loop-p.p (omega (arith, here, few)) c.loop-p.out c.frame.new.out c.in-Ok.ensures.ok c.loop-p.invariant
