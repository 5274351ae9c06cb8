use Rattle.std.proofs.Common.{◌≡◌, ◌∙◌, ◌<◌, ap, arith}
use Rattle.vocab.specs.declared.kinds.Sort.TheVariants.{Alt, Profile}
use Rattle.vocab.specs.Tree.{term_tree}
use Rattle.worlds.proofs.ConditionLemmas.{ranks_parts, ranks_taken}
use Rattle.worlds.proofs.atoms.eval_ranks.Goals as goal

pub value-above-requires : goal.value-above-requires
value-above-requires g c = (Alt, (ranks_parts c.args.space.now (term_tree c.args.x.now) (term_tree c.args.y.now) (term_tree c.args.p.now) c.args.env.now c.requires.fits).0)

pub value-below-requires : goal.value-below-requires
value-below-requires g c = (Alt, (ranks_parts c.args.space.now (term_tree c.args.x.now) (term_tree c.args.y.now) (term_tree c.args.p.now) c.args.env.now c.requires.fits).1)

pub value-profile-requires : goal.value-profile-requires
value-profile-requires g c = (Profile, (ranks_parts c.args.space.now (term_tree c.args.x.now) (term_tree c.args.y.now) (term_tree c.args.p.now) c.args.env.now c.requires.fits).2)

pub overflow_cast-above : goal.overflow_cast-above
overflow_cast-above g c =
    let below : c.value-above.result < c.args.space.now.alternatives = c.value-above.ensures.in_range Alt (ranks_parts c.args.space.now (term_tree c.args.x.now) (term_tree c.args.y.now) (term_tree c.args.p.now) c.args.env.now c.requires.fits).0 in
    let few : c.alternatives-few.result ≡ c.args.space.now.alternatives = c.alternatives-few.ensures ∙ ap (λ e. e.alternatives) c.size-size.ensures in
    omega (arith, c.alternatives-few.type_inv)

pub overflow_cast-below : goal.overflow_cast-below
overflow_cast-below g c =
    let below : c.value-below.result < c.args.space.now.alternatives = c.value-below.ensures.in_range Alt (ranks_parts c.args.space.now (term_tree c.args.x.now) (term_tree c.args.y.now) (term_tree c.args.p.now) c.args.env.now c.requires.fits).1 in
    let few : c.alternatives-few.result ≡ c.args.space.now.alternatives = c.alternatives-few.ensures ∙ ap (λ e. e.alternatives) c.size-size.ensures in
    omega (arith, c.alternatives-few.type_inv)

pub literal-requires : goal.literal-requires
literal-requires g c = c.requires.takes _ (ranks_taken c.args.space.now (term_tree c.args.x.now) (term_tree c.args.y.now) (term_tree c.args.p.now) c.args.env.now _ _ _ c.value-above.ensures.value c.value-below.ensures.value c.value-profile.ensures.value c.requires.fits c.if-above-below.false)
