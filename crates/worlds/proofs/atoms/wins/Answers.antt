use Rattle.std.proofs.Common.{◌≡◌, ◌∙◌, ◌<◌, ap, arith}
use Rattle.vocab.specs.declared.kinds.Sort.TheVariants.{Alt, Profile}
use Rattle.vocab.specs.Tree.{term_tree}
use Rattle.worlds.proofs.ConditionLemmas.{wins_parts, wins_taken}
use Rattle.worlds.proofs.atoms.wins.Goals as goal

pub value-alternative-requires : goal.value-alternative-requires
value-alternative-requires c = (Alt, (wins_parts c.args.space.now (term_tree c.args.x.now) (term_tree c.args.p.now) c.args.env.now c.requires.fits).0)

pub value-profile-requires : goal.value-profile-requires
value-profile-requires c = (Profile, (wins_parts c.args.space.now (term_tree c.args.x.now) (term_tree c.args.p.now) c.args.env.now c.requires.fits).1)

pub overflow_cast-result : goal.overflow_cast-result
overflow_cast-result c =
    let below : c.value-alternative.result < c.args.space.now.alternatives = c.value-alternative.ensures.in_range Alt (wins_parts c.args.space.now (term_tree c.args.x.now) (term_tree c.args.p.now) c.args.env.now c.requires.fits).0 in
    let few : c.alternatives-few.result ≡ c.args.space.now.alternatives = c.alternatives-few.ensures ∙ ap (λ e. e.alternatives) c.size-size.ensures in
    omega (arith, c.alternatives-few.type_inv)

pub returns-clause-literal : goal.returns-clause-literal
returns-clause-literal c = wins_taken c.args.space.now (term_tree c.args.x.now) (term_tree c.args.p.now) c.args.env.now _ _ c.value-alternative.ensures.value c.value-profile.ensures.value c.requires.fits
