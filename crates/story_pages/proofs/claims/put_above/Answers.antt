use Rattle.vocab.specs.declared.literals.Literal.TheVariants.{Above}
use Rattle.vocab.proofs.Ranges.{goes_on}
use Rattle.story_pages.proofs.claims.put_above.Goals as goal

pub loop-y-preserved : goal.loop-y-preserved
loop-y-preserved g c = goes_on (λ y. g.P.Phrases.phrase c.args.phrases.now (Above c.args.x y 0)) _ _ _ _ c.loop-y.invariant c.in_ok-put_phrase.ensures
