use Rattle.std.proofs.Common.{◌≡◌, ◌++◌}
use Rattle.std.specs.List.{flat_map}
use Rattle.vocab.specs.declared.literals.Literal.TheVariants.{Above}
use Rattle.vocab.specs.Range.{below}
use Rattle.story_pages.proofs.claims.put_above.Given as goal

-- what came so far was added
abbrev pub invariant-loop-y : goal.invariant-loop-y
invariant-loop-y g l = l.out ≡ l.initial.out ++ flat_map (λ y. g.P.Phrases.phrase l.phrases (Above l.x y 0)) (below l.y)
