use Rattle.worlds.proofs.ConditionLemmas.{evaluable_sentence}
use Rattle.worlds.proofs.WalkLemmas.{of_sentence}
use Rattle.worlds.proofs.failures.first_failure.Goals as goal

pub first_false-requires-clause-fits : goal.first_false-requires-clause-fits
first_false-requires-clause-fits g c κs within = rw (c.sentence.ensures, c.none.ensures, c.space.ensures) (evaluable_sentence (g.K.OutcomeKind.size c.args.kind.now) c.args.named.now c.requires.sentence)

pub returns : goal.returns
returns g c = of_sentence (g.K.OutcomeKind.size c.args.kind.now) c.args.table.now c.args.named.now.sentence c.args.from c.args.to c.first_false.result (rw (c.sentence.ensures, c.none.ensures, c.space.ensures) at c.first_false.ensures)
