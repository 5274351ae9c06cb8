use Rattle.meaning.proofs.SpaceLaws.{cast_positive}
use Rattle.profiles.proofs.TableLemmas.{few_casts}
use Rattle.profiles.proofs.space.Space.cast_count.Goals as goal

pub returns-clause-some : goal.returns-clause-some
returns-clause-some c = rw c.self.invariant.each (cast_positive c.self.inside.size c.self.invariant.valid)

pub returns-clause-few : goal.returns-clause-few
returns-clause-few c = rw c.self.invariant.each (few_casts c.self.inside.size c.self.invariant.valid)
