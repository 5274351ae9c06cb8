use Rattle.propagate.proofs.ChainLemmas.{loose_or_not}
use Rattle.propagate.proofs.watchers.Watchers.first.Goals as goal

pub returns-clause-some : goal.returns-clause-some
returns-clause-some c = rw (← c.self.view_is) (loose_or_not _ _ _ _ c.self.invariant c.if-self.false)
