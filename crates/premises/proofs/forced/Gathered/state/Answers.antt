use Rattle.std.proofs.Common.{[]}
use Rattle.premises.proofs.ForcedLemmas.{gathered_more}
use Rattle.premises.proofs.forced.Gathered.state.Goals as goal

pub returns-clause-so_far : goal.returns-clause-so_far
returns-clause-so_far c = λ size axioms core earlier so_far follows.
    gathered_more size axioms core earlier c.args.self.now (record { board = c.add.new.self; passage = c.say.new.passage; chains = c.say.new.chains }) c.args.step.now so_far
    (c.in_ok-say.ensures.told size axioms core earlier [] [] c.args.self.now.board.literals so_far.told follows) c.in_ok-say.ensures.steps c.add.ensures.size c.add.ensures.literals
