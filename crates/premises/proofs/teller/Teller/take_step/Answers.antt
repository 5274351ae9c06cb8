use Rattle.premises.proofs.teller.Teller.take_step.Goals as goal

pub returns-clause-told : goal.returns-clause-told
returns-clause-told g c = λ suppose so_far.
    c.say.ensures.told (g.K.OutcomeKind.size c.args.self.now.grounds.setting.now.kind.now) c.args.self.now.grounds.setting.now.study.now.axioms c.args.self.now.grounds.core.now c.args.self.now.grounds.lemmas.now c.args.self.now.forced.now.literals suppose c.args.known.now.literals so_far
    (record { rest = rw c.opposite.ensures at c.in_ok-rests.ensures.rests; there = c.in_ok-rests.ensures.there })
