use Rattle.premises.proofs.ToldLemmas.{told_more}
use Rattle.premises.proofs.telling.say.Goals as goal

pub returns-clause-told : goal.returns-clause-told
returns-clause-told c = λ size axioms core earlier forced suppose known so_far follows.
    told_more size axioms core earlier forced suppose known c.args.rests c.args.passage.now (record { sentences = c.join.new.sentences; steps = c.push.new.self }) c.args.step.now c.in_ok-sentence.sentence so_far
    follows.rest follows.there (rw c.by_of-by.ensures at c.in_ok-sentence.ensures) c.in_ok-push.ensures.ok
