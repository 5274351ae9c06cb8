use Rattle.needed_facts.proofs.RestLemmas.{all_rest, are_found, there_rest}
use Rattle.needed_facts.proofs.facts.Facts.all_facts.Goals as goal

pub returns-in-Axiom-clause-rests : goal.returns-in-Axiom-clause-rests
returns-in-Axiom-clause-rests g c =
    all_rest (g.K.OutcomeKind.size c.args.self.now.grounds.now.setting.now.kind.now) c.args.self.now.grounds.now.setting.now.study.now.axioms c.args.self.now.grounds.now.core.now c.args.self.now.grounds.now.lemmas.now c.args.self.now.board.now.literals c.args.others.now c.args.reason.now c.all_of.result
    (rw c.as_slice.ensures.value at c.all_of.ensures) c.requires

pub returns-in-Outcome-clause-rests : goal.returns-in-Outcome-clause-rests
returns-in-Outcome-clause-rests g c =
    there_rest (g.K.OutcomeKind.size c.args.self.now.grounds.now.setting.now.kind.now) c.args.self.now.grounds.now.setting.now.study.now.axioms c.args.self.now.grounds.now.core.now c.args.self.now.grounds.now.lemmas.now c.args.self.now.board.now.literals c.args.others.now c.args.reason.now c.in-Outcome.p c.at_profile.result c.in-Outcome.is
    (rw c.as_slice-in-Outcome.ensures.value at c.at_profile.ensures) c.requires

pub returns-in-Outcome-clause-there : goal.returns-in-Outcome-clause-there
returns-in-Outcome-clause-there g c =
    are_found (g.K.OutcomeKind.size c.args.self.now.grounds.now.setting.now.kind.now) c.args.self.now.grounds.now.setting.now.study.now.axioms c.args.self.now.grounds.now.core.now c.args.self.now.grounds.now.lemmas.now c.args.self.now.board.now.literals c.args.reason.now c.in-Outcome.p c.at_profile.result c.in-Outcome.is
    (rw c.as_slice-in-Outcome.ensures.value at c.at_profile.ensures)

pub returns-in-Lemma-clause-rests : goal.returns-in-Lemma-clause-rests
returns-in-Lemma-clause-rests g c =
    all_rest (g.K.OutcomeKind.size c.args.self.now.grounds.now.setting.now.kind.now) c.args.self.now.grounds.now.setting.now.study.now.axioms c.args.self.now.grounds.now.core.now c.args.self.now.grounds.now.lemmas.now c.args.self.now.board.now.literals c.args.others.now c.args.reason.now c.all_of-in-Lemma.result
    (rw c.as_slice-in-Lemma.ensures.value at c.all_of-in-Lemma.ensures) c.requires
