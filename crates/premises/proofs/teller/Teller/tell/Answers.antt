use Rattle.std.proofs.Common.{◌≡◌, subst, true, List, length, append-nil}
use Rattle.vocab.specs.declared.literals.Literal.{Literal}
use Rattle.meaning.specs.Stories.{refutes}
use Rattle.tellings.specs.Tellings.{stands_before}
use Rattle.needed_facts.proofs.RestLemmas.{all_among}
use Rattle.premises.proofs.ToldLemmas.{stand_of}
use Rattle.premises.proofs.teller.Teller.tell.Goals as goal

pub returns-clause-told : goal.returns-clause-told
returns-clause-told g c =
    let size = g.K.OutcomeKind.size c.args.self.now.grounds.setting.now.kind.now in
    let passage = c.in_ok-passage.passage in
    record {
      steps = c.in_ok-passage.ensures.steps;
      said = c.in_ok-passage.ensures.told.said;
      all_say = c.in_ok-passage.ensures.told.all_say;
      grounded = c.in_ok-passage.ensures.told.grounded;
      ended = subst (λ (ls : List Literal). refutes size c.args.self.now.grounds.setting.now.study.now.axioms c.args.self.now.grounds.core.now c.args.self.now.grounds.lemmas.now ls c.args.lemma.now.last ≡ true) (append-nil c.in_ok-end.end) c.in_ok-end.ensures.rests.refuted;
      end_there = stand_of c.args.lemma.now.last c.in_ok-end.end c.in_ok-end.ensures.there;
      end_stands =
          all_among (stands_before c.args.self.now.forced.now.literals c.args.lemma.now.suppose passage.steps (length passage.sentences)) c.tell_steps.new.known.literals c.in_ok-end.end
          c.in_ok-passage.ensures.told.stands c.in_ok-end.ensures.rests.kept;
    }
