use Rattle.std.proofs.Common.{◌≡◌, refl, sym, ap, ◌∙◌, subst, ◌+◌, true, List, ◌++◌, [], ◌∷◌, drop, take}
use Rattle.vocab.specs.declared.literals.Literal.{Literal}
use Rattle.vocab.specs.Size.{Extent}
use Rattle.meaning.specs.declared.stories.StoryStep.{StoryStep}
use Rattle.meaning.specs.Literals.{is_literal}
use Rattle.meaning.specs.Stories.{are_forced}
use Rattle.premises.specs.SoFar.{bare_steps, unforced, IsToldSoFar}
use Rattle.premises.proofs.ToldLemmas.{told_none}
use Rattle.premises.proofs.StepLemmas.{NextForced, its_literal, next_forced, parts_of, unforced_more}
use Rattle.premises.proofs.teller.Teller.tell_steps.Goals as goal

pub loop-step-init : goal.loop-step-init
loop-step-init g c =
    let size = g.K.OutcomeKind.size c.args.self.now.grounds.setting.now.kind.now in
    let axioms = c.args.self.now.grounds.setting.now.study.now.axioms in
    let core = c.args.self.now.grounds.core.now in
    let earlier = c.args.self.now.grounds.lemmas.now in
    let forced = c.args.self.now.forced.now.literals in
    let suppose = c.args.lemma.now.suppose in
    record {
      known_size = refl;
      tried_size = refl;
      told = rw (c.requires.supposed, c.new.ensures, c.in_ok-with_room.ensures) (told_none size axioms core earlier forced suppose);
      so_far = ap bare_steps c.in_ok-with_room.ensures;
      others = rw (c.requires.supposed, c.as_slice-step-items.ensures) (parts_of size axioms core earlier c.args.lemma.now c.requires.lemma).follows;
    }

pub add-requires-clause-literal : goal.add-requires-clause-literal
add-requires-clause-literal g c =
    let size = g.K.OutcomeKind.size c.args.self.now.grounds.setting.now.kind.now in
    let lt = rw c.as_slice-step-items.ensures at c.loop-step-test.true in
    let is = rw c.as_slice-step-items.ensures at c.step-item.is in
    let fact = subst (λ (step : StoryStep). is_literal size step.literal ≡ true) (sym is) (its_literal size c.args.lemma.now c.loop-step.step-index c.step-item.result (parts_of size c.args.self.now.grounds.setting.now.study.now.axioms c.args.self.now.grounds.core.now c.args.self.now.grounds.lemmas.now c.args.lemma.now c.requires.lemma).literals lt) in
    subst (λ (e : Extent). is_literal e c.step-item.result.literal ≡ true) (sym (c.loop-step.invariant.known_size ∙ c.requires.known)) fact

pub take_step-requires-clause-refuted : goal.take_step-requires-clause-refuted
take_step-requires-clause-refuted g c = λ κs out.
    let size = g.K.OutcomeKind.size c.args.self.now.grounds.setting.now.kind.now in
    let steps = c.as_slice-step-items.result.now in
    let next = subst (λ (s : StoryStep). NextForced size c.args.self.now.grounds.setting.now.study.now.axioms c.args.self.now.grounds.core.now c.args.self.now.grounds.lemmas.now c.args.lemma.now.last c.loop-step.known.literals s (drop (c.loop-step.step-index + 1) steps)) (sym c.step-item.is)
    (next_forced size c.args.self.now.grounds.setting.now.study.now.axioms c.args.self.now.grounds.core.now c.args.self.now.grounds.lemmas.now c.args.lemma.now.last c.loop-step.known.literals steps c.loop-step.step-index c.step-item.result c.loop-step-test.true c.loop-step.invariant.others) in
    next.refuted

pub loop-step-preserved : goal.loop-step-preserved
loop-step-preserved g c =
    let size = g.K.OutcomeKind.size c.args.self.now.grounds.setting.now.kind.now in
    let axioms = c.args.self.now.grounds.setting.now.study.now.axioms in
    let core = c.args.self.now.grounds.core.now in
    let earlier = c.args.self.now.grounds.lemmas.now in
    let forced = c.args.self.now.forced.now.literals in
    let last = c.args.lemma.now.last in
    let suppose = c.args.lemma.now.suppose in
    let steps = c.as_slice-step-items.result.now in
    let known = c.loop-step.known.literals in
    let item = c.step-item.result in
    let next = subst (λ (s : StoryStep). NextForced size axioms core earlier last known s (drop (c.loop-step.step-index + 1) steps)) (sym c.step-item.is)
    (next_forced size axioms core earlier last known steps c.loop-step.step-index item c.loop-step-test.true c.loop-step.invariant.others) in
    let taken : IsToldSoFar size axioms core earlier forced suppose (known ++ item.literal ∷ []) c.take_step.new.passage = c.in_ok-take_step.ensures.told suppose c.loop-step.invariant.told in
    record {
      known_size = c.add.ensures.size ∙ c.loop-step.invariant.known_size;
      tried_size = c.in_ok-take_step.ensures.tried ∙ c.loop-step.invariant.tried_size;
      told = subst (λ (ls : List Literal). IsToldSoFar size axioms core earlier forced suppose ls c.take_step.new.passage) (sym c.add.ensures.literals) taken;
      so_far =
          c.in_ok-take_step.ensures.steps
          ∙ ap (λ (ss : List StoryStep). ss ++ unforced forced (item ∷ [])) c.loop-step.invariant.so_far
          ∙ ap (λ (s : StoryStep). unforced forced (take c.loop-step.step-index steps) ++ unforced forced (s ∷ [])) c.step-item.is
          ∙ sym (unforced_more forced steps c.loop-step.step-index item c.loop-step-test.true);
      others = subst (λ (ls : List Literal). are_forced size axioms core earlier last ls (drop (c.loop-step.step-index + 1) steps) ≡ true) (sym c.add.ensures.literals) next.others;
    }
