use Rattle.std.proofs.Common.{refl, ap, ◌∙◌, subst, List, []}
use Rattle.vocab.specs.declared.literals.Literal.{Literal}
use Rattle.premises.specs.SoFar.{bare_steps, unforced, Upholds}
use Rattle.premises.proofs.ForcedLemmas.{stated_shortly}
use Rattle.premises.proofs.teller.Teller.shorten_forced.Goals as goal

pub returns-then-upholds-clause-stated : goal.returns-then-upholds-clause-stated
returns-then-upholds-clause-stated g c =
    let size = g.K.OutcomeKind.size c.args.self.now.grounds.setting.now.kind.now in
    let axioms = c.args.self.now.grounds.setting.now.study.now.axioms in
    let core = c.args.self.now.grounds.core.now in
    let earlier = c.args.self.now.grounds.lemmas.now in
    let passage = c.in_ok-passage.passage in
    let slice = c.as_slice-3.result.now in
    stated_shortly size axioms core earlier c.args.gathered (record { board = c.args.gathered.board; passage = passage }) c.requires.gathered c.as_slice-facts.ensures.ours c.as_slice-facts.ensures.distinct refl
    (c.in_ok-passage.ensures
    ∙ ap (λ (ls : List Literal). unforced ls slice) c.requires.none
    ∙ ap (unforced []) (c.as_slice-3.ensures ∙ c.in_ok-steps.ensures ∙ ap bare_steps c.as_slice.ensures))
    (c.in_ok-all_say.ensures c.if-not-branch.false)
    (subst (λ (ls : List Literal). Upholds size axioms core earlier ls ls [] passage) c.requires.none (c.upholds.ensures.upholds c.if-upholds.true))
