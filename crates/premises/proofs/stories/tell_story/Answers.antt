use Rattle.std.proofs.Common.{sym, ◌∙◌, subst, List}
use Rattle.std.specs.Prelude.{take}
use Rattle.vocab.specs.declared.literals.Literal.{Literal}
use Rattle.tellings.specs.Tellings.{IsTellingRight}
use Rattle.premises.proofs.stories.tell_story.Goals as goal

pub returns : goal.returns
returns g c =
    let accepted = c.args.accepted.now in
    let size = g.K.OutcomeKind.size accepted.setting.now.kind.now in
    let axioms = accepted.setting.now.study.now.axioms in
    let given = c.in_ok-forced.ensures in
    record {
      forced = given.told;
      whole = given.facts ∙ given.whole;
      all = c.in_ok-lemmas.ensures.all;
      each = λ j lemma telling at there.
          subst (λ (ls : List Literal). IsTellingRight size axioms accepted.core.now (take j accepted.story.now) ls lemma telling) (sym given.facts) (c.in_ok-lemmas.ensures.each j lemma telling at there);
      placed = rw (c.as_slice.ensures, c.as_slice-2.ensures) at c.in_ok-homes.ensures;
    }
