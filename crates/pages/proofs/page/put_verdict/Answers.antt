use Rattle.std.proofs.Common.{◌≡◌, ◌++◌, ℕ, List, subst}
use Rattle.std.specs.Prelude.{OnOk}
use Rattle.meaning.specs.declared.cores.Witness.{Witness}
use Rattle.meaning.specs.declared.stories.Lemma.{Lemma}
use Rattle.pages.specs.Pages.{impossible_html}
use Rattle.pages.proofs.page.put_verdict.Goals as goal

pub returns-in-Impossible : goal.returns-in-Impossible
returns-in-Impossible g c =
    let size = g.K.OutcomeKind.size c.args.kind.now in
    let said : List ℕ → List Lemma → List Witness → Type 0 =
    λ core story witnesses. OnOk c.put_impossible.result (c.put_impossible.new.out ≡ c.args.out.now ++ impossible_html size c.args.about.now.axioms.now core story witnesses c.args.told.now) in
    rw c.in-Impossible.is
    (subst (λ (core : List ℕ). said core c.in-Impossible.story c.in-Impossible.witnesses) c.as_slice.ensures
    (subst (λ (story : List Lemma). said c.as_slice.result.now story c.in-Impossible.witnesses) c.as_slice-in-Impossible.ensures
    (subst (λ (witnesses : List Witness). said c.as_slice.result.now c.as_slice-in-Impossible.result.now witnesses) c.as_slice-in-Impossible-2.ensures
    c.put_impossible.ensures)))

pub returns-in-Undecided : goal.returns-in-Undecided
returns-in-Undecided g c = rw c.in-Undecided.is c.append.ensures.ok
