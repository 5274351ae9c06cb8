use Rattle.std.proofs.Common.{◌≡◌, ◌++◌, List, subst}
use Rattle.vocab.specs.Size.{Extent}
use Rattle.meaning.specs.declared.cores.Witness.{Witness}
use Rattle.sharp_verdicts.specs.declared.instances.Cited.{Cited}
use Rattle.pages.specs.Pages.{front_html, proved_html}
use Rattle.sharp_pages.specs.SharpPages.{instances_html}
use Rattle.lists.proofs.JoinLaws.{joined_5}
use Rattle.sharp_pages.proofs.page.put_whole.Goals as goal

pub returns : goal.returns
returns g c =
    let axioms = c.args.about.now.axioms.now in
    let sharp = c.args.sharp.now in
    let said : List Cited → List Witness → Type 0 =
    λ instances marks. c.put_instances.new.out ≡ c.put_proved.new.out ++ instances_html axioms instances marks in
    joined_5 _ _ _ _ _ _ _ _ _ _ _
    (subst (λ (s : Extent). c.put_front.new.out ≡ c.args.out.now ++ front_html s axioms c.args.claim.now) c.space.ensures c.in_ok-put_front.ensures)
    (subst (λ (s : Extent). c.put_proved.new.out ≡ c.put_front.new.out ++ proved_html s axioms sharp.core.now sharp.story.now c.args.told.now) c.space-2.ensures
    (rw (c.as_slice.ensures, c.as_slice-2.ensures) at c.in_ok-put_proved.ensures))
    (subst (λ (marks : List Witness). said sharp.instances.now marks) c.as_slice-4.ensures
    (subst (λ (instances : List Cited). said instances c.as_slice-4.result.now) c.as_slice-3.ensures c.in_ok-put_instances.ensures))
    c.in_ok-put_check.ensures c.in_ok-append.ensures.ok
