use Rattle.std.proofs.Common.{◌≡◌, ◌++◌, subst}
use Rattle.vocab.specs.Size.{Extent}
use Rattle.pages.specs.Pages.{proved_html}
use Rattle.lists.proofs.JoinLaws.{joined_2}
use Rattle.pages.proofs.page.put_impossible.Goals as goal

pub returns : goal.returns
returns g c =
    joined_2 _ _ _ _ _
    (subst (λ (s : Extent). c.put_proved.new.out ≡ c.args.out.now ++ proved_html s c.args.about.now.axioms.now c.args.core.now c.args.story.now c.args.told.now) c.space.ensures c.in_ok-put_proved.ensures)
    c.in_ok-put_witnesses.ensures
