use Rattle.std.proofs.Common.{◌≡◌, ◌++◌, subst}
use Rattle.vocab.specs.Size.{Extent}
use Rattle.pages.specs.Pages.{front_html}
use Rattle.lists.proofs.JoinLaws.{joined_4}
use Rattle.pages.proofs.page.put_whole.Goals as goal

pub returns : goal.returns
returns g c =
    joined_4 _ _ _ _ _ _ _ _ _
    (subst (λ (s : Extent). c.put_front.new.out ≡ c.args.out.now ++ front_html s c.args.about.now.axioms.now c.args.verdict.now) c.space.ensures c.in_ok-put_front.ensures)
    c.in_ok-put_verdict.ensures c.in_ok-put_check.ensures c.in_ok-append.ensures.ok
