use Rattle.std.proofs.Common.{◌≡◌, ◌++◌, subst}
use Rattle.vocab.specs.Size.{Extent}
use Rattle.pages.specs.Pages.{satisfied_html}
use Rattle.lists.proofs.JoinLaws.{joined_5}
use Rattle.pages.proofs.page.put_possible.Goals as goal

pub returns : goal.returns
returns g c =
    joined_5 _ _ _ _ _ _ _ _ _ _ _
    (subst (λ (s : Extent). c.put_satisfied.new.out ≡ c.args.out.now ++ satisfied_html s c.args.about.now.axioms.now) c.space.ensures c.in_ok-put_satisfied.ensures)
    c.in_ok-append.ensures.ok c.in_ok-put_name.ensures c.in_ok-append-2.ensures.ok c.in_ok-put_rule.ensures
