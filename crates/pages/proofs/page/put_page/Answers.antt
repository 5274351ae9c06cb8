use Rattle.pages.proofs.page.put_page.Goals as goal

pub returns : goal.returns
returns g c = rw c.args.setting.now.same (rw (c.in_ok-about.ensures, c.as_slice.ensures, c.axioms.ensures.axioms) at c.put_whole.ensures)
