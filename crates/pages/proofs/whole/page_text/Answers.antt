use Rattle.pages.proofs.whole.page_text.Goals as goal

pub returns : goal.returns
returns g c = record {
  telling = c.in_ok-told.told;
  told = c.in_ok-told.ensures;
  is = rw c.new-page.ensures at c.in_ok-put_page.ensures;
}
