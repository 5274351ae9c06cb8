use Rattle.std.proofs.Common.{◌≡◌, sym, subst, ℕ, true, List}
use Rattle.story.specs.Conditions.{has_places}
use Rattle.sharp_pages.proofs.PlaceLemmas.{core_is_there}
use Rattle.sharp_pages.proofs.page.sharp_page_text.Goals as goal

pub invariant_of-accepted : goal.invariant_of-accepted
invariant_of-accepted g c =
    let study = c.args.setting.now.study.now in
    record {
      places = subst (λ (core : List ℕ). has_places study.axioms core ≡ true) (sym c.requires.right.core) (core_is_there study c.args.story.now);
      accepted = rw (← c.args.setting.now.same) c.requires.right.accepted;
    }

pub returns : goal.returns
returns g c = record {
  telling = c.in_ok-told.told;
  told = rw c.args.setting.now.same c.in_ok-told.ensures;
  is = rw c.new-page.ensures at c.in_ok-put_page.ensures;
}
