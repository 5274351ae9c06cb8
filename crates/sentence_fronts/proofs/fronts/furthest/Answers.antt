use Rattle.std.proofs.Common.{refl, sym, subst}
use Rattle.sentence_fronts.specs.Expected.{Expects}
use Rattle.sentence_fronts.proofs.Walking.{furthest_place}
use Rattle.sentence_fronts.proofs.fronts.furthest.Goals as goal

pub returns : goal.returns
returns c =
    furthest_place _ _ c.walk.new.stack.items _ _ c.in_ok-rest.ensures.walks c.in_ok-rest.ensures.stops
    (λ before x. c.in_ok-next.ensures before (subst (λ s. Expects before s) (sym c.as_slice.ensures.value) x)) refl
