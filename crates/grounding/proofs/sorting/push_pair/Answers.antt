use Rattle.std.proofs.Common.{◌∷◌, []}
use Rattle.cnf.specs.Sat.{opposite_lit}
use Rattle.grounding.proofs.PartLaws.{two-rows}
use Rattle.grounding.proofs.sorting.push_pair.Goals as goal

pub returns : goal.returns
returns c =
    two-rows c.args.out.now c.push_two.new.out c.push_two-2.new.out c.args.origin (opposite_lit c.args.first ∷ c.args.second ∷ []) (c.args.first ∷ opposite_lit c.args.second ∷ [])
    (rw c.opposite.ensures at c.in_ok-push_two.ensures) (rw c.opposite-2.ensures at c.in_ok-push_two-2.ensures)
