-- What a solver keeps.
use Rattle.std.specs.Prelude.{◌≡◌, ℕ, ◌<◌, ◌^◌, Bool, List, length}
use Rattle.propagate.specs.TrailState.{TrailState, IsTrail}
use Rattle.cdcl.specs.Order.{OrderState, HasAll}
use Rattle.cdcl.specs.Search.{RestsBelow}

-- what contracts see: the trail, and the order of the variables
pub record SolverState : Type 0 where
  pub trail : TrailState
  pub order : OrderState

-- the parts agree: the levels below the current one are at rest, each variable without a value is in the order, and each variable has a mark
pub record IsSolver (t : TrailState) (o : OrderState) (seen : List Bool) (variables : ℕ) : Type 0 where
  pub form : IsTrail t
  pub rests : RestsBelow t
  pub all : HasAll t o variables
  pub marks : length seen ≡ variables
  pub over : t.variables ≡ variables
  pub few : variables < 2 ^ 31
