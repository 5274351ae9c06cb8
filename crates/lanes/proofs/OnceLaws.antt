-- What is said of a plan, or told of an instance, has one proof at most, so that it may stand in a type.
use Rattle.std.specs.Prelude.{ℕ, List, [], ◌∷◌}
use Rattle.std.proofs.Props.{props}
use Rattle.vocab.specs.Size.{Extent}
use Rattle.vocab.specs.Tree.{Tree, Leaf, Not, Both, Either, Implies, Same, All, Exists}
use Rattle.meaning.specs.declared.three.Three.{Three}
use Rattle.meaning.specs.contracts.three.Three as three
use Rattle.std.specs.Coded.{Coded-set}
use Rattle.lanes.specs.declared.plans.Part.{Part}
use Rattle.lanes.specs.declared.plans.Part.TheVariants.{Nothing, Known, One', Two'}
use Rattle.lanes.specs.declared.shapes.Shape.{Shape}
use Rattle.lanes.specs.declared.tables.Entry.{Entry}
use Rattle.lanes.specs.declared.tables.Table.{Table}
use Rattle.lanes.specs.declared.telling.Plan.{Plan}
use Rattle.lanes.specs.Lanes.{AreEntries, HasKnownPremise, IsPart, IsPlan, IsTable}

pub three-set : IsSet Three
three-set = Coded-set three.the_row.coded

module _ (size : Extent) where
  entries-once : (shape : Shape) (f : Tree) (es : List Entry) → IsProp (AreEntries size shape f es)
  entries-once shape f [] = hlevel props
  entries-once shape f (e ∷ es) = hlevel (entries-once shape f es, three-set, props)

  table-once : (shape : Shape) (f : Tree) (t : Table) → IsProp (IsTable size shape f t)
  table-once shape f t = hlevel (entries-once, props)

  part-once : (shape : Shape) (p : Part) (f : Tree) → IsProp (IsPart size shape p f)
  part-once shape Nothing f = hlevel props
  part-once shape (Known t) f = table-once shape f t
  part-once shape (One' _ p) (Not f) = part-once shape p f
  part-once shape (One' _ p) (All s f) = part-once shape p f
  part-once shape (One' _ p) (Exists s f) = part-once shape p f
  part-once shape (Two' _ p _ q) (Both f g) = hlevel (part-once shape p f, part-once shape q g)
  part-once shape (Two' _ p _ q) (Either f g) = hlevel (part-once shape p f, part-once shape q g)
  part-once shape (Two' _ p _ q) (Implies f g) = hlevel (part-once shape p f, part-once shape q g)
  part-once shape (Two' _ p _ q) (Same f g) = hlevel (part-once shape p f, part-once shape q g)
  part-once shape (Two' _ p _ q) (Leaf a) = λ h. absurd h
  part-once shape (Two' _ p _ q) (Not f) = λ h. absurd h
  part-once shape (Two' _ p _ q) (All s f) = λ h. absurd h
  part-once shape (Two' _ p _ q) (Exists s f) = λ h. absurd h
  part-once shape (One' _ p) x = λ h. absurd h

  pub plan-once : (sentence : Tree) (plan : Plan) → IsProp (IsPlan size sentence plan)
  plan-once sentence plan = hlevel (part-once, props)

  pub premise-once : (f : Tree) (env : List ℕ) → IsProp (HasKnownPremise size f env)
  premise-once (Implies f g) env = three-set _ _
  premise-once p env = λ h. absurd h

-- for a field of a type that says so: `by { Prim.hlevel once }`
pub ruleset once = (plan-once, premise-once, three-set, props)
