-- How many clauses a formula has at most.
use Rattle.std.specs.Prelude.{◌≡◌, ◌≤◌, Bool, List, [], ◌∷◌}
use Rattle.meaning.specs.declared.clauses.Counts.{Counts}
use Rattle.meaning.specs.Clauses.{Disjunction, known_truth, minus, plus}
use Rattle.meaning.specs.Kleene.{three_of}
use Rattle.meaning.specs.Written.{Written}
use Rattle.clause_form.specs.Wide.{capped_counts}
use Rattle.clause_form.specs.declared.bounds.Bound.{Bound}
use Rattle.clause_form.specs.declared.bounds.Bound.TheVariants.{Known, Open}

-- both counts are at most those of the other
pub record IsWithin (a b : Counts) : Type 0 where
  pub clauses : a.clauses ≤ b.clauses
  pub literals : a.literals ≤ b.literals

-- the counts of some disjunctions, which end at the largest number, are at most these, which have room for the empty clause
pub record AreWithin (rows : List Disjunction) (most : Counts) : Type 0 where
  pub some : 1 ≤ most.clauses
  pub within : IsWithin (capped_counts rows) most

-- something is known of the formula; or it has at most so many plus and minus clauses
abbrev pub IsBound : Bound → Written → Type 0
IsBound Known w = (t : Bool) × (known_truth w ≡ three_of t)
IsBound (Open p m) w = AreWithin (plus w) p × AreWithin (minus w) m

-- each of some formulas has this bound
abbrev pub AreBounded : Bound → List Written → Type 0
AreBounded b [] = Unit {0}
AreBounded b (w ∷ ws) = IsBound b w × AreBounded b ws
