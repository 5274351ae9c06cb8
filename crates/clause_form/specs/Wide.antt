-- Counts that end at the largest number, and when they pass a limit.
use Rattle.std.specs.Prelude.{Bool, ◌||◌, nat_lt, min, List, map}
use Rattle.vocab.specs.Size.{Extent}
use Rattle.cnf.specs.Sat.{Clause}
use Rattle.meaning.specs.declared.clauses.Counts.{Counts}
use Rattle.meaning.specs.Clauses.{Disjunction}
use Rattle.meaning.specs.Measure.{counts_of, largest}
use Rattle.meaning.specs.Variables.{lit_of}

-- the counts of some disjunctions, which end at the largest number
abbrev pub capped_counts : List Disjunction → Counts
capped_counts rows = record { clauses = min (counts_of rows).clauses largest; literals = min (counts_of rows).literals largest }

-- more than 100,000 clauses, or more than 4,000,000 literals
abbrev pub is_wide : Counts → Bool
is_wide counts = nat_lt 100000 counts.clauses || nat_lt 4000000 counts.literals

-- the disjunctions with their literals numbered, in their order and repeats kept
abbrev pub numbered : Extent → List Disjunction → List Clause
numbered size rows = map (λ row. map (lit_of size) row) rows
