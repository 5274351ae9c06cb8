-- Clauses joined with clauses.
use Rattle.std.specs.Prelude.{List, map, ◌++◌}
use Rattle.std.specs.List.{flat_map}
use Rattle.cnf.specs.Sat.{Clause}

-- the clauses, each with literals before its own
abbrev pub prefixed : Clause → List Clause → List Clause
prefixed first clauses = map (λ d. first ++ d) clauses

-- each clause of one list joined with each of another
abbrev pub each_joined : List Clause → List Clause → List Clause
each_joined xs ys = flat_map (λ c. prefixed c ys) xs
