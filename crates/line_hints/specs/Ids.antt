-- The clauses under ids.
use Rattle.std.specs.Prelude.{ℕ, zero, suc, List, [], map, slice_index_or}
use Rattle.cnf.specs.Sat.{Clause}
use Rattle.cnf.specs.Fresh.{added_by}
use Rattle.cnf.specs.declared.derivations.Line.{Line}

-- the clauses that lines add
abbrev pub all_added : List Line → List Clause
all_added lines = map (λ l. added_by l.step) lines

-- the clause under an id, where ids are 1, 2, 3 ..
abbrev pub clause_of_id : List Clause → ℕ → Clause
clause_of_id all zero = []
clause_of_id all (suc k) = slice_index_or all k []
