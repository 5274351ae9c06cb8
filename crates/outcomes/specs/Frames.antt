-- The frame of a profile as numbered clauses, and lists of clauses that grow by several at once.
use Rattle.std.specs.Prelude.{ℕ, ◌<◌, ◌+◌, ◌⊎◌, List, ◌++◌, map, length, sum_by}
use Rattle.vocab.specs.Size.{Extent}
use Rattle.cnf.specs.Sat.{Clause}
use Rattle.cnf.specs.ClauseList.{ClauseList}
use Rattle.meaning.specs.StudyClauses.{clauses_of, frame_of}

-- the numbered clauses of a profile's frame
abbrev pub frame_clauses : Extent → ℕ → List Clause
frame_clauses size p = clauses_of size (frame_of size size.kind p)

-- the list with clauses of one origin at its end
abbrev pub with_clauses : ClauseList → List Clause → ℕ → ClauseList
with_clauses list rows origin = record { clauses = list.clauses ++ rows; origins = list.origins ++ map (λ _. origin) rows }

-- with these clauses more the list would pass a limit
abbrev pub IsFullForAll : ClauseList → List Clause → Type 0
IsFullForAll list rows = (4000000 < length list.clauses + length rows) ⊎ (60000000 < sum_by length list.clauses + sum_by length rows)
