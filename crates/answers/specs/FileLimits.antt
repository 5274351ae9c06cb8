-- Files with their limits.
use Rattle.std.specs.Prelude.{◌≡◌, ℕ, ◌<◌, ◌≤◌, List, length, Some}
use Rattle.edge.specs.Shelf.{Files}

-- the most bytes of a study
abbrev pub most_study_bytes : ℕ
most_study_bytes = 1048576

-- the most bytes of a report
abbrev pub most_report_bytes : ℕ
most_report_bytes = 268435456

-- the most bytes of a text of clauses
abbrev pub most_cnf_bytes : ℕ
most_cnf_bytes = 536870912

-- the most bytes of a proof
abbrev pub most_proof_bytes : ℕ
most_proof_bytes = 536870912

-- the file of this name holds these bytes, and they are not too many
pub record HasFile (files : Files) (limit : ℕ) (name bytes : List ℕ) : Type 0 where
  pub held : files name ≡ Some bytes
  pub fits : length bytes ≤ limit

-- the file of this name holds too many bytes
pub record HoldsTooMany (files : Files) (limit : ℕ) (name : List ℕ) : Type 0 where
  pub bytes : List ℕ
  pub held : files name ≡ Some bytes
  pub long : limit < length bytes
