-- The clauses of some instances, of which some that repeat an earlier one are left out.
use Rattle.std.specs.Prelude.{◌≡◌, ℕ, ◌<◌, IsTrue, List, [], ◌∷◌, map, fold}
use Rattle.cnf.specs.Signed.{Signed, literal_code}
use Rattle.cnf.specs.Sat.{Clause}
use Rattle.meaning.specs.StudyClauses.{Sourced}
use Rattle.clause_form.specs.Sources.{origin_of_number}
use Rattle.grounding.specs.Distinct.{is_seen, kept_with, plain_rows}

-- a clause with the origin that a number says
abbrev pub with_origin : Clause → ℕ → Sourced
with_origin clause origin = record { clause = clause; origin = origin_of_number origin }

-- the clauses of some rows of one origin: each sorted, tautologies left out
abbrev pub from_rows : ℕ → List Clause → List Sourced
from_rows origin rows = map (λ c. with_origin c origin) (plain_rows rows)

-- of both the same is kept, whatever was kept before
abbrev pub KeepSame : List Sourced → List Sourced → Type 0
KeepSame xs ys = (kept : List Sourced) → fold kept_with kept xs ≡ fold kept_with kept ys

-- two codes are those of a clause that stands among some; no literal has a code below 2
abbrev pub IsThere : List Clause → ℕ × ℕ → Type 0
IsThere clauses pair = 1 < pair.0 → (a b : Signed) → literal_code a ≡ pair.0 → literal_code b ≡ pair.1 → IsTrue (is_seen clauses (a ∷ b ∷ []))
