-- What holds of renumbered derivations: the statement of the law.
use Rattle.std.specs.Prelude.{ℕ, List, map, length, IsTrue}
use Rattle.cnf.specs.declared.derivations.Line.{Line}
use Rattle.cnf.specs.Sat.{Clause}
use Rattle.cnf.specs.Trimmed.{is_trimmed}
use Rattle.renumbering.specs.Renumbered.{renumbered_line, AreClausePlaces}

-- a trimmed derivation is trimmed over each list in which the clauses stand that its hints name, once their ids are those there
abbrev pub RenumberedIsTrimmed : Type 0
RenumberedIsTrimmed =
    (old new : List Clause) (places : List ℕ) (lines : List Line) → IsTrue (is_trimmed old lines) → AreClausePlaces old new places lines
    → IsTrue (is_trimmed new (map (renumbered_line (length old) (length new) places) lines))
