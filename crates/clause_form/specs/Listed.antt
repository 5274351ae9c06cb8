-- One clause of one or two literals, or two of two, or clauses that begin alike.
use Rattle.std.specs.Prelude.{List, [], ◌∷◌}
use Rattle.cnf.specs.Sat.{Clause}
use Rattle.clause_form.specs.declared.listed.Kept.{Kept}
use Rattle.clause_form.specs.declared.listed.Kept.TheVariants.{One, Two, Pair, Many}

-- the clauses that are kept
abbrev pub clauses_kept : Kept → List Clause
clauses_kept (One l) = (l ∷ []) ∷ []
clauses_kept (Two l k) = (l ∷ k ∷ []) ∷ []
clauses_kept (Pair a b c d) = (a ∷ b ∷ []) ∷ (c ∷ d ∷ []) ∷ []
clauses_kept (Many clauses) = clauses
