-- What is kept of the clauses of an axiom, after those of others.
use Rattle.std.specs.Prelude.{◌≡◌, ◌++◌, IsTrue, List, length, fold}
use Rattle.cnf.specs.ClauseList.{ClauseList}
use Rattle.meaning.specs.StudyClauses.{Sourced}
use Rattle.clause_form.specs.Refusals.{is_over_limits}
use Rattle.clause_form.specs.Sources.{clauses_in, sourced}
use Rattle.grounding.specs.Distinct.{Codes, HasSeen, kept_with}

-- a list has some clauses and then those that were kept, and these have the codes that were seen
pub record AreKeptClauses (seen : Codes) (out : ClauseList) (before kept : List Sourced) : Type 0 where
  pub codes : HasSeen seen (clauses_in kept)
  pub pairs : length out.origins ≡ length out.clauses
  pub sources : sourced out.clauses out.origins ≡ before ++ kept

-- of more clauses those are kept that are new
abbrev pub Keeps : Codes → ClauseList → Codes → ClauseList → List Sourced → Type 0
Keeps seen out seen_after out_after more = (before kept : List Sourced) → AreKeptClauses seen out before kept → AreKeptClauses seen_after out_after before (fold kept_with kept more)

-- with those of more clauses that are new the list passes a limit
abbrev pub Overfills : Codes → ClauseList → List Sourced → Type 0
Overfills seen out more = (before kept : List Sourced) → AreKeptClauses seen out before kept → IsTrue (is_over_limits (clauses_in (before ++ fold kept_with kept more)))
