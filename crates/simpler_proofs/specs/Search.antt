-- The search for clauses that propagation gives.
use Rattle.std.specs.Prelude.{◌≡◌, true}
use Rattle.simpler_proofs.specs.declared.search.Search.{Search}

-- nothing is assumed, and propagation gets nothing more
pub record IsAtRoot (s : Search) : Type 0 where
  pub level : s.draft.marked.trail.level ≡ 0
  pub closed : s.draft.marked.trail.propagated ≡ true

-- two states of one search: over the same clauses and variables, for clauses with as many literals
pub record IsSameSearch (old new : Search) : Type 0 where
  pub clauses : new.draft.clauses ≡ old.draft.clauses
  pub most : new.most ≡ old.most
  pub variables : new.draft.marked.trail.variables ≡ old.draft.marked.trail.variables
