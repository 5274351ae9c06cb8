-- Runs, as the table speaks of them.
use Rattle.std.specs.Prelude.{◌≡◌, ℕ, [], None}
use Rattle.answers.specs.declared.runs.Run.{Run}

-- the run has this status, and tells of no search and of nothing sharp
pub record IsBare (run : Run) (status : ℕ) : Type 0 where
  pub ends : run.status ≡ status
  pub no_verdict : run.verdict ≡ None
  pub no_logs : run.logs ≡ []
  pub no_sharp : run.sharp ≡ None

-- the same run with another status
abbrev pub with_status : ℕ → Run → Run
with_status status run = record run { status = status }
