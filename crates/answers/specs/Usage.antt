-- Words that are no command.
use Rattle.std.specs.Prelude.{◌≡◌, ℕ, List, codes}
use Rattle.answers.specs.declared.runs.Run.{Run}
use Rattle.answers.specs.Runs.{IsBare}

-- what is said to them
abbrev pub usage_line : List ℕ
usage_line = codes "usage: bench decide STUDY | check STUDY REPORT | export STUDY | proof STUDY | lrat CNF PROOF | axioms KIND | sample N | adopt STUDY PROOF | gain STUDY REPORT | sharpen STUDY [--workers K]\n"

abbrev pub IsUsage : Run → List ℕ → Type 0
IsUsage run text = IsBare run 2 × (text ≡ usage_line)
