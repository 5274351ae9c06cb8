-- What is said of a verdict in one line.
use Rattle.std.specs.Prelude.{ℕ, List, [], ◌∷◌, ◌++◌, codes}
use Rattle.verdicts.specs.declared.verdicts.Verdict.{Verdict}
use Rattle.verdicts.specs.Words.{claim_text}

-- the word of a verdict, as a comment of a proof
abbrev pub claim_line : Verdict → List ℕ
claim_line verdict = codes "c " ++ (claim_text verdict ++ 10 ∷ [])
