-- What a search found of a study.
use Rattle.std.specs.Prelude.{List, Any, IsTrue}
use Rattle.vocab.specs.Study.{Question}
use Rattle.search_logs.specs.declared.logs.SearchLog.{SearchLog}
use Rattle.search_logs.specs.Spent.{IsOfAll}
use Rattle.verdicts.specs.declared.verdicts.Verdict.{Verdict}
use Rattle.verdicts.specs.declared.verdicts.Verdict.TheVariants.{Undecided}
use Rattle.verdicts.specs.Report.{is_right}
use Rattle.answers.specs.Evidence.{IsBacked}

-- a verdict that is right, with what there is besides; or none, where a search over all axioms spent its limit
abbrev pub IsVerdict : Question → List SearchLog → Verdict → Type 0
IsVerdict study logs Undecided = Any (IsOfAll study) logs
IsVerdict study logs verdict = IsTrue (is_right study verdict) × IsBacked study logs verdict
