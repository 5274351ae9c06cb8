-- What a search found, and the evidence that a run has for it.
use Rattle.std.specs.Prelude.{◌≡◌, List, Any, None, Some, IsTrue}
use Rattle.vocab.specs.Study.{Question}
use Rattle.meaning.specs.Tidy.{is_tidy}
use Rattle.verdicts.specs.declared.verdicts.Verdict.{Verdict}
use Rattle.verdicts.specs.declared.verdicts.Verdict.TheVariants.{Impossible, Undecided}
use Rattle.verdicts.specs.Report.{is_claim, is_right}
use Rattle.search_logs.specs.declared.logs.SearchLog.{SearchLog}
use Rattle.search_logs.specs.Spent.{IsOfAll, HaveEvidence, AreSpentLogs}
use Rattle.answers.specs.declared.runs.Run.{Run}

module _ (study : Question) where
  -- what there is besides for a verdict: a story is tidy, and each open mark has its log
  abbrev pub IsBacked : List SearchLog → Verdict → Type 0
  IsBacked logs (Impossible core story witnesses) =
      IsTrue (is_tidy study.size study.axioms core story) × HaveEvidence study logs core core witnesses
  IsBacked logs _ = Unit {0}

  -- the run has found a verdict: it is right and claims something, with what there is besides; and each log
  -- is of a search that spent its limit; nothing is sharpened
  pub record IsFound (run : Run) (verdict : Verdict) : Type 0 where
    pub ends : run.status ≡ 0
    pub told : run.verdict ≡ Some verdict
    pub claims_some : IsTrue (is_claim study verdict)
    pub right : IsTrue (is_right study verdict)
    pub backed : IsBacked run.logs verdict
    pub logs : AreSpentLogs study run.logs
    pub no_sharp : run.sharp ≡ None

  -- the run has found nothing: a search over all axioms spent its limit; nothing is sharpened
  pub record IsUndecided (run : Run) : Type 0 where
    pub ends : run.status ≡ 4
    pub told : run.verdict ≡ Some Undecided
    pub spent : Any (IsOfAll study) run.logs
    pub logs : AreSpentLogs study run.logs
    pub no_sharp : run.sharp ≡ None

-- the run decides the study: it has found a verdict, or nothing
pub data Decides (study : Question) (run : Run) (verdict : Verdict) : Type 0 where
  by_verdict : IsFound study run verdict → Decides study run verdict
  by_limit : IsUndecided study run → verdict ≡ Undecided → Decides study run verdict
