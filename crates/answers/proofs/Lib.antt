-- In proof order.
pub mod AmongLemmas
pub mod RowLemmas
mod FitLemmas
pub mod JudgedLaws
mod DecidedLaws
pub mod ReportLaws
mod ClauseLaws
pub mod OneAnswer
pub mod DeviceLaws
pub mod CallLaws
pub mod LimitLemmas
pub mod RangeLemmas
mod ExportLemmas
pub mod ConfirmedLaws
mod AdoptLaws
mod GainRows
mod WrittenReports
mod SharpenLaws
mod SharpenRows
mod ConclusiveCalls
mod WorkedExamples
