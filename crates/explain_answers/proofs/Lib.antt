-- In proof order.
mod StatusLemmas
mod PageLaws
mod InstanceLaws
mod ClauseLaws
mod RulesLaws
mod CoresLaws
mod LookLaws
mod CallLaws
mod LeftLaws
mod WrittenLaws
