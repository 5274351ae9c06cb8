-- In proof order.
mod InstanceReplies
mod RulesReplies
mod CoresReplies
mod LookReplies
