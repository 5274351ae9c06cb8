-- In proof order.
mod CallLemmas
mod CalmLemmas
