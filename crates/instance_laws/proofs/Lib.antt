-- In proof order.
mod NameLemmas
mod BodyLaws
