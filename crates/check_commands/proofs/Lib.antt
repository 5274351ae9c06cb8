-- In proof order.
mod CheckLemmas
mod LratLemmas
mod GainLemmas
