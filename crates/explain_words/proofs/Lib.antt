mod RequestLemmas
mod WorkerLemmas
