use Rattle.clap.specs.Words.{found_of, rows_of}
use Rattle.explain_words.proofs.WorkerLemmas.{found}
use Rattle.explain_words.proofs.reading.command_in.Goals as goal

pub returns-clause-workers : goal.returns-clause-workers
returns-clause-workers c = found c.command_under.result c.in_ok-name.name.now (rows_of (found_of c.in_ok-name.inner.now)) c.command_under.ensures
