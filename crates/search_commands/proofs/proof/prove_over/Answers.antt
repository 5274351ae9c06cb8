use Rattle.std.proofs.Common.{rules}
use Rattle.answers.specs.Grounding.{clauses_made}
use Rattle.search_commands.proofs.ClauseLemmas.{no_clauses}
use Rattle.search_commands.proofs.proof.prove_over.Goals as goal

pub returns-in-Err : goal.returns-in-Err
returns-in-Err g c = record {
  row = no_clauses c.args.whole.study c.in-Err.fault _ (λ e. search rules) c.in-Err.ensures.fault;
  has_text = tt;
  read = λ e. absurd (cc);
}

pub returns-clause-row : goal.returns-clause-row
returns-clause-row g c = clauses_made c.in-Ok.ensures.none c.answer_of.ensures.shown
