use Rattle.std.proofs.Common.{arith}
use Rattle.vocab.specs.Tree.{tree_of}
use Rattle.meaning.specs.Written.{write_out}
use Rattle.clause_form.proofs.BoundLaws.{known_within}
use Rattle.clause_form.proofs.bounds.most_counts.Goals as goal

pub returns-in-Known : goal.returns-in-Known
returns-in-Known c = λ env. known_within (record { clauses = 1; literals = 0 }) (write_out c.args.space.now (tree_of c.args.formula.now) env) (omega arith) (c.in-Known.ensures env)
