use Rattle.clause_text.proofs.cnf_writing.pour_dimacs.Goals as goal

pub returns : goal.returns
returns g c = rw (c.from.ensures, c.from-2.ensures, c.len.ensures.value) at c.pour.ensures
