use Rattle.instance_cores.specs.Cores.{AreCodes}
use Rattle.instance_cores.proofs.citing.codes_of.Given as goal

abbrev pub invariant-loop-k : goal.invariant-loop-k
invariant-loop-k l = AreCodes l.study l.clauses l.flags l.k l.codes.items
