use Rattle.std.proofs.Common.{take, map}
use Rattle.study.specs.Sentences.{AreReadAs}
use Rattle.study.specs.Unresolved.{worded_of}
use Rattle.study.proofs.sentences.read_all.Given as goal

abbrev pub invariant-loop-entry : goal.invariant-loop-entry
invariant-loop-entry l = AreReadAs (take l.entry-index l.entries) (map worded_of l.sentences)
