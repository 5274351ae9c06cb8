use Rattle.std.proofs.Common.{arith}
use Rattle.report_files.proofs.reader.Reader.new.Goals as goal

pub invariant_of-result : goal.invariant_of-result
invariant_of-result g c = rw c.new-2.ensures.items (omega arith)
