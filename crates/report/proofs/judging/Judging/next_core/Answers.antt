use Rattle.std.proofs.Common.{sym, ◌∙◌, arith}
use Rattle.std.proofs.lemmas.Option.{slice_get_past}
use Rattle.report.proofs.WitnessLineLemmas.{next_is}
use Rattle.report.proofs.judging.Judging.next_core.Goals as goal

pub returns-then-self-len : goal.returns-then-self-len
returns-then-self-len c = λ s study h. sym c.get.ensures ∙ sym (next_is study c.args.self.now s h)

pub returns-else-self-len : goal.returns-else-self-len
returns-else-self-len c = λ s study h.
    sym (slice_get_past c.args.self.now.core c.args.self.now.witnesses (omega (arith, c.if-self-len.false, c.len.ensures))) ∙ sym (next_is study c.args.self.now s h)
