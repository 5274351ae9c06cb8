use Rattle.std.proofs.Common.{sym, ◌∙◌}
use Rattle.report.proofs.WitnessLineLemmas.{to_witness, to_end}
use Rattle.report.proofs.judging.Judging.after_witness.Goals as goal

pub returns-in-Some : goal.returns-in-Some
returns-in-Some c = λ s study h. to_witness study c.args.self.now s h c.in-Some.field-0 (sym (c.next_core.ensures s study h) ∙ c.in-Some.is)

pub returns-in-None : goal.returns-in-None
returns-in-None c = λ s study h. to_end study c.args.self.now s h (sym (c.next_core.ensures s study h) ∙ c.in-None.is)
