use Rattle.std.proofs.Common.{sym, ◌∙◌}
use Rattle.report.proofs.StoryLineLemmas.{all_told}
use Rattle.report.proofs.judging.Judging.after_lemma.Goals as goal

pub returns-then-len-self : goal.returns-then-len-self
returns-then-len-self c = λ s study h. all_told study c.args.self.now s h c.after_witness.new.self (sym c.len.ensures ∙ c.if-len-self.true) (c.after_witness.ensures s study h)
