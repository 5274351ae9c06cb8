use Rattle.std.proofs.Common.{sym, ◌∙◌}
use Rattle.sentence_fronts.proofs.Walking.{skips_more}
use Rattle.sentence_fronts.proofs.fronts.after_blanks.Goals as goal

pub loop-c-preserved : goal.loop-c-preserved
loop-c-preserved c = skips_more _ _ _ _ c.loop-c.invariant c.in-Some.ensures.cases.0 (sym c.is_blank_byte.ensures ∙ c.if-not-is_blank_byte.false)
