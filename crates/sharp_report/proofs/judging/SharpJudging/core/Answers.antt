use Rattle.sharp_report.proofs.judging.SharpJudging.core.Goals as goal

pub returns : goal.returns
returns c = λ study s h. c.core.ensures s.told study h.told
