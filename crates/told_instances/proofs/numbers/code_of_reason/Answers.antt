use Rattle.std.proofs.Common.{sym, ◌∙◌}
use Rattle.told_instances.proofs.NumberLaws.{code_is, no_code}
use Rattle.told_instances.proofs.numbers.code_of_reason.Goals as goal

pub returns-in-Some : goal.returns-in-Some
returns-in-Some c =
    code_is c.args.study.now c.args.reason.now c.in-Some.cited c.code_of.result (sym c.instance_of_reason.ensures.value ∙ c.in-Some.is) c.code_of.ensures

pub returns-in-None : goal.returns-in-None
returns-in-None c = no_code c.args.study.now c.args.reason.now (sym c.instance_of_reason.ensures.value ∙ c.in-None.is)
