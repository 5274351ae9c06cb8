use Rattle.std.proofs.Common.{subst}
use Rattle.core_reduce.specs.declared.answers.Shown.{Shown}
use Rattle.core_reduce.specs.Proofs.{IsShown}
use Rattle.search_commands.proofs.ProofLemmas.{rule_shown, refutation_shown}
use Rattle.search_commands.proofs.proof.answer_of.Goals as goal

pub returns-in-Possible-clause-shown : goal.returns-in-Possible-clause-shown
returns-in-Possible-clause-shown c =
    rule_shown c.args.study.now c.in-Possible.table c.args.proved.logs
    (subst (λ (s : Shown). IsShown c.args.study.now c.args.proved.logs s) c.in-Possible.is c.requires.shown) c.requires.logs

pub returns-in-Refuted-clause-shown : goal.returns-in-Refuted-clause-shown
returns-in-Refuted-clause-shown c =
    refutation_shown c.args.study.now c.in-Refuted.lines c.args.proved.logs
    (subst (λ (s : Shown). IsShown c.args.study.now c.args.proved.logs s) c.in-Refuted.is c.requires.shown)
