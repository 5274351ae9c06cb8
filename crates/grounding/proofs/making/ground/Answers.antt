use Rattle.std.proofs.Common.{[]}
use Rattle.clause_form.specs.Refusals.{first_full, first_wide}
use Rattle.grounding.proofs.ChosenLemmas.{refused-first}
use Rattle.grounding.proofs.making.ground.Goals as goal

pub returns-in-Err-clause-err : goal.returns-in-Err-clause-err
returns-in-Err-clause-err g c =
    let study = c.args.study.now in
    refused-first c.in-Err.fault (first_wide study.size study.axioms c.args.chosen.now) (first_full study.size study.axioms [] c.args.chosen.now) c.in-Err.ensures.err
