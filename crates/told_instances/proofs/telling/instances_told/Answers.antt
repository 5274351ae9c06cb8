use Rattle.std.proofs.Common.{◌∙◌, ap, List, ℕ}
use Rattle.grounding.specs.Rising.{includes}
use Rattle.told_instances.proofs.ToldLaws.{all_high, lists_told}
use Rattle.told_instances.proofs.telling.instances_told.Goals as goal

pub rising-requires : goal.rising-requires
rising-requires c = record { some = all_high c.args.study.now c.args.story.now _ c.in_ok-codes.ensures }

pub returns : goal.returns
returns c =
    lists_told c.args.study.now c.args.story.now c.in_ok-instances.instances c.axioms-axioms.ensures.study c.requires.reasons c.in_ok-instances.ensures.small c.in_ok-instances.ensures.rising
    (λ n. c.in_ok-instances.ensures.has n ∙ ap (λ (xs : List ℕ). includes xs n) c.in_ok-codes.ensures)
