use Rattle.std.proofs.Common.{◌≡◌, sym, ◌∙◌, ap, ap₂, subst, true, List, ℕ, [], ◌∷◌, ◌++◌}
use Rattle.std.specs.List.{list_all}
use Rattle.meaning.specs.declared.cores.Witness.TheVariants.{Rule}
use Rattle.sharp_verdicts.specs.declared.instances.Cited.{Cited}
use Rattle.sharp_verdicts.specs.Instances.{others_than, is_present}
use Rattle.sharp_verdicts.specs.SharpFaults.{instances_fault}
use Rattle.sharp_report.proofs.FailingLemmas.{listed_present}
use Rattle.sharp_report.proofs.MarkLemmas.{asked_is, with_rule, table_taken}
use Rattle.sharp_report.proofs.judging.SharpJudging.take_table.Goals as goal

pub first_failing-fault-requires-clause-present : goal.first_failing-fault-requires-clause-present
first_failing-fault-requires-clause-present g c κs within =
    let study = c.args.subject.now.setting.study.now in
    subst (λ (cs : List Cited). list_all (is_present study) cs ≡ true) (sym (c.as_slice.ensures ∙ c.requires.table.instances)) (listed_present study c.requires.table.standing.told.earlier)

pub returns-then-is_none : goal.returns-then-is_none
returns-then-is_none g c = λ s h at.
    let study = c.args.subject.now.setting.study.now in
    let self = c.args.self.now in
    let found = ap₂ (λ (t : List ℕ) (cs : List Cited). instances_fault study t (others_than cs c.in-Some.next)) h.rows c.as_slice.ensures in (
      c.first_failing-fault.ensures ∙ found ∙ ap (instances_fault study s.rows) (asked_is study s self h at c.in-Some.next c.in-Some.ensures.value),
      λ whole _. table_taken study s self h at c.after_mark.new.self (c.after_mark.ensures study (record s { marks = s.marks ++ Rule s.rows ∷ [] }) (with_rule study s self h at)) whole,
    )
