use Rattle.std.proofs.Common.{sym, ap, ◌∙◌, ◌++◌, ◌∷◌, [], arith}
use Rattle.std.specs.Prelude.{◌==◌}
use Rattle.meaning.specs.declared.cores.Witness.TheVariants.{Open}
use Rattle.verdicts.specs.declared.refusals.Refusal.TheVariants.{Core, OpenMark}
use Rattle.verdicts.specs.Faults.{next_core, name_fault, unless_so}
use Rattle.report.proofs.WitnessLineLemmas.{number_same, no_fault, with_witness}
use Rattle.report.proofs.judging.Judging.take_with_open.Goals as goal

pub overflow_add-self : goal.overflow_add-self
overflow_add-self g c = omega (arith, c.is_next.ensures.few c.if-not-is_next.false)

pub returns : goal.returns
returns g c = λ s n h at held.
    let study = c.args.subject.now.setting.study.now in
    let named = c.is_next.ensures.fault s h ∙ ap (λ b. unless_so b Core) c.if-not-is_next.false in
    let same = number_same n study.conflicts (omega (arith, c.conflicts.ensures, c.conflicts.type_inv)) (sym held ∙ c.if-limit-conflicts.false ∙ c.conflicts.ensures) in (
      no_fault (name_fault study (next_core s) c.args.name.now) (n == study.conflicts) Core OpenMark named same,
      λ _. c.after_witness.ensures (record s { witnesses = s.witnesses ++ Open n ∷ [] }) study (with_witness study c.args.self.now s h (Open n)),
    )
