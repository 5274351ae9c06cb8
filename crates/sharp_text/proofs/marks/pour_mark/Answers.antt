use Rattle.std.proofs.Common.{◌≡◌, sym, subst, List, ℕ, true}
use Rattle.std.proofs.lemmas.Bool.{and_parts}
use Rattle.vocab.specs.Size.{Extent}
use Rattle.meaning.specs.declared.cores.Witness.{Witness}
use Rattle.meaning.specs.declared.stories.Reason.TheVariants.{Axiom as ByAxiom}
use Rattle.meaning.specs.Truth.{is_rule}
use Rattle.verdicts.specs.Report.{is_reason, is_witness_text}
use Rattle.sharp_verdicts.specs.Instances.{is_present}
use Rattle.sharp_text.proofs.SharpLemmas.{present_named, rule_mark, open_mark}
use Rattle.texts.proofs.PourLemmas.{renamed}
use Rattle.sharp_text.proofs.marks.pour_mark.Goals as goal

pub pour-requires : goal.pour-requires
pour-requires g c =
    let study = c.args.setting.now.study.now in
    let k = c.args.cited.«axiom» in
    let p = and_parts (is_present study c.args.cited) (is_witness_text study k c.args.mark.now) c.requires.can in
    let rule : is_rule study.size c.in-Rule.table ≡ true = subst (λ (w : Witness). is_witness_text study k w ≡ true) c.in-Rule.is p.1 in (
      tt,
      (
        subst (λ (v : List ℕ). is_reason study (ByAxiom k v) ≡ true) (sym c.values_of.ensures) (present_named study c.args.cited p.0),
        (tt, subst (λ (e : Extent). is_rule e c.in-Rule.table ≡ true) c.args.setting.now.same rule),
      ),
    )

pub pour-requires-in-Open : goal.pour-requires-in-Open
pour-requires-in-Open g c =
    let study = c.args.setting.now.study.now in
    let k = c.args.cited.«axiom» in
    let p = and_parts (is_present study c.args.cited) (is_witness_text study k c.args.mark.now) c.requires.can in
    (tt, (subst (λ (v : List ℕ). is_reason study (ByAxiom k v) ≡ true) (sym c.values_of.ensures) (present_named study c.args.cited p.0), tt))

pub returns-in-Rule : goal.returns-in-Rule
returns-in-Rule g c =
    let study = c.args.setting.now.study.now in
    let size : Extent = g.K.OutcomeKind.size c.args.setting.now.kind.now in
    rw c.in-Rule.is (renamed _ _ _ _ _ _ c.pour.result _ _ (rule_mark study size c.args.setting.now.same c.args.cited c.in-Rule.table)
    (rw (c.values_of.ensures, c.from.ensures, c.count.ensures.value, c.space-space.ensures) at c.pour.ensures))

pub returns-in-Open : goal.returns-in-Open
returns-in-Open g c =
    let study = c.args.setting.now.study.now in
    let size : Extent = g.K.OutcomeKind.size c.args.setting.now.kind.now in
    rw c.in-Open.is (renamed _ _ _ _ _ _ c.pour-in-Open.result _ _ (open_mark study size c.args.setting.now.same c.args.cited c.in-Open.limit)
    (rw (c.values_of.ensures, c.from-in-Open.ensures) at c.pour-in-Open.ensures))
