use Rattle.std.proofs.Common.{◌≡◌, refl, sym, ◌∙◌, ap, subst, List, ℕ, length, true}
use Rattle.vocab.specs.Study.{Question}
use Rattle.cnf.specs.Fresh.{AreOver}
use Rattle.cnf.specs.Sat.{Clause}
use Rattle.cnf.specs.Trimmed.{is_trimmed}
use Rattle.cnf.proofs.TrimmedLaws.{trimmed_accepted}
use Rattle.meaning.specs.Cores.{is_core_from}
use Rattle.meaning.specs.StudyClauses.{Sourced, clauses_for}
use Rattle.search_logs.specs.Spent.{all_places}
use Rattle.meaning.specs.Variables.{variable_count}
use Rattle.search_logs.proofs.PlaceLaws.{core_below}
use Rattle.clause_form.specs.Sources.{clauses_in}
use Rattle.instance_cores.specs.Cores.{AreInstancesCited}
use Rattle.instance_cores.proofs.ReducingLaws.{stand_made, clauses_made, over_moved}
use Rattle.instance_cores.proofs.reducing.reduce_instances.Goals as goal

pub renumber-requires-clause-stand : goal.renumber-requires-clause-stand
renumber-requires-clause-stand g c =
    stand_made c.args.refuted.now.setting.now.study.now c.args.refuted.now.refutation.now.core c.args.instances.now c.args.refuted.now.refutation.now.proof c.clauses.result.now.clauses c.clauses-2.result.now.clauses
    (subst (λ (ss : List Sourced). AreInstancesCited c.args.refuted.now.setting.now.study.now ss c.args.refuted.now.refutation.now.proof c.args.instances.now) c.args.refuted.now.trimmed.clauses c.requires.cited)
    (sym c.clauses.ensures.clauses ∙ ap clauses_in c.args.refuted.now.trimmed.clauses)
    (sym c.clauses-2.ensures.clauses ∙ ap clauses_in c.in_ok-clauses.ensures ∙ clauses_made c.args.refuted.now.setting.now.study.now c.args.derived.now c.args.instances.now (all_places c.args.derived.now) c.requires.derived refl)

pub reduce-requires-clause-chosen : goal.reduce-requires-clause-chosen
reduce-requires-clause-chosen g c κs within = subst (λ (ps : List ℕ). is_core_from 0 (length c.args.derived.now.axioms) ps ≡ true) (sym c.in_ok-all.ensures) (core_below (length c.args.derived.now.axioms))

pub reduce-requires-clause-accepted : goal.reduce-requires-clause-accepted
reduce-requires-clause-accepted g c κs within =
    let same : c.clauses-2.result.now.clauses ≡ clauses_for c.args.derived.now.size c.args.derived.now.axioms c.in_ok-all.all = sym c.clauses-2.ensures.clauses ∙ ap clauses_in c.in_ok-clauses.ensures ∙ ap (clauses_for c.args.derived.now.size c.args.derived.now.axioms) (sym c.in_ok-all.ensures) in
    trimmed_accepted _ c.in_ok-proof.proof (subst (λ (cs : List Clause). is_trimmed cs c.in_ok-proof.proof ≡ true) same c.in_ok-proof.ensures.trimmed)

pub reduce-requires-clause-over : goal.reduce-requires-clause-over
reduce-requires-clause-over g c κs within =
    over_moved _ c.in_ok-proof.proof c.args.refuted.now.refutation.now.proof c.in_ok-proof.ensures.added
    (subst (λ (d : Question). AreOver (variable_count d.size) c.args.refuted.now.refutation.now.proof) (sym c.requires.derived) c.args.refuted.now.trimmed.over)
