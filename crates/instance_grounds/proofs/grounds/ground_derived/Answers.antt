use Rattle.std.proofs.Common.{◌≡◌, length, sym, subst, List, ℕ, true}
use Rattle.meaning.specs.Cores.{is_core_from}
use Rattle.search_logs.proofs.PlaceLaws.{core_below}
use Rattle.instance_grounds.proofs.GroundLaws.{fits_made}
use Rattle.instance_grounds.proofs.grounds.ground_derived.Goals as goal
use Rattle.lists.proofs.OptionLaws.{not_both}

pub ground-requires-clause-chosen : goal.ground-requires-clause-chosen
ground-requires-clause-chosen g c κs within = subst (λ (ps : List ℕ). is_core_from 0 (length c.args.derived.now.axioms) ps ≡ true) (sym c.in_ok-all.ensures) (core_below (length c.args.derived.now.axioms))

pub unreachable-requires : goal.unreachable-requires
unreachable-requires g c =
    not_both _ _ (rw c.in-Err-Wide.field-0-is at c.in-Err-Wide.ensures.err) (fits_made c.args.setting.now.study.now c.args.instances.now c.args.derived.now c.in_ok-all.all c.axioms-axioms.ensures.study c.requires.total c.requires.derived.own.present c.requires.derived.rising c.requires.derived.made c.in_ok-all.ensures)

pub unreachable-requires-in-Err-Full : goal.unreachable-requires-in-Err-Full
unreachable-requires-in-Err-Full g c =
    not_both _ _ (rw c.in-Err-Full.field-0-is at c.in-Err-Full.ensures.err) (fits_made c.args.setting.now.study.now c.args.instances.now c.args.derived.now c.in_ok-all.all c.axioms-axioms.ensures.study c.requires.total c.requires.derived.own.present c.requires.derived.rising c.requires.derived.made c.in_ok-all.ensures)
