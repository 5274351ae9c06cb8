use Rattle.std.proofs.Common.{◌≡◌, ℕ, true, List, length, sym, subst}
use Rattle.meaning.specs.Cores.{is_core_from}
use Rattle.search_logs.proofs.PlaceLaws.{core_below}
use Rattle.command_parts.proofs.grounds.ground_all.Goals as goal

pub ground-requires-clause-chosen : goal.ground-requires-clause-chosen
ground-requires-clause-chosen g c = λ κs out.
    let n : ℕ = length c.args.setting.now.study.now.axioms in
    subst (λ (ps : List ℕ). is_core_from 0 n ps ≡ true) (sym c.in-Ok.ensures) (core_below n)
