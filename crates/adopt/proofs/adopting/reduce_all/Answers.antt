use Rattle.std.proofs.Common.{◌≡◌, ℕ, true, List, length, sym, subst}
use Rattle.meaning.specs.Cores.{is_core_from}
use Rattle.meaning.specs.Space.{below}
use Rattle.search_logs.proofs.PlaceLaws.{core_below}
use Rattle.adopt.proofs.adopting.reduce_all.Goals as goal

pub reduce-requires-clause-chosen : goal.reduce-requires-clause-chosen
reduce-requires-clause-chosen g c = λ κs out.
    let n : ℕ = length c.args.setting.now.study.now.axioms in
    let all : c.in_ok-all.all ≡ below n = c.in_ok-all.ensures in
    subst (λ (ps : List ℕ). is_core_from 0 n ps ≡ true) (sym all) (core_below n)
