use Rattle.std.proofs.Common.{◌≡◌, ℕ, true, List, length, sym, subst}
use Rattle.meaning.specs.Cores.{is_core_from}
use Rattle.search_logs.proofs.PlaceLaws.{core_below}
use Rattle.map_tests.proofs.mapping_tests.clauses_of.Goals as goal

pub ground-requires-clause-chosen : goal.ground-requires-clause-chosen
ground-requires-clause-chosen g c = λ κs out.
    let n : ℕ = length c.args.study.now.axioms in
    subst (λ (ps : List ℕ). is_core_from 0 n ps ≡ true) (sym c.in_ok-all.ensures) (core_below n)
