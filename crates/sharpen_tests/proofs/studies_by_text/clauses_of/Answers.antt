use Rattle.std.proofs.Common.{◌≡◌, ℕ, true, List, length, sym, subst, None}
use Rattle.meaning.specs.Cores.{is_core_from}
use Rattle.clause_form.specs.Refusals.{first_wide}
use Rattle.search_logs.proofs.PlaceLaws.{core_below}
use Rattle.sharpen_tests.proofs.studies_by_text.clauses_of.Goals as goal
use Rattle.lists.proofs.OptionLaws.{none_of_either}

pub ground-requires-clause-chosen : goal.ground-requires-clause-chosen
ground-requires-clause-chosen g c = λ κs out.
    let n : ℕ = length c.args.study.now.axioms in
    subst (λ (ps : List ℕ). is_core_from 0 n ps ≡ true) (sym c.in_ok-all.ensures) (core_below n)

-- nothing is refused of the clauses, so no instance is too wide
pub returns-in-Ok-clause-narrow : goal.returns-in-Ok-clause-narrow
returns-in-Ok-clause-narrow g c =
    let size = c.args.study.now.size in
    let axioms = c.args.study.now.axioms in
    subst (λ (ps : List ℕ). first_wide size axioms ps ≡ None) c.in_ok-all.ensures (none_of_either _ _ c.in-Ok.ensures.none).0
