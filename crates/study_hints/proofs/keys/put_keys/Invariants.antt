use Rattle.std.proofs.Common.{◌≡◌, ◌++◌}
use Rattle.toml.specs.View.{members_view}
use Rattle.study_hints.specs.Values.{keys_in}
use Rattle.study_hints.proofs.keys.put_keys.Given as goal

-- with the keys that are left all are added
abbrev pub invariant-members : goal.invariant-members
invariant-members l =
    (goal.iterator-members).can_next l.key-iterator
    × (goal.iterator-members).is_finite l.key-iterator
    × (l.out ++ keys_in (members_view l.key-iterator) ≡ l.initial.out ++ keys_in (members_view l.table.entries))
