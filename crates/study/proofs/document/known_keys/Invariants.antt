use Rattle.std.proofs.Common.{◌≡◌}
use Rattle.toml.specs.View.{members_view}
use Rattle.study.specs.Document.{known_keys}
use Rattle.study.proofs.document.known_keys.Given as goal

abbrev pub invariant-members : goal.invariant-members
invariant-members l =
    (goal.iterator-members).can_next l.key-iterator
    × (goal.iterator-members).is_finite l.key-iterator
    × (known_keys (members_view l.key-iterator) ≡ known_keys (members_view l.table.entries))
