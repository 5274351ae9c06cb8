use Rattle.std.proofs.Common.{◌≡◌}
use Rattle.toml.specs.View.{members_view}
use Rattle.study.specs.Document.{sentences_in}
use Rattle.study.proofs.Collected.{sentences_after}
use Rattle.study.proofs.document.sentences_in.Given as goal

abbrev pub invariant-members : goal.invariant-members
invariant-members l =
    (goal.iterator-members).can_next l.key-iterator
    × (goal.iterator-members).is_finite l.key-iterator
    × (sentences_after l.sentences (members_view l.key-iterator) ≡ sentences_in (members_view l.table.entries))
