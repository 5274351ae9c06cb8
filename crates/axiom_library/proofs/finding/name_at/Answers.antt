use Rattle.axiom_library.proofs.Entries.{name_at_place}
use Rattle.axiom_library.proofs.finding.name_at.Goals as goal

pub unwrap-requires : goal.unwrap-requires
unwrap-requires c = c.new.ensures.when.1 (name_at_place c.args.kind c.args.place c.in-Some.bytes.now c.in-Some.ensures)
