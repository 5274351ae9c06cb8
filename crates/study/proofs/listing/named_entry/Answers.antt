use Rattle.std.proofs.Common.{sym}
use Rattle.axiom_library.proofs.Entries.{text_readable}
use Rattle.study.proofs.listing.named_entry.Goals as goal

pub unwrap-known-requires : goal.unwrap-known-requires
unwrap-known-requires c = c.new.ensures.when.1 (text_readable c.args.kind c.as_slice-bytes.result.now c.in-Some.text.now (sym c.in-Some.ensures)).is_name
