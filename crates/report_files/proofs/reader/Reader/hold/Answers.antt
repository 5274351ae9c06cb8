use Rattle.std.proofs.Common.{take, ◌++◌, rules, ◌≡◌, ◌∙◌, sym, ap, min, length, ◌-◌}
use Rattle.std.specs.Vec.{vec_len}
use Rattle.report_files.specs.Pieces.{head_of}
use Rattle.report_files.proofs.PieceLemmas.{take_room}
use Rattle.report_files.proofs.reader.Reader.hold.Goals as goal

pub returns-clause-held : goal.returns-clause-held
returns-clause-held g c =
    let held = c.self.inside.held in
    let counted : vec_len held ≡ length held.items = search rules in
    let count : c.min-count.result ≡ min (length c.args.piece.now) (4097 - length held.items) = c.min-count.ensures ∙ ap (λ n. min (length c.args.piece.now) (4097 - n)) (c.len-room.ensures ∙ counted) in
    let taken : head_of (held.items ++ c.args.piece.now) ≡ held.items ++ take c.min-count.result c.args.piece.now = take_room 4097 c.min-count.result held.items c.args.piece.now c.self.invariant count in
    let grown : c.extend_from_slice.new.self.items ≡ held.items ++ take c.min-count.result c.args.piece.now = c.in_ok-extend_from_slice.ensures.items in
    let now : c.extend_from_slice.new.self.items ≡ head_of (held.items ++ c.args.piece.now) = grown ∙ sym taken in
    rw (← c.self.view_is) now
