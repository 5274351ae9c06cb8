use Rattle.std.proofs.Common.{◌≡◌, refl, ◌∙◌, ◌+◌, [], ◌∷◌, ◌++◌, length, arith}
use Rattle.report_files.proofs.FileLemmas.{taken_none}
use Rattle.report_files.proofs.ReaderLemmas.{piece_line, piece_rest, cut_more, cut_shorter, on_ok}
use Rattle.report_files.proofs.reader.Reader.piece.Goals as goal

pub loop-line-init : goal.loop-line-init
loop-line-init g c = record {
  study = refl;
  admits = refl;
  room = omega arith;
  read = [];
  cut = refl;
  taken = taken_none c.args.self.now;
}

pub loop-line-smaller : goal.loop-line-smaller
loop-line-smaller g c =
    let longer : length c.loop-line.rest.now ≡ length c.in-Some.line.now + (1 + length c.in-Some.after.now) = cut_shorter c.loop-line.rest.now c.in-Some.line.now c.in-Some.after.now c.in-Some.ensures.0 in
    omega (arith, longer)

pub loop-line-preserved : goal.loop-line-preserved
loop-line-preserved g c =
    let inv = c.loop-line.invariant in
    let line = c.in-Some.line.now in
    let after = c.in-Some.after.now in
    let longer : length c.loop-line.rest.now ≡ length line + (1 + length after) = cut_shorter c.loop-line.rest.now line after c.in-Some.ensures.0 in
    record {
      study = c.end_line.ensures.study ∙ inv.study;
      admits = c.end_line.ensures.admits ∙ inv.admits;
      room = omega (arith, longer, inv.room, c.in_ok-end_line.ensures.lines);
      read = inv.read ++ (line ++ 10 ∷ []);
      cut = cut_more c.args.bytes.now inv.read c.loop-line.rest.now line after inv.cut c.in-Some.ensures.0;
      taken = λ text stands. piece_line c.loop-line.self c.end_line.new.self text inv.read line c.in-Some.ensures.1 c.in_ok-end_line.ensures.taken c.in_ok-end_line.ensures.ended (inv.taken text stands);
    }

pub returns-clause-taken : goal.returns-clause-taken
returns-clause-taken g c =
    let inv = c.loop-line.invariant in
    on_ok c.hold.result c.hold.ensures.held (λ held text stands.
    piece_rest c.loop-line.self c.hold.new.self text c.args.bytes.now inv.read c.loop-line.rest.now c.in_default.ensures inv.cut c.hold.ensures.checker held (inv.taken text stands))
