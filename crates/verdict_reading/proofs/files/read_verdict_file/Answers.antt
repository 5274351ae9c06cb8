use Rattle.std.proofs.Common.{sym, ap, ◌∙◌, ◌<◌, List, ℕ, length, subst}
use Rattle.verdict_reading.specs.Readings.{reading_of, judged_front}
use Rattle.verdict_reading.proofs.ReadingLemmas.{front_fits, front_holds, file_read}
use Rattle.verdict_reading.proofs.files.read_verdict_file.Goals as goal

pub read_text-requires-clause-room : goal.read_text-requires-clause-room
read_text-requires-clause-room g c κs within =
    subst (λ (bytes : List ℕ). length bytes < 4294967294) (sym c.as_slice.ensures)
    (front_fits c.in_ok-front.front.whole _ _ c.in_ok-front.front.bytes c.in_ok-front.ensures.read)

pub returns-clause-read : goal.returns-clause-read
returns-clause-read g c =
    let front = c.in_ok-front.front in
    file_read c.args.topic.now.study.now (g.S.Shelf.files c.args.shelf.now) c.args.name.now (g.S.Shelf.left c.rewind.new.self c.args.name.now) (g.S.Shelf.left c.read_fitted.new.shelf c.args.name.now) front.whole front.bytes c.in_ok-reading.reading
    c.in_ok-rewind.ensures.held c.in_ok-rewind.ensures.start c.in_ok-front.ensures.read
    (c.in_ok-reading.ensures ∙ ap (λ (bytes : List ℕ). reading_of (judged_front c.args.topic.now.study.now front.whole bytes)) c.as_slice.ensures)

pub returns-clause-holds : goal.returns-clause-holds
returns-clause-holds g c = front_holds c.args.topic.now.study.now c.as_slice.result.now c.in_ok-front.front.whole c.in_ok-reading.reading c.in_ok-reading.ensures
