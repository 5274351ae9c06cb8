use Rattle.std.proofs.Common.{sym, subst, [], ◌∙◌}
use Rattle.vocab.specs.Size.{IsSize}
use Rattle.vocab.specs.Study.{Question}
use Rattle.verdicts.specs.Judge.{answer_within, pieces, front}
use Rattle.report_files.specs.Files.{IsWorth, WorthHolds, most_verdict_bytes}
use Rattle.report_files.proofs.CheckerLemmas.{reports_alone, unread_count}
use Rattle.report_files.proofs.JudgedLemmas.{file_worth, read_whole}
use Rattle.report_files.proofs.files.worth_of.Goals as goal

pub read_pieces-requires-clause-lines : goal.read_pieces-requires-clause-lines
read_pieces-requires-clause-lines g c κs within = unread_count c.args.reader.now.checker c.requires.unread.0

pub worth_at-requires-clause-reports : goal.worth_at-requires-clause-reports
worth_at-requires-clause-reports g c κs within =
    let read = c.in_ok-ending.ensures.read in
    let checker = c.read_pieces.new.reader.checker in
    reports_alone checker (front (pieces read.0)) (c.read_pieces.ensures.admits ∙ c.requires.reports) (read.2 [] c.requires.unread).0

pub returns-clause-worth : goal.returns-clause-worth
returns-clause-worth g c =
    let left = g.S.Shelf.left c.rewind.new.self c.args.name.now in
    let read = c.in_ok-ending.ensures.read in
    file_worth (λ held. IsWorth (answer_within most_verdict_bytes c.args.reader.now.checker.study held) c.in_ok-worth.worth)
    (g.S.Shelf.files c.args.shelf.now) c.args.name.now left c.in_ok-rewind.ensures.held c.in_ok-rewind.ensures.start
    (λ held known. subst (λ (q : Question). IsWorth (answer_within most_verdict_bytes q held) c.in_ok-worth.worth) c.read_pieces.ensures.study
    (c.in_ok-worth.ensures.worth left (g.S.Shelf.left c.read_pieces.new.shelf c.args.name.now) read.0 held read.1 known (read.2 [] c.requires.unread)))

pub returns-clause-holds : goal.returns-clause-holds
returns-clause-holds g c = λ size.
    let read = c.in_ok-ending.ensures.read in
    subst (λ (q : Question). WorthHolds q c.in_ok-worth.worth) c.read_pieces.ensures.study
    (c.in_ok-worth.ensures.holds read.0 (subst (λ (q : Question). IsSize q.size) (sym c.read_pieces.ensures.study) size) (read.2 [] c.requires.unread))

pub returns-clause-whole : goal.returns-clause-whole
returns-clause-whole g c =
    let read = c.in_ok-ending.ensures.read in
    read_whole (g.S.Shelf.files c.args.shelf.now) c.read_pieces.new.reader c.args.name.now (g.S.Shelf.left c.rewind.new.self c.args.name.now)
    (g.S.Shelf.left c.read_pieces.new.shelf c.args.name.now) c.in_ok-ending.ending read.0 c.in_ok-worth.worth c.in_ok-rewind.ensures.start read.1 (read.2 [] c.requires.unread) c.in_ok-worth.ensures.whole

pub returns-clause-stands : goal.returns-clause-stands
returns-clause-stands g c =
    let read = c.in_ok-ending.ensures.read in
    (read.0, read.2 [] c.requires.unread)
