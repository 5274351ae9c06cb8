use Rattle.std.proofs.Common.{sym, subst, []}
use Rattle.vocab.specs.Size.{IsSize}
use Rattle.vocab.specs.Study.{Question}
use Rattle.sharp_verdicts.specs.Judged.{judged_within}
use Rattle.report_files.specs.Files.{IsJudgedWorth, JudgedWorthHolds, most_verdict_bytes}
use Rattle.report_files.proofs.CheckerLemmas.{unread_count}
use Rattle.report_files.proofs.JudgedLemmas.{file_worth}
use Rattle.report_files.proofs.files.judged_worth_of.Goals as goal

pub read_pieces-requires-clause-lines : goal.read_pieces-requires-clause-lines
read_pieces-requires-clause-lines g c κs within = unread_count c.args.reader.now.checker c.requires.unread.0

pub returns-clause-worth : goal.returns-clause-worth
returns-clause-worth g c =
    let left = g.S.Shelf.left c.rewind.new.self c.args.name.now in
    let read = c.in_ok-ending.ensures.read in
    file_worth (λ held. IsJudgedWorth (judged_within most_verdict_bytes c.args.reader.now.checker.study held) c.in_ok-worth.worth)
    (g.S.Shelf.files c.args.shelf.now) c.args.name.now left c.in_ok-rewind.ensures.held c.in_ok-rewind.ensures.start
    (λ held known. subst (λ (q : Question). IsJudgedWorth (judged_within most_verdict_bytes q held) c.in_ok-worth.worth) c.read_pieces.ensures.study
    (c.in_ok-worth.ensures.worth left (g.S.Shelf.left c.read_pieces.new.shelf c.args.name.now) read.0 held read.1 known (read.2 [] c.requires.unread)))

pub returns-clause-holds : goal.returns-clause-holds
returns-clause-holds g c = λ size.
    let read = c.in_ok-ending.ensures.read in
    subst (λ (q : Question). JudgedWorthHolds q c.in_ok-worth.worth) c.read_pieces.ensures.study
    (c.in_ok-worth.ensures.holds read.0 (subst (λ (q : Question). IsSize q.size) (sym c.read_pieces.ensures.study) size) (read.2 [] c.requires.unread))
