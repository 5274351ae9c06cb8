use Rattle.study.proofs.Whole.{listing_in_whole, answered}
use Rattle.study.specs.Document.{document_of}
use Rattle.study.specs.Reading.{listing_in}
use Rattle.study.proofs.reading.read_study.Goals as goal

pub answer_of-requires : goal.answer_of-requires
answer_of-requires c = listing_in_whole (document_of c.args.bytes.now) c.in-Ok.listing c.in-Ok.ensures

pub returns-clause-refused : goal.returns-clause-refused
returns-clause-refused c other =
    answered (listing_in (document_of c.args.bytes.now)) c.in-Ok.listing _ c.in-Ok.ensures (c.in-Err-answer_of.ensures.refused other)
