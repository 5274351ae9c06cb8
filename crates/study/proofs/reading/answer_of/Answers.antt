use Rattle.std.proofs.Common.{sym, map}
use Rattle.study.specs.Reading.{read}
use Rattle.study.specs.Unresolved.{worded_of}
use Rattle.study.proofs.Whole.{first_refused}
use Rattle.study.proofs.reading.answer_of.Goals as goal

pub returns-in-Err-clause-refused : goal.returns-in-Err-clause-refused
returns-in-Err-clause-refused c other = first_refused c.args.listing.now c.in-Err.fault (rw (← c.as_slice.ensures) (c.in-Err.ensures.refused other))

pub returns-in-Ok-study_of-clause-ok : goal.returns-in-Ok-study_of-clause-ok
returns-in-Ok-study_of-clause-ok c =
    read (map worded_of c.in-Ok.sentences) (rw (← c.as_slice.ensures) c.in-Ok.ensures.read) (rw (← c.as_slice-2.ensures) (sym c.in-Ok-study_of.ensures))

pub returns-clause-refused : goal.returns-clause-refused
returns-clause-refused c other =
    read (map worded_of c.in-Ok.sentences) (rw (← c.as_slice.ensures) c.in-Ok.ensures.read) (rw (← c.as_slice-2.ensures) (sym (c.in-Err-study_of.ensures other)))
