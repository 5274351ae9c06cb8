use Rattle.std.proofs.Common.{Ok, Err, ◌∙◌, sym, ap, map}
use Rattle.study.specs.Unresolved.{worded_of}
use Rattle.study.proofs.StepLaws.{study_tested, pass_each}
use Rattle.study.proofs.Whole.{small_from_read, whole_study}
use Rattle.study.proofs.reading.study_of.Goals as goal

pub resolve_all-requires : goal.resolve_all-requires
resolve_all-requires c = small_from_read c.args.listing.now.axioms (map worded_of c.args.sentences.now) c.requires.read

pub new-requires : goal.new-requires
new-requires c =
    let each = pass_each c.args.listing.now.size c.in_ok-axioms.axioms (rw (← c.as_slice.ensures) c.in-Ok.ensures) in
    whole_study c.args.listing.now (map worded_of c.args.sentences.now) c.in_ok-axioms.axioms c.requires.whole c.requires.read c.in_ok-axioms.ensures.gives c.in_ok-axioms.ensures.sentences
    each.open_to each.instances each.body each.work

pub returns-in-Ok : goal.returns-in-Ok
returns-in-Ok c =
    study_tested c.args.listing.now.size c.args.listing.now.conflicts (map worded_of c.args.sentences.now) c.in_ok-axioms.axioms (Ok tt) c.in_ok-axioms.ensures.gives (rw (← c.as_slice.ensures) c.in-Ok.ensures) ∙ sym (ap Ok c.new.ensures)

pub returns-in-Err : goal.returns-in-Err
returns-in-Err c other =
    study_tested c.args.listing.now.size c.args.listing.now.conflicts (map worded_of c.args.sentences.now) c.in_ok-axioms.axioms (Err c.in-Err.fault) c.in_ok-axioms.ensures.gives (rw (← c.as_slice.ensures) (c.in-Err.ensures other))
