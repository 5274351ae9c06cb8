use Rattle.std.proofs.Common.{Ok, Err, sym}
use Rattle.study.proofs.StepLaws.{listing_said}
use Rattle.study.proofs.listing.listing_of.Goals as goal

pub returns-in-Ok : goal.returns-in-Ok
returns-in-Ok c = listing_said c.args.draft.now c.in_ok-size.size c.in_ok-conflicts.conflicts (Ok c.in-Ok.axioms) c.in_ok-size.ensures (sym c.in_ok-conflicts.ensures) (sym c.in_ok-few_of.ensures) c.in-Ok.ensures

pub returns-in-Err : goal.returns-in-Err
returns-in-Err c other = listing_said c.args.draft.now c.in_ok-size.size c.in_ok-conflicts.conflicts (Err c.in-Err.fault) c.in_ok-size.ensures (sym c.in_ok-conflicts.ensures) (sym c.in_ok-few_of.ensures) (c.in-Err.ensures other)
