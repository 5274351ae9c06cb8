use Rattle.std.proofs.Common.{rules, sym, subst, Ok, Err}
use Rattle.study.specs.Listing.{IsListing}
use Rattle.study.specs.Reading.{IsListingAnswer}
use Rattle.samples.proofs.NumberLemmas.{sample_whole, sample_not_refused}
use Rattle.samples.proofs.numbers.sample.Goals as goal

pub answer_of-requires : goal.answer_of-requires
answer_of-requires c = subst IsListing (sym c.in_ok-listing.ensures) (sample_whole c.args.number)

pub returns-in-Ok : goal.returns-in-Ok
returns-in-Ok c = subst (λ listing. IsListingAnswer listing (Ok c.in-Ok.study)) c.in_ok-listing.ensures c.in-Ok.ensures.ok

pub unreachable-requires : goal.unreachable-requires
unreachable-requires c =
    sample_not_refused c.args.number c.in-Err.field-0
    (subst (λ listing. IsListingAnswer listing (Err c.in-Err.field-0)) c.in_ok-listing.ensures (c.in-Err.ensures.refused (λ e. search rules)))
