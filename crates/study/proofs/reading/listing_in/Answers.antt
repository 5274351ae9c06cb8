use Rattle.std.proofs.Common.{ap, ◌∙◌}
use Rattle.study.specs.Listing.{listing_of}
use Rattle.study.specs.Refusing.{and_then}
use Rattle.study.proofs.Whole.{bytes_listed}
use Rattle.study.proofs.reading.listing_in.Goals as goal

pub returns-in-Err-draft_of : goal.returns-in-Err-draft_of
returns-in-Err-draft_of c other =
    bytes_listed _ _ c.in-Ok.ensures.ok.0 c.in-Ok.ensures.ok.1 ∙ ap (and_then listing_of) (c.in-Err-draft_of.ensures other)

pub returns-in-Ok-listing_of : goal.returns-in-Ok-listing_of
returns-in-Ok-listing_of c =
    bytes_listed _ _ c.in-Ok.ensures.ok.0 c.in-Ok.ensures.ok.1 ∙ ap (and_then listing_of) c.in-Ok-draft_of.ensures ∙ c.in-Ok-listing_of.ensures

pub returns : goal.returns
returns c other =
    bytes_listed _ _ c.in-Ok.ensures.ok.0 c.in-Ok.ensures.ok.1 ∙ ap (and_then listing_of) c.in-Ok-draft_of.ensures ∙ c.in-Err-listing_of.ensures other
