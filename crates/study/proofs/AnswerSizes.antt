-- The size of a study that a listing gives.
use Rattle.std.proofs.Common.{◌≡◌, sym, ap, ℕ, List, Option, None, Some, Ok}
use Rattle.std.specs.Option.{ok_or}
use Rattle.vocab.specs.Size.{Extent}
use Rattle.vocab.specs.Study.{Question}
use Rattle.study.specs.declared.limits.Limit.TheVariants.{Instances, Body, Work}
use Rattle.study.specs.declared.listing.Listing.{Listing}
use Rattle.study.specs.Reading.{IsListingAnswer, refused, read}
use Rattle.study.specs.Sentences.{Worded, resolved_all, opened, within, study_of}
use Rattle.study.proofs.Listings.{came_from, ok_once}

pub some_value : {A E : Type 0} (o : Option A) (e : E) (x : A) → ok_or o e ≡ Ok x → o ≡ Some x
some_value None e x h = absurd (cc)
some_value (Some y) e x h = let same : y ≡ x = cc in ap Some same

study_size : (size : Extent) (conflicts : ℕ) (sentences : List Worded) (q : Question) → study_of size conflicts sentences ≡ Ok q → q.size ≡ size
unfolding study_of
study_size size conflicts sentences q e =
    let axioms = came_from _ (resolved_all size sentences) q e in
    let open_to = came_from _ (opened size axioms.value) q axioms.after in
    let instances = came_from _ (within size Instances axioms.value) q open_to.after in
    let body = came_from _ (within size Body axioms.value) q instances.after in
    let work = came_from _ (within size Work axioms.value) q body.after in
    ap (λ (x : Question). x.size) (sym (ok_once work.after))

-- what a listing gives is over its size
pub answer_size : (listing : Listing) (q : Question) → IsListingAnswer listing (Ok q) → q.size ≡ listing.size
answer_size listing q (refused name reason unread e) = absurd (cc)
answer_size listing q (read sentences all e) = study_size listing.size listing.conflicts sentences q (sym e)
