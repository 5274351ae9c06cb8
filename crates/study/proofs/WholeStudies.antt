-- Each study that bytes give is whole.
use Rattle.std.proofs.Common.{◌≡◌, ◌≤◌, ℕ, List, [], Option, None, Some, Result, Ok, Err, IsTrue, map, refl, sym, ap, ◌∙◌, subst}
use Rattle.std.specs.List.{list_all}
use Rattle.toml.specs.Data.{Members}
use Rattle.vocab.specs.Name.{is_name}
use Rattle.vocab.specs.Size.{Extent, IsSize}
use Rattle.vocab.specs.Study.{Question, IsStudy, HasFewAxioms}
use Rattle.study.specs.declared.drafts.Draft.{Draft}
use Rattle.study.specs.declared.faults.StudyFault.{StudyFault}
use Rattle.study.specs.declared.faults.StudyFault.TheVariants as fault
use Rattle.study.specs.declared.limits.Limit.TheVariants.{Instances, Body, Work}
use Rattle.study.specs.declared.listing.Listing.{Listing}
use Rattle.study.specs.Document.{document_of, draft_of}
use Rattle.study.specs.Laws.{AreWhole}
use Rattle.study.specs.Ballots.{sized}
use Rattle.study.specs.Listing.{limit_of, few_of, listed, once, listing_of, IsListing}
use Rattle.study.specs.Reading.{AnswersListing, IsListingAnswer, refused, read, listing_in}
use Rattle.study.specs.Refusing.{refused_as}
use Rattle.study.specs.Sentences.{Worded, AreReadAs, resolved_all, opened, within, study_of}
use Rattle.study.proofs.Listings.{came_from, known, ok_once, listing_whole}
use Rattle.study.proofs.NamedAxioms.{AreNamed, draft_named, listed_named, axioms_named}
use Rattle.study.proofs.SoundAxioms.{sound_all}
use Rattle.study.proofs.StudySizes.{sized_by}
use Rattle.study.proofs.Whole.{small_from_read, read_names, resolved_names, axioms_listed, whole_study}

-- ---- a study has the names of what was listed

study_names : (size : Extent) (conflicts : ℕ) (sentences : List Worded) (q : Question) → study_of size conflicts sentences ≡ Ok q → map (λ a. a.name) q.axioms ≡ map (λ w. w.name) sentences
unfolding study_of
study_names size conflicts sentences q e =
    let axioms = came_from _ (resolved_all size sentences) q e in
    let open_to = came_from _ (opened size axioms.value) q axioms.after in
    let instances = came_from _ (within size Instances axioms.value) q open_to.after in
    let body = came_from _ (within size Body axioms.value) q instances.after in
    let work = came_from _ (within size Work axioms.value) q body.after in
    ap (λ (x : Question). map (λ a. a.name) x.axioms) (sym (ok_once work.after)) ∙ resolved_names size sentences axioms.value axioms.first

pub answer_names : (listing : Listing) (q : Question) → IsListingAnswer listing (Ok q) → map (λ a. a.name) q.axioms ≡ map (λ e. e.name) listing.axioms
answer_names listing q (refused name reason unread e) = absurd (cc)
answer_names listing q (read sentences all e) = study_names listing.size listing.conflicts sentences q (sym e) ∙ read_names listing.axioms sentences all

-- ---- what is listed is whole

-- what holds of each listing that a document gives
record IsNamedListing (listing : Listing) : Type 0 where
  whole : IsListing listing
  size : IsSize listing.size
  named : AreNamed listing.axioms

draft_listing : (draft : Draft) (listing : Listing) → AreNamed draft.sentences → listing_of draft ≡ Ok listing → IsNamedListing listing
unfolding listing_of
draft_listing draft listing own e =
    let size = came_from _ (sized draft.head) listing e in
    let limit = came_from _ (limit_of draft.head.conflicts) listing size.after in
    let few = came_from _ (few_of draft.axioms) listing limit.after in
    let entries = came_from _ (listed draft.head.kind draft.sentences draft.axioms) listing few.after in
    let alone = came_from _ (once draft.head.kind draft.sentences [] entries.value) listing entries.after in
    record {
      whole = listing_whole draft listing e;
      size = subst (λ (x : Listing). IsSize x.size) (ok_once alone.after) (sized_by draft.head size.value size.first).valid;
      named = subst (λ (x : Listing). AreNamed x.axioms) (ok_once alone.after) (listed_named draft.head.kind draft.sentences draft.axioms entries.value own entries.first);
    }

-- what the law says of a study
abbrev IsWhole : Question → Type 0
IsWhole study = IsStudy study × IsSize study.size × IsTrue (list_all (λ a. is_name a.name) study.axioms) × HasFewAxioms study

listing_study : (listing : Listing) (sentences : List Worded) (study : Question) → IsNamedListing listing → AreReadAs listing.axioms sentences → study_of listing.size listing.conflicts sentences ≡ Ok study → IsWhole study
unfolding study_of
listing_study listing sentences study is all e =
    let axioms = came_from _ (resolved_all listing.size sentences) study e in
    let open_to = came_from _ (opened listing.size axioms.value) study axioms.after in
    let instances = came_from _ (within listing.size Instances axioms.value) study open_to.after in
    let body = came_from _ (within listing.size Body axioms.value) study instances.after in
    let work = came_from _ (within listing.size Work axioms.value) study body.after in
    let sound = sound_all listing.size sentences axioms.value (small_from_read listing.axioms sentences all) axioms.first in
    subst IsWhole (ok_once work.after) (
      whole_study listing sentences axioms.value is.whole all axioms.first sound open_to.first instances.first body.first work.first,
      is.size,
      axioms_named listing.axioms axioms.value is.named (resolved_names listing.size sentences axioms.value axioms.first ∙ read_names listing.axioms sentences all),
      subst (λ n. n ≤ 40) (axioms_listed listing sentences axioms.value all axioms.first) is.whole.few_axioms,
    )

answer_study : (listing : Listing) (study : Question) → IsNamedListing listing → IsListingAnswer listing (Ok study) → IsWhole study
answer_study listing study is (refused name reason unread e) = absurd (cc)
answer_study listing study is (read sentences all e) = listing_study listing sentences study is all (sym e)

document_study : (document : Option Members) (study : Question) → AnswersListing (listing_in document) (Ok study) → IsWhole study
document_study None study h = absurd (let e : Ok study ≡ Err fault.Toml = h in cc)
document_study (Some document) study h = cases (listing_in (Some document)) refl h
  where
    cases : (r : Result Listing StudyFault) → listing_in (Some document) ≡ r → AnswersListing r (Ok study) → IsWhole study
    cases (Err e) is given = absurd (cc)
    cases (Ok listing) is given =
        let draft = came_from listing_of (refused_as fault.Key (draft_of document)) listing is in
        let named = draft_named document draft.value (known fault.Key (draft_of document) draft.value draft.first) in
        answer_study listing study (draft_listing draft.value listing named draft.after) given

-- a study is one that the bench takes, at a size, and its axioms have names and are few
pub studies_whole : AreWhole
studies_whole bytes study h = document_study (document_of bytes) study h
