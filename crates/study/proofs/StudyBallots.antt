-- The ballots of a study that bytes give.
use Rattle.std.proofs.Common.{◌≡◌, refl, sym, ◌∙◌, ap, subst, [], Some, Result, Ok, Err, codes}
use Rattle.std.specs.Option.{ok_or}
use Rattle.toml.specs.Data.{Members, get_member}
use Rattle.vocab.specs.Size.{Extent}
use Rattle.vocab.specs.Study.{Question}
use Rattle.study.specs.declared.drafts.Draft.{Draft}
use Rattle.study.specs.declared.drafts.Head.{Head}
use Rattle.study.specs.declared.faults.StudyFault.{StudyFault}
use Rattle.study.specs.declared.faults.StudyFault.TheVariants as fault
use Rattle.study.specs.declared.listing.Listing.{Listing}
use Rattle.study.specs.Ballots.{sized}
use Rattle.study.specs.Document.{document_kind, integer_of, absent_of, conflicts_of, ballots_of, axioms_of, sentences_of, known_keys, head_of, draft_of}
use Rattle.study.specs.Laws.{HasBallotsOf, HaveBallots}
use Rattle.study.specs.Listing.{limit_of, few_of, listed, once, listing_of}
use Rattle.study.specs.Reading.{AnswersListing, listing_in}
use Rattle.study.specs.Refusing.{refused_as}
use Rattle.study.proofs.Listings.{came_from, known, ok_once}
use Rattle.study.proofs.AnswerSizes.{answer_size, some_value}
use Rattle.study.proofs.StudySizes.{all_places, listed_places, sized_by}

-- a head says what the two keys say
record SaysOf (document : Members) (head : Head) : Type 0 where
  ballots : ballots_of (get_member (codes "ballots") document) ≡ Ok head.ballots
  absent : absent_of (get_member (codes "absent") document) ≡ Some head.absent

head_says : (document : Members) (h : Head) → head_of document ≡ Ok h → SaysOf document h
unfolding head_of
head_says document h e =
    let kind = came_from _ (ok_or (document_kind (get_member (codes "kind") document)) (codes "kind")) h e in
    let voters = came_from _ (ok_or (integer_of (get_member (codes "voters") document)) (codes "voters")) h kind.after in
    let alternatives = came_from _ (ok_or (integer_of (get_member (codes "alternatives") document)) (codes "alternatives")) h voters.after in
    let ballots = came_from _ (ballots_of (get_member (codes "ballots") document)) h alternatives.after in
    let absent = came_from _ (ok_or (absent_of (get_member (codes "absent") document)) (codes "absent")) h ballots.after in
    let conflicts = came_from _ (ok_or (conflicts_of (get_member (codes "conflicts") document)) (codes "conflicts")) h absent.after in
    subst (SaysOf document) (ok_once conflicts.after) (record { ballots = ballots.first; absent = some_value _ _ absent.value absent.first })

draft_says : (document : Members) (d : Draft) → draft_of document ≡ Ok d → SaysOf document d.head
unfolding draft_of
draft_says document d e =
    let head = came_from _ (head_of document) d e in
    let axioms = came_from _ (ok_or (axioms_of (get_member (codes "axioms") document)) (codes "axioms")) d head.after in
    let sentences = came_from _ (sentences_of (get_member (codes "sentences") document)) d axioms.after in
    let others = came_from _ (known_keys document) d sentences.after in
    subst (λ (x : Draft). SaysOf document x.head) (ok_once others.after) (head_says document head.value head.first)

listing_sized : (draft : Draft) (listing : Listing) → listing_of draft ≡ Ok listing → sized draft.head ≡ Ok listing.size
unfolding listing_of
listing_sized draft listing e =
    let size = came_from _ (sized draft.head) listing e in
    let limit = came_from _ (limit_of draft.head.conflicts) listing size.after in
    let few = came_from _ (few_of draft.axioms) listing limit.after in
    let entries = came_from _ (listed draft.head.kind draft.sentences draft.axioms) listing few.after in
    let alone = came_from _ (once draft.head.kind draft.sentences [] entries.value) listing entries.after in
    size.first ∙ ap (λ (x : Listing). Ok x.size) (ok_once alone.after)

-- a size that is made of a head has the ballots of its document
size_has : (document : Members) (head : Head) (size : Extent) → SaysOf document head → sized head ≡ Ok size → HasBallotsOf document size
size_has document head size says e = record {
  listed = λ texts is. listed_places head texts size (ok_once (sym says.ballots ∙ is)) e;
  all = λ none. all_places head size (ok_once (sym says.ballots ∙ ap ballots_of none)) e;
  absent = says.absent ∙ ap (λ (x : Extent). Some x.absent) (sym (sized_by head size e).same);
}

document_has : (document : Members) (q : Question) → AnswersListing (listing_in (Some document)) (Ok q) → HasBallotsOf document q.size
document_has document q h = cases (listing_in (Some document)) refl h
  where
    cases : (r : Result Listing StudyFault) → listing_in (Some document) ≡ r → AnswersListing r (Ok q) → HasBallotsOf document q.size
    cases (Err e) is given = absurd (cc)
    cases (Ok listing) is given =
        let draft = came_from listing_of (refused_as fault.Key (draft_of document)) listing is in
        let says = draft_says document draft.value (known fault.Key (draft_of document) draft.value draft.first) in
        subst (HasBallotsOf document) (sym (answer_size listing q given)) (size_has document draft.value.head listing.size says (listing_sized draft.value listing draft.after))

-- a study has the ballots of the document that gives it
pub ballots_had : HaveBallots
ballots_had bytes document q is h = document_has document q (subst (λ o. AnswersListing (listing_in o) (Ok q)) is h)
