-- What is read is a study.
use Rattle.std.proofs.Common.{◌≡◌, ℕ, List, [], ◌∷◌, length, map, Bool, true, false, not, ◌&&◌, nat_le, if◌then◌else◌, Result, Ok, Err, refl, sym, ap, ◌∙◌, subst, Option, Some, None, arith}
use Rattle.std.proofs.lemmas.Bool.{and_parts, and_from}
use Rattle.std.proofs.lemmas.Str.{is_utf8-from_IsUtf8, IsUtf8-from_is_utf8}
use Rattle.std.specs.List.{list_all, list_any}
use Rattle.std.specs.Str.{IsUtf8, is_utf8, bytes_eq}
use Rattle.toml.specs.Data.{Members}
use Rattle.toml.specs.Parse.{parse_document}
use Rattle.vocab.specs.Formula.{quantifier_depth}
use Rattle.vocab.specs.Limits.{depth, is_within_limits}
use Rattle.vocab.specs.Sorted.{is_askable, is_sorted_if}
use Rattle.vocab.proofs.SwapLaws.{sorted_if_askable}
use Rattle.vocab.specs.Size.{Extent}
use Rattle.vocab.specs.Study as study
use Rattle.vocab.specs.Study.{Question, is_sentence, IsStudy}
use Rattle.vocab.specs.Titled.{Titled}
use Rattle.sorts.specs.Answers.{answer_of}
use Rattle.axiom_library.specs.Library.{Entry}
use Rattle.study.specs.declared.faults.StudyFault.{StudyFault}
use Rattle.study.specs.declared.faults.StudyFault.TheVariants as fault
use Rattle.study.specs.declared.limits.Limit.{Limit}
use Rattle.study.specs.declared.limits.Limit.TheVariants.{Instances, Body, Work}
use Rattle.study.specs.declared.listing.Listing.{Listing}
use Rattle.study.specs.Document.{document_of, draft_of}
use Rattle.study.specs.Listing.{have_own_names, listing_of, IsListing}
use Rattle.study.specs.Reading.{listing_in, IsListingAnswer, refused, AnswersListing}
use Rattle.study.specs.Refusing.{and_then, refused_as}
use Rattle.study.specs.Sentences.{Worded, AreReadAs, resolved_one, resolved_all, told_count, limit_number, count_of, limit_refusal, opened, within}
use Rattle.study.specs.Unresolved.{AreSmall, IsFirstRefused, is_sound}
use Rattle.study.proofs.Listings.{came_from, ok_once, listing_whole}
use Rattle.std.proofs.lemmas.List.{length-map}

-- what reads is small
pub small_from_read : (entries : List Entry) (ws : List Worded) → AreReadAs entries ws → AreSmall ws
small_from_read [] [] r = tt
small_from_read [] (w ∷ ws) r = absurd r
small_from_read (e ∷ entries) [] r = absurd r
small_from_read (e ∷ entries) (w ∷ ws) r = (record { shallow = r.1.shallow; few_quantifiers = r.1.few_variables }, small_from_read entries ws r.2)

-- no two of some names are the same
abbrev are_distinct : List (List ℕ) → Bool
are_distinct [] = true
are_distinct (n ∷ names) = not (list_any (λ m. bytes_eq n m) names) && are_distinct names

any_entry : (n : List ℕ) (entries : List Entry) → list_any (λ e. bytes_eq n e.name) entries ≡ list_any (λ m. bytes_eq n m) (map (λ e. e.name) entries)
any_entry n [] = refl
any_entry n (e ∷ entries) = rw (any_entry n entries) refl

any_axiom : (n : List ℕ) (axioms : List Titled) → list_any (λ a. bytes_eq n a.name) axioms ≡ list_any (λ m. bytes_eq n m) (map (λ a. a.name) axioms)
any_axiom n [] = refl
any_axiom n (a ∷ axioms) = rw (any_axiom n axioms) refl

distinct_entries : (entries : List Entry) → have_own_names entries ≡ are_distinct (map (λ e. e.name) entries)
distinct_entries [] = refl
distinct_entries (e ∷ entries) = rw (any_entry e.name entries, distinct_entries entries) refl

distinct_axioms : (axioms : List Titled) → study.axioms_have_own_names axioms ≡ are_distinct (map (λ a. a.name) axioms)
distinct_axioms [] = refl
distinct_axioms (a ∷ axioms) = rw (any_axiom a.name axioms, distinct_axioms axioms) refl

pub read_names : (entries : List Entry) (ws : List Worded) → AreReadAs entries ws → map (λ w. w.name) ws ≡ map (λ e. e.name) entries
read_names [] [] r = refl
read_names [] (w ∷ ws) r = absurd r
read_names (e ∷ entries) [] r = absurd r
read_names (e ∷ entries) (w ∷ ws) r = rw (r.0, read_names entries ws r.2) refl

resolved_name : (size : Extent) (w : Worded) (a : Titled) → resolved_one size w ≡ Ok a → a.name ≡ w.name
resolved_name size w a e =
    let one = came_from (λ tree. Ok (record { name = w.name; sentence = tree })) (refused_as (fault.Sort w.name) (answer_of size w.sentence)) a e in
    sym (ap (λ x. x.name) (ok_once one.after))

pub resolved_names : (size : Extent) (ws : List Worded) (axioms : List Titled) → resolved_all size ws ≡ Ok axioms → map (λ a. a.name) axioms ≡ map (λ w. w.name) ws
resolved_names size [] axioms e = rw (← ok_once e) refl
resolved_names size (w ∷ ws) axioms e =
    let one = came_from (λ a. and_then (λ axioms. Ok (a ∷ axioms)) (resolved_all size ws)) (resolved_one size w) axioms e in
    let rest = came_from (λ axioms. Ok (one.value ∷ axioms)) (resolved_all size ws) axioms one.after in
    let head = resolved_name size w one.value one.first in
    let tail = resolved_names size ws rest.value rest.first in
    let whole : one.value ∷ rest.value ≡ axioms = ok_once rest.after in
    rw (← whole, head, tail) refl

within_first : (size : Extent) (limit : Limit) (a : Titled) (axioms : List Titled) (b : Bool) → nat_le (count_of size limit a.sentence) (limit_number limit) ≡ b
    → (if b then within size limit axioms else Err (limit_refusal limit a.name (told_count (count_of size limit a.sentence)))) ≡ Ok tt → (b ≡ true) × (within size limit axioms ≡ Ok tt)
within_first size limit a axioms true is e = (refl, e)
within_first size limit a axioms false is e = absurd cc

each_within : (size : Extent) (axioms : List Titled) → list_all (is_sound size) axioms ≡ true → within size Instances axioms ≡ Ok tt → within size Body axioms ≡ Ok tt → within size Work axioms ≡ Ok tt
    → list_all (λ a. is_within_limits size a.sentence) axioms ≡ true
each_within size [] sound instances body work = refl
each_within size (a ∷ axioms) sound instances body work =
    let (first, rest) = and_parts (is_sound size a) (list_all (is_sound size) axioms) sound in
    let (sentence, shallow) = and_parts (is_sorted_if true size [] a.sentence && nat_le (quantifier_depth a.sentence) 12) (nat_le (depth a.sentence) 64) first in
    let (i, more_i) = within_first size Instances a axioms _ refl instances in
    let (b, more_b) = within_first size Body a axioms _ refl body in
    let (w, more_w) = within_first size Work a axioms _ refl work in
    and_from _ _ (and_from _ _ (and_from _ _ (and_from _ _ shallow i) b) w) (each_within size axioms rest more_i more_b more_w)

opened_first : (size : Extent) (a : Titled) (axioms : List Titled) (b : Bool) → is_askable size a.sentence ≡ b → (if b then opened size axioms else Err (fault.Open a.name)) ≡ Ok tt → (b ≡ true) × (opened size axioms ≡ Ok tt)
opened_first size a axioms true is e = (refl, e)
opened_first size a axioms false is e = absurd cc

each_sentence : (size : Extent) (axioms : List Titled) → list_all (is_sound size) axioms ≡ true → opened size axioms ≡ Ok tt → list_all (is_sentence size) axioms ≡ true
each_sentence size [] sound open_to = refl
each_sentence size (a ∷ axioms) sound open_to =
    let (first, rest) = and_parts (is_sound size a) (list_all (is_sound size) axioms) sound in
    let (sentence, shallow) = and_parts (is_sorted_if true size [] a.sentence && nat_le (quantifier_depth a.sentence) 12) (nat_le (depth a.sentence) 64) first in
    let (sorted, few) = and_parts (is_sorted_if true size [] a.sentence) (nat_le (quantifier_depth a.sentence) 12) sentence in
    let (asked, more) = opened_first size a axioms _ refl open_to in
    and_from _ _ (and_from _ _ (sorted_if_askable size [] a.sentence sorted asked) few) (each_sentence size axioms rest more)

-- there is an axiom for each name that is listed
pub axioms_listed : (listing : Listing) (ws : List Worded) (axioms : List Titled) → AreReadAs listing.axioms ws → resolved_all listing.size ws ≡ Ok axioms → length listing.axioms ≡ length axioms
axioms_listed listing ws axioms r resolved =
    let names : map (λ a. a.name) axioms ≡ map (λ e. e.name) listing.axioms = resolved_names listing.size ws axioms resolved ∙ read_names listing.axioms ws r in
    sym (length-map listing.axioms (λ e. e.name)) ∙ ap length (sym names) ∙ length-map axioms (λ a. a.name)

-- a listing whose texts read, resolve and are within the limits makes a study
pub whole_study : (listing : Listing) (ws : List Worded) (axioms : List Titled) → IsListing listing → AreReadAs listing.axioms ws → resolved_all listing.size ws ≡ Ok axioms → list_all (is_sound listing.size) axioms ≡ true → opened listing.size axioms ≡ Ok tt
    → within listing.size Instances axioms ≡ Ok tt → within listing.size Body axioms ≡ Ok tt → within listing.size Work axioms ≡ Ok tt → IsStudy (record { size = listing.size; conflicts = listing.conflicts; axioms = axioms })
whole_study listing ws axioms whole r resolved sound open_to instances body work =
    let names : map (λ a. a.name) axioms ≡ map (λ e. e.name) listing.axioms = resolved_names listing.size ws axioms resolved ∙ read_names listing.axioms ws r in
    record {
      sentences = each_sentence listing.size axioms sound open_to;
      limits = each_within listing.size axioms sound instances body work;
      own_names = distinct_axioms axioms ∙ ap are_distinct names ∙ sym (distinct_entries listing.axioms) ∙ whole.own_names;
      few_axioms = omega (arith, axioms_listed listing ws axioms r resolved, whole.few_axioms);
      some_conflicts = whole.some_conflicts;
      few_conflicts = whole.few_conflicts;
    }

-- bytes that are a document, and bytes that are none
pub document_ok : (bytes : List ℕ) (document : Members) → IsUtf8 bytes → parse_document bytes ≡ Some document → document_of bytes ≡ Some document
document_ok bytes document text parsed = rw (is_utf8-from_IsUtf8 bytes text) parsed

pub bytes_listed : (bytes : List ℕ) (document : Members) → IsUtf8 bytes → parse_document bytes ≡ Some document → listing_in (document_of bytes) ≡ and_then listing_of (refused_as fault.Key (draft_of document))
bytes_listed bytes document text parsed = ap listing_in (document_ok bytes document text parsed)

-- bytes that are no document
pub no_document : (bytes : List ℕ) → (IsUtf8 bytes → parse_document bytes ≡ None) → document_of bytes ≡ None
no_document bytes none = by_test (is_utf8 bytes) refl
  where
    by_test : (b : Bool) → is_utf8 bytes ≡ b → (if b then parse_document bytes else None) ≡ None
    by_test true is = none (IsUtf8-from_is_utf8 bytes is)
    by_test false is = refl

pub bytes_refused : (bytes : List ℕ) → (IsUtf8 bytes → parse_document bytes ≡ None) → listing_in (document_of bytes) ≡ Err fault.Toml
bytes_refused bytes none = ap listing_in (no_document bytes none)

-- what bytes list is a listing
pub listing_in_whole : (document : Option Members) (listing : Listing) → listing_in document ≡ Ok listing → IsListing listing
listing_in_whole None listing e = absurd cc
listing_in_whole (Some document) listing e =
    let one = came_from listing_of (refused_as fault.Key (draft_of document)) listing e in
    listing_whole one.value listing one.after

-- an answer of a listing is one of bytes that list so
pub answered : (right : Result Listing StudyFault) (listing : Listing) (answer : Result Question StudyFault) → right ≡ Ok listing → IsListingAnswer listing answer → AnswersListing right answer
answered right listing answer e h = subst (λ r. AnswersListing r answer) (sym e) h

-- an answer of a listing: the first text that does not read, or the study of what all read as
pub first_refused : (listing : Listing) (refusal : StudyFault) → IsFirstRefused listing.axioms refusal → IsListingAnswer listing (Err refusal)
first_refused listing refusal first = refused first.name first.reason first.unread (ap Err first.told)
