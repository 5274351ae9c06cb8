-- Several steps as one give what they give one after the other.
use Rattle.std.proofs.Common.{◌≡◌, ℕ, List, [], Result, Ok, Err, refl, ap, ◌∙◌}
use Rattle.std.specs.Prelude.{codes}
use Rattle.std.specs.Option.{ok_or}
use Rattle.toml.specs.Data.{Members, get_member}
use Rattle.vocab.specs.Size.{Extent}
use Rattle.vocab.specs.Study.{Question}
use Rattle.vocab.specs.Titled.{Titled}
use Rattle.axiom_library.specs.Library.{Entry}
use Rattle.study.specs.declared.drafts.Draft.{Draft}
use Rattle.study.specs.declared.drafts.Head.{Head}
use Rattle.study.specs.declared.faults.StudyFault.{StudyFault}
use Rattle.study.specs.declared.faults.StudyFault.TheVariants as fault
use Rattle.study.specs.declared.limits.Limit.TheVariants.{Instances, Body, Work}
use Rattle.study.specs.declared.listing.Listing.{Listing}
use Rattle.study.specs.Ballots.{sized}
use Rattle.study.specs.Document.{axioms_of, sentences_of, known_keys, head_of, draft_of}
use Rattle.study.specs.Listing.{limit_of, few_of, listed, once, listing_of}
use Rattle.study.specs.Refusing.{and_then, refused_as, ◌>>=◌}
use Rattle.study.specs.Sentences.{Worded, resolved_all, opened, within, study_of}
use Rattle.study.specs.Steps.{last_of, listed_once, fitting}
use Rattle.study.proofs.Listings.{came_from, known}

-- four tests, and what follows them
four_tests : (study : Result Question StudyFault) (a b c d : Result (Unit {0}) StudyFault)
    → (a >>= (λ _. b >>= (λ _. c >>= (λ _. d >>= (λ _. study))))) ≡ and_then (λ _. study) (a >>= (λ _. b >>= (λ _. c >>= (λ _. d))))
four_tests study (Err e) b c d = refl
four_tests study (Ok t) (Err e) c d = refl
four_tests study (Ok t) (Ok u) (Err e) d = refl
four_tests study (Ok t) (Ok u) (Ok v) (Err e) = refl
four_tests study (Ok t) (Ok u) (Ok v) (Ok w) = refl

-- the study of sentences that are axioms of the size, after their tests
pub study_tested : (size : Extent) (conflicts : ℕ) (sentences : List Worded) (axioms : List Titled) (tested : Result (Unit {0}) StudyFault) → resolved_all size sentences ≡ Ok axioms → fitting size axioms ≡ tested
    → study_of size conflicts sentences ≡ and_then (λ _. Ok (record { size = size; conflicts = conflicts; axioms = axioms })) tested
unfolding study_of
study_tested size conflicts sentences axioms tested resolved test =
    let study : Result Question StudyFault = Ok (record { size = size; conflicts = conflicts; axioms = axioms }) in
    rw resolved (four_tests study (opened size axioms) (within size Instances axioms) (within size Body axioms) (within size Work axioms)) ∙ ap (and_then (λ _. study)) test

-- each test, of axioms that pass all
pub record PassEach (size : Extent) (axioms : List Titled) : Type 0 where
  pub open_to : opened size axioms ≡ Ok tt
  pub instances : within size Instances axioms ≡ Ok tt
  pub body : within size Body axioms ≡ Ok tt
  pub work : within size Work axioms ≡ Ok tt

pub pass_each : (size : Extent) (axioms : List Titled) → fitting size axioms ≡ Ok tt → PassEach size axioms
pass_each size axioms e =
    let open_to = came_from _ (opened size axioms) tt e in
    let instances = came_from _ (within size Instances axioms) tt open_to.after in
    let body = came_from _ (within size Body axioms) tt instances.after in
    record { open_to = open_to.first; instances = instances.first; body = body.first; work = body.after }

-- ---- a listing

once_after : {A B : Type 0} (f : A → Result B StudyFault) (test : A → Result (Unit {0}) StudyFault) (found : Result A StudyFault)
    → (found >>= (λ x. test x >>= (λ _. f x))) ≡ and_then f (found >>= (λ x. test x >>= (λ _. Ok x)))
once_after f test (Err e) = refl
once_after f test (Ok x) = by (test x)
  where
    by : (r : Result (Unit {0}) StudyFault) → and_then (λ _. f x) r ≡ and_then f (and_then (λ _. Ok x) r)
    by (Err e) = refl
    by (Ok u) = refl

-- what a draft lists of a size, a limit and few axioms: the first refusal of an axiom, or all of it
pub listing_said : (draft : Draft) (size : Extent) (conflicts : ℕ) (axioms : Result (List Entry) StudyFault) → sized draft.head ≡ Ok size → limit_of draft.head.conflicts ≡ Ok conflicts → few_of draft.axioms ≡ Ok tt
    → listed_once draft.head.kind draft.sentences draft.axioms ≡ axioms → listing_of draft ≡ and_then (λ axioms. Ok (record { size = size; conflicts = conflicts; axioms = axioms })) axioms
unfolding listing_of
listing_said draft size conflicts axioms s l f h =
    let given : List Entry → Result Listing StudyFault = λ axioms. Ok (record { size = size; conflicts = conflicts; axioms = axioms }) in
    rw (s, l, f) (once_after given (once draft.head.kind draft.sentences []) (listed draft.head.kind draft.sentences draft.axioms)) ∙ ap (and_then given) h

-- ---- a document

known_after : {A B : Type 0} (f : A → Result B (List ℕ)) (found : Result A (List ℕ)) (keys : Result (Unit {0}) (List ℕ))
    → (found >>= (λ x. keys >>= (λ _. f x))) ≡ and_then f (found >>= (λ x. keys >>= (λ _. Ok x)))
known_after f (Err e) keys = refl
known_after f (Ok x) (Err e) = refl
known_after f (Ok x) (Ok u) = refl

-- what a document says of its head, of the names of its axioms, and of the rest: the first refusal, or all of it
abbrev said : Result Head (List ℕ) → Result (List (List ℕ)) (List ℕ) → Result (List Entry) (List ℕ) → Result Draft (List ℕ)
said head axioms sentences = head >>= (λ h. axioms >>= (λ a. sentences >>= (λ s. Ok (record { head = h; axioms = a; sentences = s }))))

abbrev pub names_of : Members → Result (List (List ℕ)) (List ℕ)
names_of document = ok_or (axioms_of (get_member (codes "axioms") document)) (codes "axioms")

draft_in_steps : (document : Members) → draft_of document ≡ said (head_of document) (names_of document) (last_of document)
unfolding draft_of
draft_in_steps document = by (head_of document) (names_of document)
  where
    by : (head : Result Head (List ℕ)) (names : Result (List (List ℕ)) (List ℕ))
        → (head >>= (λ h. names >>= (λ a. sentences_of (get_member (codes "sentences") document) >>= (λ s. known_keys document >>= (λ _. Ok (record { head = h; axioms = a; sentences = s })))))) ≡ said head names (last_of document)
    by (Err e) names = refl
    by (Ok h) (Err e) = refl
    by (Ok h) (Ok a) = known_after (λ s. Ok (record { head = h; axioms = a; sentences = s })) (sentences_of (get_member (codes "sentences") document)) (known_keys document)

module _ (document : Members) where
  pub head_refused : (refusal : StudyFault) → refused_as fault.Key (head_of document) ≡ Err refusal → refused_as fault.Key (draft_of document) ≡ Err refusal
  head_refused refusal e = ap (refused_as fault.Key) (draft_in_steps document) ∙ by (head_of document) e
    where
      by : (head : Result Head (List ℕ)) → refused_as fault.Key head ≡ Err refusal → refused_as fault.Key (said head (names_of document) (last_of document)) ≡ Err refusal
      by (Err key) h = cc
      by (Ok head) h = absurd (let no : ⊥ = cc in no)

  pub names_refused : (head : Head) (refusal : StudyFault) → refused_as fault.Key (head_of document) ≡ Ok head → refused_as fault.Key (names_of document) ≡ Err refusal → refused_as fault.Key (draft_of document) ≡ Err refusal
  names_refused head refusal first e = ap (refused_as fault.Key) (draft_in_steps document ∙ ap (λ h. said h (names_of document) (last_of document)) (known fault.Key (head_of document) head first)) ∙ by (names_of document) e
    where
      by : (names : Result (List (List ℕ)) (List ℕ)) → refused_as fault.Key names ≡ Err refusal → refused_as fault.Key (said (Ok head) names (last_of document)) ≡ Err refusal
      by (Err key) h = cc
      by (Ok names) h = absurd (let no : ⊥ = cc in no)

  pub rest_said : (head : Head) (axioms : List (List ℕ)) (rest : Result (List Entry) StudyFault) → refused_as fault.Key (head_of document) ≡ Ok head → refused_as fault.Key (names_of document) ≡ Ok axioms
      → refused_as fault.Key (last_of document) ≡ rest → refused_as fault.Key (draft_of document) ≡ and_then (λ s. Ok (record { head = head; axioms = axioms; sentences = s })) rest
  rest_said head axioms rest first second e =
      ap (refused_as fault.Key) (draft_in_steps document ∙ ap (λ h. said h (names_of document) (last_of document)) (known fault.Key (head_of document) head first) ∙ ap (λ n. said (Ok head) n (last_of document)) (known fault.Key (names_of document) axioms second))
      ∙ by (last_of document) ∙ ap (and_then (λ s. Ok (record { head = head; axioms = axioms; sentences = s }))) e
    where
      by : (sentences : Result (List Entry) (List ℕ)) → refused_as fault.Key (said (Ok head) (Ok axioms) sentences) ≡ and_then (λ s. Ok (record { head = head; axioms = axioms; sentences = s })) (refused_as fault.Key sentences)
      by (Err key) = refl
      by (Ok s) = refl
