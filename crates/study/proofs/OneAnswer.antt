-- Bytes have one answer.
use Rattle.std.proofs.Common.{◌≡◌, ◌≢◌, ℕ, List, [], ◌∷◌, ◌++◌, Result, Ok, Err, refl, sym, ap, ◌∙◌, subst}
use Rattle.lists.proofs.PlaceLaws.{head_same, tail_same}
use Rattle.vocab.specs.NamedTree.{NamedTree}
use Rattle.vocab.specs.Study.{Question}
use Rattle.syntax.specs.declared.faults.SyntaxFault.{SyntaxFault}
use Rattle.syntax.specs.declared.faults.SyntaxFault.TheVariants as syntax_fault
use Rattle.syntax.specs.Sentence.{IsSentence, IsFault}
use Rattle.syntax.proofs.OneAnswer.{one_answer, same_tree}
use Rattle.axiom_library.specs.Library.{Entry}
use Rattle.study.specs.declared.faults.StudyFault.{StudyFault}
use Rattle.study.specs.declared.faults.StudyFault.TheVariants as fault
use Rattle.study.specs.Document.{document_of}
use Rattle.study.specs.declared.listing.Listing.{Listing}
use Rattle.study.specs.Sentences.{Worded, AreReadAs, study_of}
use Rattle.study.specs.Reading.{listing_in, IsUnread, IsListingAnswer, refused, read, AnswersListing, IsStudyOf}

-- the first of some texts that read reads
head_reads : (e : Entry) (entries : List Entry) (ws : List Worded) → AreReadAs (e ∷ entries) ws → (f : NamedTree) × IsSentence e.text f
head_reads e entries [] r = absurd r
head_reads e entries (w ∷ ws) r = (w.sentence, r.1)

tail_reads : (e : Entry) (entries : List Entry) (ws : List Worded) → AreReadAs (e ∷ entries) ws → (vs : List Worded) × AreReadAs entries vs
tail_reads e entries [] r = absurd r
tail_reads e entries (w ∷ ws) r = (ws, r.2)

-- one of some texts that read reads
inner_reads : (before : List Entry) (e : Entry) (after : List Entry) (ws : List Worded) → AreReadAs (before ++ e ∷ after) ws → (f : NamedTree) × IsSentence e.text f
inner_reads [] e after ws r = head_reads e after ws r
inner_reads (x ∷ before) e after ws r = let (vs, more) = tail_reads x (before ++ e ∷ after) ws r in inner_reads before e after vs more

-- a text that reads has no fault
never_both : (text : List ℕ) (f : NamedTree) (reason : SyntaxFault) → IsSentence text f → IsFault text reason → reason ≢ syntax_fault.NoMemory → ⊥
never_both text f reason reads unread other = let same = one_answer text (Ok f) (Err reason) reads (unread, other) in cc

same_worded : (e : Entry) (w v : Worded) → w.name ≡ e.name → v.name ≡ e.name → IsSentence e.text w.sentence → IsSentence e.text v.sentence → w ≡ v
same_worded e w v a b r s =
    let names : w.name ≡ v.name = a ∙ sym b in
    let trees : w.sentence ≡ v.sentence = same_tree e.text w.sentence v.sentence r.reading s.reading in
    λ k. record { name = names k; sentence = trees k }

-- texts read as one list of sentences
same_sentences : (entries : List Entry) (ws vs : List Worded) → AreReadAs entries ws → AreReadAs entries vs → ws ≡ vs
same_sentences [] [] [] r s = refl
same_sentences [] [] (v ∷ vs) r s = absurd s
same_sentences [] (w ∷ ws) vs r s = absurd r
same_sentences (e ∷ entries) [] vs r s = absurd r
same_sentences (e ∷ entries) (w ∷ ws) [] r s = absurd s
same_sentences (e ∷ entries) (w ∷ ws) (v ∷ vs) r s =
    let first : w ≡ v = same_worded e w v r.0 s.0 r.1 s.1 in
    let rest : ws ≡ vs = same_sentences entries ws vs r.2 s.2 in
    λ k. first k ∷ rest k

-- a text with a fault, for a reason other than want of memory
record HasFault (text : List ℕ) (reason : SyntaxFault) : Type 0 where
  unread : IsFault text reason
  not_memory : reason ≢ syntax_fault.NoMemory

same_reason : (s t : List ℕ) (p q : SyntaxFault) → s ≡ t → HasFault s p → HasFault t q → p ≡ q
same_reason s t p q e a b = let same = one_answer t (Err p) (Err q) (subst (λ text. IsFault text p) e a.unread, a.not_memory) (b.unread, b.not_memory) in cc

-- the first text that does not read is one
first_once : (before later : List Entry) (d e : Entry) (after rest : List Entry) (ws vs : List Worded) (p q : SyntaxFault) → before ++ d ∷ after ≡ later ++ e ∷ rest
    → AreReadAs before ws → AreReadAs later vs → HasFault d.text p → HasFault e.text q → (d.name ≡ e.name) × (p ≡ q)
first_once [] [] d e after rest ws vs p q same r s a b = let one = head_same _ _ _ _ same in (ap (λ x. x.name) one, same_reason d.text e.text p q (ap (λ x. x.text) one) a b)
first_once [] (y ∷ later) d e after rest ws vs p q same r s a b =
    let (f, reads) = head_reads y later vs s in
    absurd (never_both d.text f p (subst (λ x. IsSentence x.text f) (sym (head_same _ _ _ _ same)) reads) a.unread a.not_memory)
first_once (x ∷ before) [] d e after rest ws vs p q same r s a b =
    let (f, reads) = head_reads x before ws r in
    absurd (never_both e.text f q (subst (λ x. IsSentence x.text f) (head_same _ _ _ _ same) reads) b.unread b.not_memory)
first_once (x ∷ before) (y ∷ later) d e after rest ws vs p q same r s a b =
    let (us, front) = tail_reads x before ws r in
    let (ts, back) = tail_reads y later vs s in
    first_once before later d e after rest us ts p q (tail_same _ _ _ _ same) front back a b

read_or_unread : (entries : List Entry) (name : List ℕ) (reason : SyntaxFault) (ws : List Worded) → IsUnread entries name reason → AreReadAs entries ws → ⊥
read_or_unread entries name reason ws u r =
    let (f, reads) = inner_reads u.before (record { name = name; text = u.text }) u.after ws (subst (λ x. AreReadAs x ws) u.listed r) in
    never_both u.text f reason reads u.unread u.not_memory

refused_once : (entries : List Entry) (name other : List ℕ) (p q : SyntaxFault) → IsUnread entries name p → IsUnread entries other q → (name ≡ other) × (p ≡ q)
refused_once entries name other p q u v =
    first_once u.before v.before (record { name = name; text = u.text }) (record { name = other; text = v.text }) u.after v.after u.sentences v.sentences p q (sym u.listed ∙ v.listed) u.read v.read
    (record { unread = u.unread; not_memory = u.not_memory }) (record { unread = v.unread; not_memory = v.not_memory })

-- a listing has at most one answer
pub one_of_listing : (listing : Listing) (a b : Result Question StudyFault) → IsListingAnswer listing a → IsListingAnswer listing b → a ≡ b
one_of_listing listing a b (refused name p u e) (refused other q v d) =
    let (names, reasons) = refused_once listing.axioms name other p q u v in
    let same : fault.Syntax name p ≡ fault.Syntax other q = λ k. fault.Syntax (names k) (reasons k) in
    e ∙ ap Err same ∙ sym d
one_of_listing listing a b (refused name p u e) (read ws r d) = absurd (read_or_unread listing.axioms name p ws u r)
one_of_listing listing a b (read ws r e) (refused name p u d) = absurd (read_or_unread listing.axioms name p ws u r)
one_of_listing listing a b (read ws r e) (read vs s d) = e ∙ ap (study_of listing.size listing.conflicts) (same_sentences listing.axioms ws vs r s) ∙ sym d

one_answered : (listing : Result Listing StudyFault) (a b : Result Question StudyFault) → AnswersListing listing a → AnswersListing listing b → a ≡ b
one_answered (Ok listing) a b h k = one_of_listing listing a b h k
one_answered (Err e) a b h k = h ∙ sym k

-- bytes have at most one answer
pub studies_once : (bytes : List ℕ) (a b : Result Question StudyFault) → IsStudyOf bytes a → IsStudyOf bytes b → a ≡ b
studies_once bytes a b h k = one_answered (listing_in (document_of bytes)) a b h k
