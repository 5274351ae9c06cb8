-- What holds of all bytes.
use Rattle.std.specs.Prelude.{◌≡◌, ℕ, false, List, filter, None, Some, Result, Ok, IsTrue, codes}
use Rattle.std.specs.List.{list_all}
use Rattle.toml.specs.Data.{Members, get_member}
use Rattle.vocab.specs.Name.{is_name}
use Rattle.vocab.specs.Range.{below}
use Rattle.vocab.specs.Size.{Extent, IsSize, all_ballots, ballot_places, factorial}
use Rattle.vocab.specs.SizeFault.{size_of}
use Rattle.vocab.specs.Study.{Question, IsStudy, HasFewAxioms}
use Rattle.study.specs.declared.drafts.Head.{Head}
use Rattle.study.specs.declared.faults.StudyFault.{StudyFault}
use Rattle.study.specs.declared.faults.StudyFault.TheVariants as fault
use Rattle.study.specs.Ballots.{is_listed, sized}
use Rattle.study.specs.Document.{document_of, absent_of, ballots_of}
use Rattle.study.specs.Reading.{IsStudyOf}
use Rattle.study.specs.Refusing.{refused_as}

-- two answers of the same bytes are the same
abbrev pub ListingsHaveOneAnswer : Type 0
ListingsHaveOneAnswer = (bytes : List ℕ) (a b : Result Question StudyFault) → IsStudyOf bytes a → IsStudyOf bytes b → a ≡ b

-- each study that bytes give is one that the bench takes, at a size, and its axioms have names and are few
abbrev pub AreWhole : Type 0
AreWhole =
    (bytes : List ℕ) (study : Question) → IsStudyOf bytes (Ok study)
    → IsStudy study × IsSize study.size × IsTrue (list_all (λ a. is_name a.name) study.axioms) × HasFewAxioms study

-- what a size has of a document: its ballots are the rankings whose texts are listed, in order, or all where there is no
-- list, and voters may be absent exactly where the document says so
pub record HasBallotsOf (document : Members) (size : Extent) : Type 0 where
  pub listed : (texts : List (List ℕ)) → ballots_of (get_member (codes "ballots") document) ≡ Ok (Some texts)
      → ballot_places size ≡ filter (is_listed size.alternatives texts) (below (factorial size.alternatives))
  pub all : get_member (codes "ballots") document ≡ None → size.ballots ≡ all_ballots size.alternatives
  pub absent : absent_of (get_member (codes "absent") document) ≡ Some size.absent

-- each study that bytes give has the ballots of their document
abbrev pub HaveBallots : Type 0
HaveBallots =
    (bytes : List ℕ) (document : Members) (study : Question) → document_of bytes ≡ Some document → IsStudyOf bytes (Ok study)
    → HasBallotsOf document study.size

-- where a document says nothing of ballots and of absence, the size is that of its numbers, or refused as they are
abbrev pub ArePlain : Type 0
ArePlain =
    (head : Head) → head.ballots ≡ None → head.absent ≡ false
    → sized head ≡ refused_as fault.Size (size_of head.kind head.voters head.alternatives)
