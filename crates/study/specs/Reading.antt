-- The study that bytes give, or their first refusal.
use Rattle.std.specs.Prelude.{◌≡◌, ◌≢◌, ℕ, List, ◌∷◌, ◌++◌, Option, None, Some, Result, Ok, Err}
use Rattle.toml.specs.Data.{Members}
use Rattle.vocab.specs.Study.{Question}
use Rattle.syntax.specs.declared.faults.SyntaxFault.{SyntaxFault}
use Rattle.syntax.specs.declared.faults.SyntaxFault.TheVariants as syntax_fault
use Rattle.syntax.specs.Sentence.{IsFault}
use Rattle.axiom_library.specs.Library.{Entry}
use Rattle.study.specs.declared.faults.StudyFault.{StudyFault}
use Rattle.study.specs.declared.faults.StudyFault.TheVariants as fault
use Rattle.study.specs.declared.listing.Listing.{Listing}
use Rattle.study.specs.Refusing.{and_then, refused_as}
use Rattle.study.specs.Document.{document_of, draft_of}
use Rattle.study.specs.Listing.{listing_of}
use Rattle.study.specs.Sentences.{Worded, AreReadAs, study_of}

-- what a document that may be missing lists, or its first refusal
abbrev pub listing_in : Option Members → Result Listing StudyFault
listing_in None = Err fault.Toml
listing_in (Some document) = and_then listing_of (refused_as fault.Key (draft_of document))

-- a text does not read, for this reason, and those before it do
pub record IsUnread (entries : List Entry) (name : List ℕ) (reason : SyntaxFault) : Type 0 where
  pub before : List Entry
  pub text : List ℕ
  pub after : List Entry
  pub listed : entries ≡ before ++ record { name = name; text = text } ∷ after
  pub sentences : List Worded
  pub read : AreReadAs before sentences
  pub unread : IsFault text reason
  pub not_memory : reason ≢ syntax_fault.NoMemory

-- what is answered of a listing: the first text that does not read, or what all texts read as
pub data IsListingAnswer (listing : Listing) (answer : Result Question StudyFault) : Type 0 where
  refused : (name : List ℕ) (reason : SyntaxFault) → IsUnread listing.axioms name reason → answer ≡ Err (fault.Syntax name reason) → IsListingAnswer listing answer
  read : (sentences : List Worded) → AreReadAs listing.axioms sentences → answer ≡ study_of listing.size listing.conflicts sentences → IsListingAnswer listing answer

-- what is answered of a listing that may have been refused
abbrev pub AnswersListing : Result Listing StudyFault → Result Question StudyFault → Type 0
AnswersListing (Ok listing) answer = IsListingAnswer listing answer
AnswersListing (Err e) answer = answer ≡ Err e

-- the bytes give this study, or this refusal
abbrev pub IsStudyOf : List ℕ → Result Question StudyFault → Type 0
IsStudyOf bytes answer = AnswersListing (listing_in (document_of bytes)) answer
