-- What the program's sentences are to a contract, and what is known of each.
use Rattle.std.specs.Prelude.{◌≡◌, ◌≢◌, ℕ, ◌≤◌, Bool, true, ◌&&◌, nat_le, List, [], ◌∷◌}
use Rattle.vocab.specs.NamedDepth.{named_depth, quantifiers}
use Rattle.vocab.specs.NamedView.{named_tree}
use Rattle.vocab.specs.Limits as limits
use Rattle.vocab.specs.Size.{Extent}
use Rattle.vocab.specs.Formula.{quantifier_depth}
use Rattle.vocab.specs.Sorted.{is_sorted_if}
use Rattle.vocab.specs.Titled.{Titled}
use Rattle.syntax.specs.declared.faults.SyntaxFault.{SyntaxFault}
use Rattle.syntax.specs.declared.faults.SyntaxFault.TheVariants as syntax_fault
use Rattle.syntax.specs.Sentence.{IsSentence, IsFault}
use Rattle.axiom_library.specs.Library.{Entry}
use Rattle.study.specs.declared.faults.StudyFault.{StudyFault}
use Rattle.study.specs.declared.faults.StudyFault.TheVariants as fault
use Rattle.study.specs.declared.sentences.Unresolved.{Unresolved}
use Rattle.study.specs.Reading.{IsUnread}
use Rattle.study.specs.Sentences.{Worded}

-- a name and a sentence, without the places in memory where its parts lie
abbrev pub worded_of : Unresolved → Worded
worded_of w = record { name = w.name; sentence = named_tree w.sentence }

-- a text reads as a sentence
pub record IsReadAs (e : Entry) (w : Worded) : Type 0 where
  pub name : w.name ≡ e.name
  pub sentence : IsSentence e.text w.sentence

-- a text is refused
pub record IsTextRefused (e : Entry) (refusal : StudyFault) : Type 0 where
  pub reason : SyntaxFault
  pub unread : IsFault e.text reason
  pub not_memory : reason ≢ syntax_fault.NoMemory
  pub told : refusal ≡ fault.Syntax e.name reason

-- the first text that does not read is refused
pub record IsFirstRefused (entries : List Entry) (refusal : StudyFault) : Type 0 where
  pub name : List ℕ
  pub reason : SyntaxFault
  pub unread : IsUnread entries name reason
  pub told : refusal ≡ fault.Syntax name reason

-- a sentence has depth at most 64, and at most 12 quantifiers on one path
pub record IsSmall (w : Worded) : Type 0 where
  pub shallow : named_depth w.sentence ≤ 64
  pub few_quantifiers : quantifiers w.sentence ≤ 12

-- each of some sentences has
abbrev pub AreSmall : List Worded → Type 0
AreSmall [] = Unit {0}
AreSmall (w ∷ sentences) = IsSmall w × AreSmall sentences

-- an axiom is well sorted, but may exchange alternatives in a profile at every size, has at most 12 quantifiers on one path and depth at most 64
abbrev pub is_sound : Extent → Titled → Bool
is_sound size a = is_sorted_if true size [] a.sentence && nat_le (quantifier_depth a.sentence) 12 && nat_le (limits.depth a.sentence) 64
