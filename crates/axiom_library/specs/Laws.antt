-- What holds of each axiom of the library.
use Rattle.std.specs.Prelude.{◌≡◌, ℕ, List, slice_get, Some, IsTrue}
use Rattle.vocab.specs.Name.{is_name}
use Rattle.vocab.specs.NamedTree.{NamedTree}
use Rattle.vocab.specs.declared.kinds.Kind.{Kind}
use Rattle.syntax.specs.Canonical.{canonical_text}
use Rattle.syntax.specs.Sentence.{IsSentence}
use Rattle.axiom_library.specs.Library.{Entry, library, text_under}

-- what a text under a name promises: the name is one, and the text is the canonical one of the sentence that it reads as
pub record IsReadable (name text : List ℕ) : Type 0 where
  pub is_name : IsTrue (is_name name)
  pub tree : NamedTree
  pub reads : IsSentence text tree
  pub canonical : canonical_text tree ≡ text

-- each text that is found under a name is the canonical text of a sentence
abbrev pub TextsAreSentences : Type 0
TextsAreSentences = (kind : Kind) (name text : List ℕ) → text_under kind name ≡ Some text → IsReadable name text

-- each entry of a library is found under its name, so no name stands twice
abbrev pub EntriesAreFound : Type 0
EntriesAreFound = (kind : Kind) (place : ℕ) (e : Entry) → slice_get (library kind) place ≡ Some e → text_under kind e.name ≡ Some e.text
