-- Several steps as one.
use Rattle.std.specs.Prelude.{ℕ, List, [], Result, Ok, codes}
use Rattle.toml.specs.Data.{Members, get_member}
use Rattle.vocab.specs.declared.kinds.Kind.{Kind}
use Rattle.vocab.specs.Size.{Extent}
use Rattle.vocab.specs.Titled.{Titled}
use Rattle.axiom_library.specs.Library.{Entry}
use Rattle.study.specs.declared.faults.StudyFault.{StudyFault}
use Rattle.study.specs.declared.limits.Limit.TheVariants.{Instances, Body, Work}
use Rattle.study.specs.Document.{sentences_of, known_keys}
use Rattle.study.specs.Listing.{listed, once}
use Rattle.study.specs.Refusing.{◌>>=◌}
use Rattle.study.specs.Sentences.{opened, within}

-- the sentences of a document without a key that no study has, or its first key that has not its form
abbrev pub last_of : Members → Result (List Entry) (List ℕ)
last_of document = do
  sentences ← sentences_of (get_member (codes "sentences") document)
  _ ← known_keys document
  Ok sentences

-- the axioms of some names, each once, with their texts, or the first refusal
abbrev pub listed_once : Kind → List Entry → List (List ℕ) → Result (List Entry) StudyFault
listed_once kind own names = do
  axioms ← listed kind own names
  _ ← once kind own [] axioms
  Ok axioms

-- no axiom exchanges alternatives where it may not, and none passes a limit; else the first refusal
abbrev pub fitting : Extent → List Titled → Result (Unit {0}) StudyFault
fitting size axioms = do
  _ ← opened size axioms
  _ ← within size Instances axioms
  _ ← within size Body axioms
  within size Work axioms
