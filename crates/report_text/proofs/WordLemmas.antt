-- The words of reasons, one after another.
use Rattle.std.proofs.Common.{◌≡◌, refl, sym, ap, ◌∙◌, ℕ, ◌+◌, ◌<◌, length, List, [], ◌∷◌, ◌++◌, drop, slice_get, Option, Some, add-one, append-nil, drop-cons}
use Rattle.std.specs.Prelude.{slice_index}
use Rattle.vocab.specs.declared.kinds.Sort.{Sort}
use Rattle.vocab.specs.Formula.{prefix_of}
use Rattle.vocab.specs.Size.{Extent}
use Rattle.vocab.specs.Study.{Question}
use Rattle.vocab.specs.Titled.{Titled}
use Rattle.vocab.specs.Tree.{Tree, All}
use Rattle.verdicts.specs.Lines.{value_words, sorts_of, title_of}
use Rattle.verdicts.specs.Texts.{value_text, joined_words}
use Rattle.report_text.specs.Pieces.{instance_text, spaced}

-- a blank stands before each word but the first
pub joined_spaced : (word : List ℕ) (words : List (List ℕ)) → joined_words (word ∷ words) ≡ word ++ spaced words
joined_spaced word [] = sym (append-nil word)
joined_spaced word (next ∷ words) = ap (λ rest. word ++ (32 ∷ rest)) (joined_spaced next words)

-- the values from a level on are that of the level and those after it
pub next_value : (study : Question) (size : Extent) (tree : Tree) (s : Sort) (rest : Tree) (values : List ℕ) (level v : ℕ) → study.size ≡ size → tree ≡ All s rest → level < length values → v ≡ slice_index values level
    → spaced (value_words study (prefix_of tree) (drop level values)) ≡ (32 ∷ value_text size s v) ++ spaced (value_words study (prefix_of rest) (drop (level + 1) values))
next_value study size tree s rest values level v same is within at =
    let own : spaced (value_words study (prefix_of tree) (drop level values)) ≡ (32 ∷ value_text study.size s v) ++ spaced (value_words study (prefix_of rest) (drop (level + 1) values)) = rw (is, at, add-one, drop-cons values level 0) refl in
    own ∙ ap (λ (e : Extent). (32 ∷ value_text e s v) ++ spaced (value_words study (prefix_of rest) (drop (level + 1) values))) same

-- an instance of the axiom at a place
pub named_instance : (study : Question) (k : ℕ) (values : List ℕ) (a : Titled) → slice_get study.axioms k ≡ Some a → a.name ++ spaced (value_words study (prefix_of a.sentence) values) ≡ instance_text study k values
named_instance study k values a at =
    sym (ap (λ (found : Option Titled). joined_words (title_of found ∷ value_words study (sorts_of found) values)) at ∙ joined_spaced a.name (value_words study (prefix_of a.sentence) values))
