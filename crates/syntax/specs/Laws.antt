-- What holds of all texts of sentences.
use Rattle.std.specs.Prelude.{◌≡◌, ℕ, ◌≤◌, List, length, Result}
use Rattle.vocab.specs.NamedTree.{NamedTree}
use Rattle.syntax.specs.declared.faults.SyntaxFault.{SyntaxFault}
use Rattle.syntax.specs.declared.lexemes.Lexeme.{Lexeme}
use Rattle.syntax.specs.Canonical.{canonical_text}
use Rattle.syntax.specs.Lexemes.{IsLexed}
use Rattle.syntax.specs.Sentence.{HasReading, IsAnswer, IsSentence}

-- two trees that one text reads as are the same
abbrev pub HaveOneReading : Type 0
HaveOneReading = (text : List ℕ) (f g : NamedTree) → HasReading text f → HasReading text g → f ≡ g

-- two answers of one text are the same
abbrev pub HaveOneAnswer : Type 0
HaveOneAnswer = (text : List ℕ) (a b : Result NamedTree SyntaxFault) → IsAnswer text a → IsAnswer text b → a ≡ b

-- the canonical text of what a text reads as reads as the same, where it has few lexemes
abbrev pub AreReadBack : Type 0
AreReadBack = (text : List ℕ) (f : NamedTree) → IsSentence text f → ((ls : List Lexeme) → IsLexed (canonical_text f) ls → length ls ≤ 600) → IsSentence (canonical_text f) f
