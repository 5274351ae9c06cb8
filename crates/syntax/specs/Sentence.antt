-- The sentence of a text, or why it has none.
use Rattle.std.specs.Prelude.{◌≡◌, ◌≢◌, ℕ, ◌≤◌, ◌<◌, List, length, Result, Ok, Err}
use Rattle.vocab.specs.NamedTree.{NamedTree}
use Rattle.syntax.specs.declared.lexemes.Lexeme.{Lexeme}
use Rattle.syntax.specs.declared.faults.SyntaxFault.{SyntaxFault}
use Rattle.syntax.specs.declared.faults.SyntaxFault.TheVariants as fault
use Rattle.syntax.specs.Lexemes.{IsLexed, IsStuck}
use Rattle.vocab.specs.NamedDepth.{named_depth, quantifiers}
use Rattle.syntax.specs.Grammar.{Reads}

-- the text's lexemes, where there are few enough
pub record AreFew (text : List ℕ) (ls : List Lexeme) : Type 0 where
  pub lexed : IsLexed text ls
  pub few : length ls ≤ 600

-- the text reads as this tree, whatever its depth
pub record HasReading (text : List ℕ) (f : NamedTree) : Type 0 where
  pub lexemes : List Lexeme
  pub are : AreFew text lexemes
  pub reads : Reads lexemes f

-- Why a text is no sentence. Each fault comes where those before it do not. Want of memory says nothing of the text.
abbrev pub IsFault : List ℕ → SyntaxFault → Type 0
IsFault text (fault.Lexeme offset) = IsStuck text offset
IsFault text (fault.Long count) = (ls : List Lexeme) × IsLexed text ls × (length ls ≡ count) × (600 < count)
IsFault text fault.NoReading = (ls : List Lexeme) × AreFew text ls × ((f : NamedTree) → Reads ls f → ⊥)
IsFault text fault.Deep = (f : NamedTree) × HasReading text f × (64 < named_depth f)
IsFault text fault.Variables = (f : NamedTree) × HasReading text f × (named_depth f ≤ 64) × (12 < quantifiers f)
IsFault text fault.NoMemory = Unit {0}

-- The text reads as this tree, which is within the limits.
pub record IsSentence (text : List ℕ) (f : NamedTree) : Type 0 where
  pub reading : HasReading text f
  pub shallow : named_depth f ≤ 64
  pub few_variables : quantifiers f ≤ 12

-- the faults of a text's lexemes, and want of memory
abbrev pub IsLexFault : SyntaxFault → Type 0
IsLexFault (fault.Lexeme offset) = Unit {0}
IsLexFault (fault.Long count) = Unit {0}
IsLexFault fault.NoReading = ⊥
IsLexFault fault.Deep = ⊥
IsLexFault fault.Variables = ⊥
IsLexFault fault.NoMemory = Unit {0}

-- what a reader may answer of a text, want of memory aside
abbrev pub IsAnswer : List ℕ → Result NamedTree SyntaxFault → Type 0
IsAnswer text (Ok f) = IsSentence text f
IsAnswer text (Err e) = IsFault text e × (e ≢ fault.NoMemory)
