-- How far some sentence goes along with a text, and what may stand there.
use Rattle.std.specs.Prelude.{◌≡◌, ℕ, ◌+◌, ◌≤◌, true, List, [], ◌∷◌, ◌++◌, length, ◌⊎◌}
use Rattle.vocab.specs.NamedTree.{NamedTree}
use Rattle.syntax.specs.declared.lexemes.Lexeme.{Lexeme}
use Rattle.syntax.specs.Grammar.{Reads}
use Rattle.syntax.specs.Lexemes.{Lexes, is_white_space, starts_without}
use Rattle.sentence_fronts.specs.declared.lexeme_kinds.LexemeKind.{LexemeKind}
use Rattle.sentence_fronts.specs.declared.lexeme_kinds.LexemeKind.TheVariants as kind
use Rattle.sentence_fronts.specs.LexemeKinds.{kind_of, all_kinds}

-- some sentence begins with these lexemes
pub record IsFront (ls : List Lexeme) : Type 0 where
  pub rest : List Lexeme
  pub tree : NamedTree
  pub reads : Reads (ls ++ rest) tree

-- each lexeme of the kind may come next
abbrev pub EachMay : List Lexeme → LexemeKind → Type 0
EachMay before k = (l : Lexeme) → kind_of l ≡ k → IsFront (before ++ l ∷ [])

-- no lexeme of the kind may come next
abbrev pub NoneMay : List Lexeme → LexemeKind → Type 0
NoneMay before k = (l : Lexeme) → kind_of l ≡ k → IsFront (before ++ l ∷ []) → ⊥

-- A kind is told where each lexeme of it may come next, the words of sorts only where no other name may, and the end where a sentence ends.
abbrev pub IsKindTold : List Lexeme → LexemeKind → Type 0
IsKindTold before kind.End = (f : NamedTree) × Reads before f
IsKindTold before kind.Sort = EachMay before kind.Sort × NoneMay before kind.Name
IsKindTold before k = EachMay before k

-- A kind is passed where no lexeme of it may come next, the words of sorts also where each other name may, and the end where no sentence ends.
abbrev pub IsPassed : List Lexeme → LexemeKind → Type 0
IsPassed before kind.End = (f : NamedTree) → Reads before f → ⊥
IsPassed before kind.Sort = NoneMay before kind.Sort ⊎ EachMay before kind.Name
IsPassed before k = NoneMay before k

-- of these kinds those that are told, in their order
pub data TellsKinds (before : List Lexeme) : List LexemeKind → List LexemeKind → Type 0 where
  no_more : TellsKinds before [] []
  told : {k : LexemeKind} {ks ts : List LexemeKind} → IsKindTold before k → TellsKinds before ks ts → TellsKinds before (k ∷ ks) (k ∷ ts)
  passed : {k : LexemeKind} {ks ts : List LexemeKind} → IsPassed before k → TellsKinds before ks ts → TellsKinds before (k ∷ ks) ts

-- Of all lexemes that the text begins with, those before this offset are the most that some sentence begins with; blanks after them stand
-- before the offset too. What may stand there is told.
pub record IsFurthest (text : List ℕ) (offset : ℕ) (next : List LexemeKind) : Type 0 where
  pub before : List Lexeme
  pub rest : List ℕ
  pub lexed : Lexes text before rest
  pub bare : starts_without is_white_space rest ≡ true
  pub place : offset + length rest ≡ length text
  pub front : IsFront before
  pub longest : (ls : List Lexeme) (end : List ℕ) → Lexes text ls end → IsFront ls → length ls ≤ length before
  pub tells : TellsKinds before all_kinds next
