-- What a parser finds at the front of lexemes.
use Rattle.std.specs.Prelude.{◌≡◌, ℕ, Bool, true, false, List, ◌∷◌}
use Rattle.vocab.specs.NamedTree as tree
use Rattle.vocab.specs.NamedTree.{NamedTermTree, NamedTermTrees, NamedTree}
use Rattle.vocab.specs.declared.kinds.Sort.{Sort}
use Rattle.syntax.specs.declared.lexemes.Joint.{Joint}
use Rattle.syntax.specs.declared.lexemes.Lexeme.{Lexeme}
use Rattle.syntax.specs.declared.lexemes.Lexeme.TheVariants as lexeme
use Rattle.syntax.specs.Grammar.{IsFree, IsTerm, IsTerms, IsAtom, IsFormula, IsChain, word_of_sort}

-- A call is longer than the variable of its name: so a term ends before no "(".
abbrev pub ends_term : List Lexeme → Bool
ends_term (lexeme.Open ∷ _) = false
ends_term _ = true

-- An equality is longer than its left side: so a formula ends before no "(" and no "=".
abbrev pub ends_formula : List Lexeme → Bool
ends_formula (lexeme.Open ∷ _) = false
ends_formula (lexeme.Equals ∷ _) = false
ends_formula _ = true

-- They begin with a spelling of t, before rest, and with no other that ends as a term does.
pub record TermAt (ls : List Lexeme) (t : NamedTermTree) (rest : List Lexeme) : Type 0 where
  pub spelled : IsTerm ls t rest
  pub only : (u : NamedTermTree) (ys : List Lexeme) → IsTerm ls u ys → ends_term ys ≡ true → (u ≡ t) × (ys ≡ rest)

-- They begin with no term that ends as a term does.
abbrev pub NoTerm : List Lexeme → Type 0
NoTerm ls = (t : NamedTermTree) (rest : List Lexeme) → IsTerm ls t rest → ends_term rest ≡ true → ⊥

-- They begin with no list of terms.
abbrev pub NoTerms : List Lexeme → Type 0
NoTerms ls = (ts : NamedTermTrees) (rest : List Lexeme) → IsTerms ls ts rest → ⊥

-- one list of terms after another
abbrev pub before : NamedTermTrees → NamedTermTrees → NamedTermTrees
before tree.NoArguments us = us
before (tree.Argument t ts) us = tree.Argument t (before ts us)

-- They begin with a list of terms, before rest, and these terms went to the end of old.
pub record ListAt (ls : List Lexeme) (old new : NamedTermTrees) (rest : List Lexeme) : Type 0 where
  pub terms : NamedTermTrees
  pub spelled : IsTerms ls terms rest
  pub added : new ≡ before old terms

-- name ":" sort "."
pub record BinderAt (ls : List Lexeme) (name : List ℕ) (s : Sort) (rest : List Lexeme) : Type 0 where
  pub free : IsFree name
  pub spelled : ls ≡ lexeme.Word name ∷ lexeme.Colon ∷ lexeme.Word (word_of_sort s) ∷ lexeme.Dot ∷ rest

-- They begin with no variable and its sort.
abbrev pub NoBinder : List Lexeme → Type 0
NoBinder ls = (name : List ℕ) (s : Sort) (rest : List Lexeme) → BinderAt ls name s rest → ⊥

-- They begin with a spelling of the atom f, before rest, and with no other that ends as a formula does.
pub record AtomAt (ls : List Lexeme) (f : NamedTree) (rest : List Lexeme) : Type 0 where
  pub spelled : IsAtom ls f rest
  pub only : (g : NamedTree) (ys : List Lexeme) → IsAtom ls g ys → ends_formula ys ≡ true → (g ≡ f) × (ys ≡ rest)

-- They begin with no atom that ends as a formula does.
abbrev pub NoAtom : List Lexeme → Type 0
NoAtom ls = (f : NamedTree) (rest : List Lexeme) → IsAtom ls f rest → ends_formula rest ≡ true → ⊥

-- They begin with a spelling of f, before rest, and with no other that ends as a formula does.
pub record FormulaAt (ls : List Lexeme) (f : NamedTree) (rest : List Lexeme) : Type 0 where
  pub spelled : IsFormula ls f rest
  pub only : (g : NamedTree) (ys : List Lexeme) → IsFormula ls g ys → ends_formula ys ≡ true → (g ≡ f) × (ys ≡ rest)

-- They begin with no formula that ends as a formula does.
abbrev pub NoFormula : List Lexeme → Type 0
NoFormula ls = (f : NamedTree) (rest : List Lexeme) → IsFormula ls f rest → ends_formula rest ≡ true → ⊥

-- They begin with nothing that may follow this joint in a group.
abbrev pub NoChain : Joint → List Lexeme → Type 0
NoChain j ls = (f : NamedTree) (rest : List Lexeme) → IsChain j ls f rest → ⊥
