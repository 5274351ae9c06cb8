-- The grammar of sentences. `IsFormula ls f rest` says that the lexemes ls begin with a spelling of f, and that rest follows it.
use Rattle.std.specs.Prelude.{◌≡◌, ◌≢◌, ℕ, List, [], ◌∷◌, codes}
use Rattle.vocab.specs.NamedTree as tree
use Rattle.vocab.specs.NamedTree.{NamedTermTree, NamedTermTrees, NamedTree}
use Rattle.vocab.specs.declared.kinds.Sort.{Sort}
use Rattle.vocab.specs.declared.kinds.Sort.TheVariants as sort
use Rattle.syntax.specs.declared.lexemes.Joint.{Joint}
use Rattle.syntax.specs.declared.lexemes.Joint.TheVariants as joint
use Rattle.syntax.specs.declared.lexemes.Lexeme.{Lexeme}
use Rattle.syntax.specs.declared.lexemes.Lexeme.TheVariants as lexeme
use Rattle.syntax.specs.declared.lexemes.Quantifier.{Quantifier}
use Rattle.syntax.specs.declared.lexemes.Quantifier.TheVariants as quantifier

-- any name but the two that the grammar quotes before a variable
pub record IsFree (name : List ℕ) : Type 0 where
  pub not_all : name ≢ codes "all"
  pub not_some : name ≢ codes "some"

-- sort = "voter" | "alt" | "ballot" | "profile"
abbrev pub word_of_sort : Sort → List ℕ
word_of_sort sort.Voter = codes "voter"
word_of_sort sort.Alt = codes "alt"
word_of_sort sort.Ballot = codes "ballot"
word_of_sort sort.Profile = codes "profile"

-- "all" | "some"
abbrev pub word_of_quantifier : Quantifier → List ℕ
word_of_quantifier quantifier.All = codes "all"
word_of_quantifier quantifier.Exists = codes "some"

-- the tree of a quantifier, a variable, its sort and a body
abbrev pub bound : Quantifier → List ℕ → Sort → NamedTree → NamedTree
bound quantifier.All = tree.All
bound quantifier.Exists = tree.Exists

mutual
  -- term = name | name "(" term { "," term } ")" | voter constant | alternative constant | ballot constant
  pub data IsTerm : List Lexeme → NamedTermTree → List Lexeme → Type 0 where
    variable : {name : List ℕ} {rest : List Lexeme} → IsFree name → IsTerm (lexeme.Word name ∷ rest) (tree.Var name) rest
    call : {name : List ℕ} {ls rest : List Lexeme} {ts : NamedTermTrees} → IsFree name → IsTerms ls ts rest → IsTerm (lexeme.Word name ∷ lexeme.Open ∷ ls) (tree.Call name ts) rest
    voter : {n : ℕ} {rest : List Lexeme} → IsTerm (lexeme.Voter n ∷ rest) (tree.Voter n) rest
    alternative : {n : ℕ} {rest : List Lexeme} → IsTerm (lexeme.Alt n ∷ rest) (tree.Alt n) rest
    ballot : {name : List ℕ} {rest : List Lexeme} → IsTerm (lexeme.Ballot name ∷ rest) (tree.Ballot name) rest

  -- term { "," term } ")"
  pub data IsTerms : List Lexeme → NamedTermTrees → List Lexeme → Type 0 where
    last_term : {ls rest : List Lexeme} {t : NamedTermTree} → IsTerm ls t (lexeme.Close ∷ rest) → IsTerms ls (tree.Argument t tree.NoArguments) rest
    more_terms : {ls ms rest : List Lexeme} {t : NamedTermTree} {ts : NamedTermTrees} → IsTerm ls t (lexeme.Comma ∷ ms) → IsTerms ms ts rest → IsTerms ls (tree.Argument t ts) rest

-- what stands between the parts of a group
abbrev pub joint_lexeme : Joint → Lexeme
joint_lexeme joint.Both = lexeme.And
joint_lexeme joint.Either = lexeme.Or
joint_lexeme joint.Implies = lexeme.Implies
joint_lexeme joint.Same = lexeme.Same

-- the tree of two parts
abbrev pub joined_by : Joint → NamedTree → NamedTree → NamedTree
joined_by joint.Both = tree.Both
joined_by joint.Either = tree.Either
joined_by joint.Implies = tree.Implies
joined_by joint.Same = tree.Same

-- the joints that may stand between more than two formulas
pub data Chains : Joint → Type 0 where
  ands : Chains joint.Both
  ors : Chains joint.Either

-- atom = name "(" term { "," term } ")" | term "=" term
pub data IsAtom : List Lexeme → NamedTree → List Lexeme → Type 0 where
  pred : {name : List ℕ} {ls rest : List Lexeme} {ts : NamedTermTrees} → IsFree name → IsTerms ls ts rest → IsAtom (lexeme.Word name ∷ lexeme.Open ∷ ls) (tree.Pred name ts) rest
  equal : {ls ms rest : List Lexeme} {s t : NamedTermTree} → IsTerm ls s (lexeme.Equals ∷ ms) → IsTerm ms t rest → IsAtom ls (tree.Equal s t) rest

mutual
  -- formula = ("all" | "some") name ":" sort "." formula | "!" formula | "(" formula joint ... ")" | atom
  pub data IsFormula : List Lexeme → NamedTree → List Lexeme → Type 0 where
    quantified : {word name sort_word : List ℕ} {ls rest : List Lexeme} {f : NamedTree} → (q : Quantifier) (s : Sort) → word ≡ word_of_quantifier q → IsFree name → sort_word ≡ word_of_sort s → IsFormula ls f rest
        → IsFormula (lexeme.Word word ∷ lexeme.Word name ∷ lexeme.Colon ∷ lexeme.Word sort_word ∷ lexeme.Dot ∷ ls) (bound q name s f) rest
    negation : {ls rest : List Lexeme} {f : NamedTree} → IsFormula ls f rest → IsFormula (lexeme.Not ∷ ls) (tree.Not f) rest
    group : {ls ms rest : List Lexeme} {f g : NamedTree} → (j : Joint) → IsFormula ls f (joint_lexeme j ∷ ms) → IsChain j ms g rest → IsFormula (lexeme.Open ∷ ls) (joined_by j f g) rest
    atom : {ls rest : List Lexeme} {f : NamedTree} → IsAtom ls f rest → IsFormula ls f rest

  -- What follows a joint in a group: a formula and ")", or for `&` and `|` a formula, the joint again and what follows that.
  pub data IsChain : Joint → List Lexeme → NamedTree → List Lexeme → Type 0 where
    last_part : {j : Joint} {ls rest : List Lexeme} {f : NamedTree} → IsFormula ls f (lexeme.Close ∷ rest) → IsChain j ls f rest
    more_parts : {j : Joint} {ls ms rest : List Lexeme} {f g : NamedTree} → Chains j → IsFormula ls f (joint_lexeme j ∷ ms) → IsChain j ms g rest → IsChain j ls (joined_by j f g) rest

-- the lexemes are a sentence, and this is its tree
abbrev pub Reads : List Lexeme → NamedTree → Type 0
Reads ls f = IsFormula ls f []
