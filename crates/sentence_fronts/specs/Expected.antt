-- What a sentence goes on with, after the lexemes that it begins with.
use Rattle.std.specs.Prelude.{◌≡◌, ℕ, ◌≤◌, Bool, true, false, not, ◌&&◌, ◌||◌, List, [], ◌∷◌, ◌++◌, length, Option, Some, None}
use Rattle.vocab.specs.NamedTree.{NamedTermTree, NamedTermTrees, NamedTree}
use Rattle.vocab.specs.declared.kinds.Sort.{Sort}
use Rattle.syntax.specs.declared.lexemes.Joint.{Joint}
use Rattle.syntax.specs.declared.lexemes.Joint.TheVariants as joint
use Rattle.syntax.specs.declared.lexemes.Lexeme.{Lexeme}
use Rattle.syntax.specs.declared.lexemes.Lexeme.TheVariants as lexeme
use Rattle.syntax.specs.Grammar.{IsFree, IsTerm, IsTerms, IsFormula, IsChain, joint_lexeme, word_of_sort, Reads}
use Rattle.syntax.specs.Lexemes.{Lexes, Starts, is_white_space, starts_without}
use Rattle.sentence_fronts.specs.declared.expected.Symbol.{Symbol}
use Rattle.sentence_fronts.specs.declared.expected.Symbol.TheVariants as symbol
use Rattle.sentence_fronts.specs.declared.lexeme_kinds.LexemeKind.{LexemeKind}
use Rattle.sentence_fronts.specs.declared.lexeme_kinds.LexemeKind.TheVariants as kind
use Rattle.sentence_fronts.specs.LexemeKinds.{kind_of}

-- The lexemes begin with what the symbol stands for, and then comes the rest.
pub data Derives : Symbol → List Lexeme → List Lexeme → Type 0 where
  a_formula : {ls rest : List Lexeme} {f : NamedTree} → IsFormula ls f rest → Derives symbol.Formula ls rest
  name_called : {ls mid rest : List Lexeme} {ts : NamedTermTrees} → IsTerms ls ts mid → Derives symbol.AfterCall mid rest → Derives symbol.AfterName (lexeme.Open ∷ ls) rest
  name_equal : {ls rest : List Lexeme} {t : NamedTermTree} → IsTerm ls t rest → Derives symbol.AfterName (lexeme.Equals ∷ ls) rest
  call_whole : {rest : List Lexeme} → Derives symbol.AfterCall rest rest
  call_equal : {ls rest : List Lexeme} {t : NamedTermTree} → IsTerm ls t rest → Derives symbol.AfterCall (lexeme.Equals ∷ ls) rest
  a_joint : {l : Lexeme} {ls rest : List Lexeme} {f : NamedTree} → (j : Joint) → l ≡ joint_lexeme j → IsChain j ls f rest → Derives symbol.Joint (l ∷ ls) rest
  no_more_ands : {rest : List Lexeme} → Derives symbol.MoreAnds (lexeme.Close ∷ rest) rest
  one_more_and : {ls rest : List Lexeme} {f : NamedTree} → IsChain joint.Both ls f rest → Derives symbol.MoreAnds (lexeme.And ∷ ls) rest
  no_more_ors : {rest : List Lexeme} → Derives symbol.MoreOrs (lexeme.Close ∷ rest) rest
  one_more_or : {ls rest : List Lexeme} {f : NamedTree} → IsChain joint.Either ls f rest → Derives symbol.MoreOrs (lexeme.Or ∷ ls) rest
  a_term : {ls rest : List Lexeme} {t : NamedTermTree} → IsTerm ls t rest → Derives symbol.Term ls rest
  no_call : {rest : List Lexeme} → Derives symbol.MayCall rest rest
  a_call : {ls rest : List Lexeme} {ts : NamedTermTrees} → IsTerms ls ts rest → Derives symbol.MayCall (lexeme.Open ∷ ls) rest
  no_more_terms : {rest : List Lexeme} → Derives symbol.MoreTerms (lexeme.Close ∷ rest) rest
  one_more_term : {ls rest : List Lexeme} {ts : NamedTermTrees} → IsTerms ls ts rest → Derives symbol.MoreTerms (lexeme.Comma ∷ ls) rest
  a_variable : {name : List ℕ} {rest : List Lexeme} → IsFree name → Derives symbol.Variable (lexeme.Word name ∷ rest) rest
  a_sort : {name : List ℕ} {rest : List Lexeme} → (s : Sort) → name ≡ word_of_sort s → Derives symbol.Sort (lexeme.Word name ∷ rest) rest
  a_colon : {rest : List Lexeme} → Derives symbol.Colon (lexeme.Colon ∷ rest) rest
  a_dot : {rest : List Lexeme} → Derives symbol.Dot (lexeme.Dot ∷ rest) rest
  a_close : {rest : List Lexeme} → Derives symbol.Close (lexeme.Close ∷ rest) rest
  an_equals : {rest : List Lexeme} → Derives symbol.Equals (lexeme.Equals ∷ rest) rest

-- The lexemes begin with what the symbols stand for, the last one first, and then comes the rest.
abbrev pub Goes : List Symbol → List Lexeme → List Lexeme → Type 0
Goes [] ls rest = ls ≡ rest
Goes (a ∷ above) ls rest = (mid : List Lexeme) × Goes above ls mid × Derives a mid rest

-- the lexemes are what the symbols of the stack stand for
abbrev pub Completes : List Symbol → List Lexeme → Type 0
Completes stack ls = Goes stack ls []

-- what is expected in place of a symbol after a lexeme of this kind, the next last
abbrev pub expected_after : Symbol → LexemeKind → Option (List Symbol)
expected_after symbol.Formula kind.Quantifier = Some (symbol.Formula ∷ symbol.Dot ∷ symbol.Sort ∷ symbol.Colon ∷ symbol.Variable ∷ [])
expected_after symbol.Formula kind.Not = Some (symbol.Formula ∷ [])
expected_after symbol.Formula kind.Open = Some (symbol.Joint ∷ symbol.Formula ∷ [])
expected_after symbol.Formula kind.Name = Some (symbol.AfterName ∷ [])
expected_after symbol.Formula kind.Sort = Some (symbol.AfterName ∷ [])
expected_after symbol.Formula kind.Voter = Some (symbol.Term ∷ symbol.Equals ∷ [])
expected_after symbol.Formula kind.Alt = Some (symbol.Term ∷ symbol.Equals ∷ [])
expected_after symbol.Formula kind.Ballot = Some (symbol.Term ∷ symbol.Equals ∷ [])
expected_after symbol.AfterName kind.Open = Some (symbol.AfterCall ∷ symbol.MoreTerms ∷ symbol.Term ∷ [])
expected_after symbol.AfterName kind.Equals = Some (symbol.Term ∷ [])
expected_after symbol.AfterCall kind.Equals = Some (symbol.Term ∷ [])
expected_after symbol.Joint kind.And = Some (symbol.MoreAnds ∷ symbol.Formula ∷ [])
expected_after symbol.Joint kind.Or = Some (symbol.MoreOrs ∷ symbol.Formula ∷ [])
expected_after symbol.Joint kind.Implies = Some (symbol.Close ∷ symbol.Formula ∷ [])
expected_after symbol.Joint kind.Same = Some (symbol.Close ∷ symbol.Formula ∷ [])
expected_after symbol.MoreAnds kind.And = Some (symbol.MoreAnds ∷ symbol.Formula ∷ [])
expected_after symbol.MoreAnds kind.Close = Some []
expected_after symbol.MoreOrs kind.Or = Some (symbol.MoreOrs ∷ symbol.Formula ∷ [])
expected_after symbol.MoreOrs kind.Close = Some []
expected_after symbol.Term kind.Name = Some (symbol.MayCall ∷ [])
expected_after symbol.Term kind.Sort = Some (symbol.MayCall ∷ [])
expected_after symbol.Term kind.Voter = Some []
expected_after symbol.Term kind.Alt = Some []
expected_after symbol.Term kind.Ballot = Some []
expected_after symbol.MayCall kind.Open = Some (symbol.MoreTerms ∷ symbol.Term ∷ [])
expected_after symbol.MoreTerms kind.Comma = Some (symbol.MoreTerms ∷ symbol.Term ∷ [])
expected_after symbol.MoreTerms kind.Close = Some []
expected_after symbol.Variable kind.Name = Some []
expected_after symbol.Variable kind.Sort = Some []
expected_after symbol.Sort kind.Sort = Some []
expected_after symbol.Colon kind.Colon = Some []
expected_after symbol.Dot kind.Dot = Some []
expected_after symbol.Close kind.Close = Some []
expected_after symbol.Equals kind.Equals = Some []
expected_after _ _ = None

-- the symbol may stand for no lexeme
abbrev pub may_end : Symbol → Bool
may_end symbol.AfterCall = true
may_end symbol.MayCall = true
may_end _ = false

-- what the symbol stands for may be longer, by a "(" or a "=" after it
abbrev pub may_be_longer : Symbol → Bool
may_be_longer symbol.Formula = true
may_be_longer symbol.AfterName = true
may_be_longer symbol.AfterCall = true
may_be_longer symbol.Term = true
may_be_longer symbol.MayCall = true
may_be_longer _ = false

-- the symbol stands for lexemes of which the first is no "(" and no "="
abbrev pub is_closing : Symbol → Bool
is_closing symbol.Joint = true
is_closing symbol.MoreAnds = true
is_closing symbol.MoreOrs = true
is_closing symbol.MoreTerms = true
is_closing symbol.Close = true
is_closing _ = false

-- Right below each symbol that may be longer stands a closing one, or nothing. Below the first the caller says whether one does.
abbrev pub is_settled_above : Bool → List Symbol → Bool
is_settled_above closing [] = true
is_settled_above closing (a ∷ above) = (not (may_be_longer a) || closing) && is_settled_above (is_closing a) above

-- right below each symbol of the stack that may be longer stands a closing one, or nothing
abbrev pub is_settled : List Symbol → Bool
is_settled stack = is_settled_above true stack

-- no sentence that completes the stack begins with a lexeme of this kind
abbrev pub RefusesKind : List Symbol → LexemeKind → Type 0
RefusesKind stack k = (l : Lexeme) (rest : List Lexeme) → kind_of l ≡ k → Completes stack (l ∷ rest) → ⊥

-- After a lexeme of this kind, what completed one stack completes the other, and if anything did, something does.
pub record Leads (stack : List Symbol) (k : LexemeKind) (new : List Symbol) : Type 0 where
  pub on : (l : Lexeme) (rest : List Lexeme) → kind_of l ≡ k → Completes stack (l ∷ rest) → Completes new rest
  pub back : (l : Lexeme) (rest : List Lexeme) → kind_of l ≡ k → Completes new rest → Completes stack (l ∷ rest)
  pub some : (ls : List Lexeme) → Completes stack ls → (ms : List Lexeme) × Completes new ms
  pub settled : is_settled new ≡ true

-- The stack stands for what the sentences that begin with these lexemes go on with, and there are some.
pub record Expects (before : List Lexeme) (stack : List Symbol) : Type 0 where
  pub on : (rest : List Lexeme) (f : NamedTree) → Reads (before ++ rest) f → Completes stack rest
  pub back : (rest : List Lexeme) → Completes stack rest → (f : NamedTree) × Reads (before ++ rest) f
  pub some : (ls : List Lexeme) × Completes stack ls
  pub settled : is_settled stack ≡ true

-- Some sentence goes along with the text up to this rest, and the stack stands for what it goes on with.
pub record Walks (text : List ℕ) (stack : List Symbol) (rest : List ℕ) : Type 0 where
  pub before : List Lexeme
  pub lexed : (ls : List Lexeme) (end : List ℕ) → Lexes rest ls end → Lexes text (before ++ ls) end
  pub bare : starts_without is_white_space rest ≡ true
  pub expects : Expects before stack
  pub within : length rest ≤ length text

-- With no lexeme there does a sentence go on.
abbrev pub IsStop : List ℕ → List Symbol → Type 0
IsStop rest stack = (l : Lexeme) (more : List ℕ) → Starts rest l more → RefusesKind stack (kind_of l)
