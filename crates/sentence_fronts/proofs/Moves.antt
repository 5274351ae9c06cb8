-- What a symbol goes on with after a lexeme.
use Rattle.std.proofs.Common.{◌≡◌, ℕ, true, List, [], ◌∷◌, refl, sym, ap, subst, Some}
use Rattle.vocab.specs.NamedTree.{NamedTermTree, NamedTermTrees, NamedTree}
use Rattle.syntax.specs.declared.lexemes.Joint.{Joint}
use Rattle.syntax.specs.declared.lexemes.Joint.TheVariants as joint
use Rattle.syntax.specs.declared.lexemes.Lexeme.{Lexeme}
use Rattle.syntax.specs.declared.lexemes.Lexeme.TheVariants as lexeme
use Rattle.syntax.specs.Grammar.{IsFree, IsTerm, variable, call, voter, alternative, ballot, IsTerms, last_term, more_terms, IsAtom, pred, equal, IsFormula, quantified, negation, group, atom, IsChain, last_part, more_parts, joint_lexeme}
use Rattle.sentence_fronts.specs.declared.expected.Symbol.{Symbol}
use Rattle.sentence_fronts.specs.declared.expected.Symbol.TheVariants as symbol
use Rattle.sentence_fronts.specs.LexemeKinds.{kind_of, word_kind}
use Rattle.sentence_fronts.specs.Expected.{Derives, a_formula, name_called, name_equal, call_whole, call_equal, a_joint, no_more_ands, one_more_and, no_more_ors, one_more_or, a_term, no_call, a_call, no_more_terms, one_more_term, a_variable, a_sort, a_colon, a_dot, a_close, an_equals, Goes, expected_after, may_end}
use Rattle.sentence_fronts.proofs.Words.{free_kind, sort_kind, quantifier_kind}

-- A lexeme that begins what a symbol stands for begins what is expected after it, or else the symbol stands for no lexeme.
pub data Ahead (a : Symbol) (l : Lexeme) (ls rest : List Lexeme) : Type 0 where
  moves : (ps : List Symbol) → expected_after a (kind_of l) ≡ Some ps → Goes ps ls rest → Ahead a l ls rest
  ends : may_end a ≡ true → rest ≡ l ∷ ls → Ahead a l ls rest

terms_split : {ls rest : List Lexeme} {ts : NamedTermTrees} → IsTerms ls ts rest → (mid : List Lexeme) × Derives symbol.Term ls mid × Derives symbol.MoreTerms mid rest
terms_split {rest} (last_term d) = (lexeme.Close ∷ rest, a_term d, no_more_terms)
terms_split (more_terms {ms = ms} d ds) = (lexeme.Comma ∷ ms, a_term d, one_more_term ds)

and_split : {ls rest : List Lexeme} {f : NamedTree} → IsChain joint.Both ls f rest → (mid : List Lexeme) × Derives symbol.Formula ls mid × Derives symbol.MoreAnds mid rest
and_split {rest} (last_part d) = (lexeme.Close ∷ rest, a_formula d, no_more_ands)
and_split (more_parts {ms = ms} o d c) = (lexeme.And ∷ ms, a_formula d, one_more_and c)

or_split : {ls rest : List Lexeme} {f : NamedTree} → IsChain joint.Either ls f rest → (mid : List Lexeme) × Derives symbol.Formula ls mid × Derives symbol.MoreOrs mid rest
or_split {rest} (last_part d) = (lexeme.Close ∷ rest, a_formula d, no_more_ors)
or_split (more_parts {ms = ms} o d c) = (lexeme.Or ∷ ms, a_formula d, one_more_or c)

implies_split : {ls rest : List Lexeme} {f : NamedTree} → IsChain joint.Implies ls f rest → (mid : List Lexeme) × Derives symbol.Formula ls mid × Derives symbol.Close mid rest
implies_split {rest} (last_part d) = (lexeme.Close ∷ rest, a_formula d, a_close)
implies_split (more_parts o d c) = elim o [ ]

same_split : {ls rest : List Lexeme} {f : NamedTree} → IsChain joint.Same ls f rest → (mid : List Lexeme) × Derives symbol.Formula ls mid × Derives symbol.Close mid rest
same_split {rest} (last_part d) = (lexeme.Close ∷ rest, a_formula d, a_close)
same_split (more_parts o d c) = elim o [ ]

-- one symbol, and two of them
pub one : {a : Symbol} {ls rest : List Lexeme} → Derives a ls rest → Goes (a ∷ []) ls rest
one {ls} d = (ls, refl, d)

two : {a b : Symbol} {ls rest : List Lexeme} → (mid : List Lexeme) × Derives b ls mid × Derives a mid rest → Goes (a ∷ b ∷ []) ls rest
two {ls} s = (s.0, (ls, refl, s.1), s.2)

free_formula : (name : List ℕ) → IsFree name → expected_after symbol.Formula (word_kind name) ≡ Some (symbol.AfterName ∷ [])
free_formula name f = free_kind (λ k. expected_after symbol.Formula k ≡ Some (symbol.AfterName ∷ [])) name f refl refl

free_term : (name : List ℕ) → IsFree name → expected_after symbol.Term (word_kind name) ≡ Some (symbol.MayCall ∷ [])
free_term name f = free_kind (λ k. expected_after symbol.Term k ≡ Some (symbol.MayCall ∷ [])) name f refl refl

free_variable : (name : List ℕ) → IsFree name → expected_after symbol.Variable (word_kind name) ≡ Some []
free_variable name f = free_kind (λ k. expected_after symbol.Variable k ≡ Some []) name f refl refl

equal_ahead : {l : Lexeme} {ls ms rest : List Lexeme} {s t : NamedTermTree} → IsTerm (l ∷ ls) s (lexeme.Equals ∷ ms) → IsTerm ms t rest → Ahead symbol.Formula l ls rest
equal_ahead (variable {name} f) e = moves (symbol.AfterName ∷ []) (free_formula name f) (one (name_equal e))
equal_ahead (call {name} f d) e = moves (symbol.AfterName ∷ []) (free_formula name f) (one (name_called d (call_equal e)))
equal_ahead {ms} voter e = moves (symbol.Term ∷ symbol.Equals ∷ []) refl (two (ms, an_equals, a_term e))
equal_ahead {ms} alternative e = moves (symbol.Term ∷ symbol.Equals ∷ []) refl (two (ms, an_equals, a_term e))
equal_ahead {ms} ballot e = moves (symbol.Term ∷ symbol.Equals ∷ []) refl (two (ms, an_equals, a_term e))

atom_ahead : {l : Lexeme} {ls rest : List Lexeme} {f : NamedTree} → IsAtom (l ∷ ls) f rest → Ahead symbol.Formula l ls rest
atom_ahead (pred {name} f d) = moves (symbol.AfterName ∷ []) (free_formula name f) (one (name_called d call_whole))
atom_ahead (equal d e) = equal_ahead d e

formula_ahead : {l : Lexeme} {ls rest : List Lexeme} {f : NamedTree} → IsFormula (l ∷ ls) f rest → Ahead symbol.Formula l ls rest
formula_ahead (quantified {word = w} {name = n} {sort_word = v} {ls = m} q s e f k d) =
    moves (symbol.Formula ∷ symbol.Dot ∷ symbol.Sort ∷ symbol.Colon ∷ symbol.Variable ∷ [])
    (ap (expected_after symbol.Formula) (quantifier_kind q w e))
    (m, (lexeme.Dot ∷ m, (lexeme.Word v ∷ lexeme.Dot ∷ m, (lexeme.Colon ∷ lexeme.Word v ∷ lexeme.Dot ∷ m, (lexeme.Word n ∷ lexeme.Colon ∷ lexeme.Word v ∷ lexeme.Dot ∷ m, refl, a_variable f), a_colon), a_sort s k), a_dot), a_formula d)
formula_ahead (negation d) = moves (symbol.Formula ∷ []) refl (one (a_formula d))
formula_ahead (group {ms = m} j d c) = moves (symbol.Joint ∷ symbol.Formula ∷ []) refl (two (joint_lexeme j ∷ m, a_formula d, a_joint j refl c))
formula_ahead (atom d) = atom_ahead d

term_ahead : {l : Lexeme} {ls rest : List Lexeme} {t : NamedTermTree} → IsTerm (l ∷ ls) t rest → Ahead symbol.Term l ls rest
term_ahead (variable {name} f) = moves (symbol.MayCall ∷ []) (free_term name f) (one no_call)
term_ahead (call {name} f d) = moves (symbol.MayCall ∷ []) (free_term name f) (one (a_call d))
term_ahead voter = moves [] refl refl
term_ahead alternative = moves [] refl refl
term_ahead ballot = moves [] refl refl

joint_ahead : (j : Joint) (ls rest : List Lexeme) (f : NamedTree) → IsChain j ls f rest → Ahead symbol.Joint (joint_lexeme j) ls rest
joint_ahead joint.Both ls rest f c = moves (symbol.MoreAnds ∷ symbol.Formula ∷ []) refl (two (and_split c))
joint_ahead joint.Either ls rest f c = moves (symbol.MoreOrs ∷ symbol.Formula ∷ []) refl (two (or_split c))
joint_ahead joint.Implies ls rest f c = moves (symbol.Close ∷ symbol.Formula ∷ []) refl (two (implies_split c))
joint_ahead joint.Same ls rest f c = moves (symbol.Close ∷ symbol.Formula ∷ []) refl (two (same_split c))

pub ahead : {a : Symbol} {l : Lexeme} {ls rest : List Lexeme} → Derives a (l ∷ ls) rest → Ahead a l ls rest
ahead (a_formula d) = formula_ahead d
ahead (name_called {mid} d r) = moves (symbol.AfterCall ∷ symbol.MoreTerms ∷ symbol.Term ∷ []) refl (mid, two (terms_split d), r)
ahead (name_equal d) = moves (symbol.Term ∷ []) refl (one (a_term d))
ahead call_whole = ends refl refl
ahead (call_equal d) = moves (symbol.Term ∷ []) refl (one (a_term d))
ahead {ls} {rest} (a_joint {f} j e c) = subst (λ m. Ahead symbol.Joint m ls rest) (sym e) (joint_ahead j ls rest f c)
ahead no_more_ands = moves [] refl refl
ahead (one_more_and c) = moves (symbol.MoreAnds ∷ symbol.Formula ∷ []) refl (two (and_split c))
ahead no_more_ors = moves [] refl refl
ahead (one_more_or c) = moves (symbol.MoreOrs ∷ symbol.Formula ∷ []) refl (two (or_split c))
ahead (a_term d) = term_ahead d
ahead no_call = ends refl refl
ahead (a_call d) = moves (symbol.MoreTerms ∷ symbol.Term ∷ []) refl (two (terms_split d))
ahead no_more_terms = moves [] refl refl
ahead (one_more_term d) = moves (symbol.MoreTerms ∷ symbol.Term ∷ []) refl (two (terms_split d))
ahead (a_variable {name} f) = moves [] (free_variable name f) refl
ahead (a_sort {name} s e) = moves [] (ap (expected_after symbol.Sort) (sort_kind s name e)) refl
ahead a_colon = moves [] refl refl
ahead a_dot = moves [] refl refl
ahead a_close = moves [] refl refl
ahead an_equals = moves [] refl refl
