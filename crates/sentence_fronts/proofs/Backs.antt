-- A lexeme and what is expected after it are what the symbol stands for.
use Rattle.std.proofs.Common.{◌≡◌, ℕ, List, [], ◌∷◌, refl, sym, subst, Option, Some, None}
use Rattle.vocab.specs.NamedTree as tree
use Rattle.vocab.specs.NamedTree.{NamedTermTree, NamedTermTrees, NamedTree}
use Rattle.vocab.specs.declared.kinds.Sort.{Sort}
use Rattle.syntax.specs.declared.lexemes.Joint.{Joint}
use Rattle.syntax.specs.declared.lexemes.Joint.TheVariants as joint
use Rattle.syntax.specs.declared.lexemes.Lexeme.{Lexeme}
use Rattle.syntax.specs.declared.lexemes.Lexeme.TheVariants as lexeme
use Rattle.syntax.specs.declared.lexemes.Quantifier.{Quantifier}
use Rattle.syntax.specs.Grammar.{IsFree, variable, call, voter, alternative, ballot, IsTerms, last_term, more_terms, pred, equal, IsFormula, quantified, negation, group, atom, IsChain, last_part, more_parts, ands, ors, joint_lexeme, word_of_sort, word_of_quantifier}
use Rattle.sentence_fronts.specs.declared.expected.Symbol.{Symbol}
use Rattle.sentence_fronts.specs.declared.expected.Symbol.TheVariants as symbol
use Rattle.sentence_fronts.specs.declared.lexeme_kinds.LexemeKind.TheVariants as kind
use Rattle.sentence_fronts.specs.LexemeKinds.{kind_of, word_kind}
use Rattle.sentence_fronts.specs.Expected.{Derives, a_formula, name_called, name_equal, call_whole, call_equal, a_joint, no_more_ands, one_more_and, no_more_ors, one_more_or, a_term, no_call, a_call, no_more_terms, one_more_term, a_variable, a_sort, a_colon, a_dot, a_close, an_equals, Goes, expected_after}
use Rattle.sentence_fronts.proofs.Words.{quantifier_word, sort_word, plain_word, word_view, each_kind}

-- the same, where something is expected after the lexeme
abbrev pub GoesOn : Option (List Symbol) → List Lexeme → List Lexeme → Type 0
GoesOn None ls rest = ⊥
GoesOn (Some ps) ls rest = Goes ps ls rest

pub one_of : (a : Symbol) (ls rest : List Lexeme) → Goes (a ∷ []) ls rest → Derives a ls rest
one_of a ls rest g = subst (λ m. Derives a m rest) (sym g.1) g.2

two_of : (a b : Symbol) (ls rest : List Lexeme) → Goes (a ∷ b ∷ []) ls rest → (mid : List Lexeme) × Derives b ls mid × Derives a mid rest
two_of a b ls rest g = (g.0, one_of b ls g.0 g.1, g.2)

abbrev AnyTerms : List Lexeme → List Lexeme → Type 0
AnyTerms ls rest = (ts : NamedTermTrees) × IsTerms ls ts rest

abbrev AnyChain : Joint → List Lexeme → List Lexeme → Type 0
AnyChain j ls rest = (f : NamedTree) × IsChain j ls f rest

terms_join : {ls mid rest : List Lexeme} → Derives symbol.Term ls mid → Derives symbol.MoreTerms mid rest → AnyTerms ls rest
terms_join (a_term {t} d) no_more_terms = (tree.Argument t tree.NoArguments, last_term d)
terms_join (a_term {t} d) (one_more_term {ts} ds) = (tree.Argument t ts, more_terms d ds)

and_join : {ls mid rest : List Lexeme} → Derives symbol.Formula ls mid → Derives symbol.MoreAnds mid rest → AnyChain joint.Both ls rest
and_join (a_formula {f} d) no_more_ands = (f, last_part d)
and_join (a_formula {f} d) (one_more_and {f = k} c) = (tree.Both f k, more_parts ands d c)

or_join : {ls mid rest : List Lexeme} → Derives symbol.Formula ls mid → Derives symbol.MoreOrs mid rest → AnyChain joint.Either ls rest
or_join (a_formula {f} d) no_more_ors = (f, last_part d)
or_join (a_formula {f} d) (one_more_or {f = k} c) = (tree.Either f k, more_parts ors d c)

close_join : (j : Joint) {ls mid rest : List Lexeme} → Derives symbol.Formula ls mid → Derives symbol.Close mid rest → AnyChain j ls rest
close_join j (a_formula {f} d) a_close = (f, last_part d)

joint_back : (j : Joint) {ls rest : List Lexeme} → AnyChain j ls rest → Derives symbol.Joint (joint_lexeme j ∷ ls) rest
joint_back j c = a_joint j refl c.1

negation_back : {ls rest : List Lexeme} → Derives symbol.Formula ls rest → Derives symbol.Formula (lexeme.Not ∷ ls) rest
negation_back (a_formula d) = a_formula (negation d)

group_back : {ls mid rest : List Lexeme} → Derives symbol.Formula ls mid → Derives symbol.Joint mid rest → Derives symbol.Formula (lexeme.Open ∷ ls) rest
group_back {ls} (a_formula {f} d) (a_joint {ls = ms} j e c) = a_formula (group j (subst (λ m. IsFormula ls f (m ∷ ms)) e d) c)

quantified_back : (q : Quantifier) {name : List ℕ} {ls m4 m3 m2 m1 rest : List Lexeme} → name ≡ word_of_quantifier q → Derives symbol.Variable ls m4 → Derives symbol.Colon m4 m3 → Derives symbol.Sort m3 m2 → Derives symbol.Dot m2 m1 → Derives symbol.Formula m1 rest → Derives symbol.Formula (lexeme.Word name ∷ ls) rest
quantified_back q e (a_variable f) a_colon (a_sort s k) a_dot (a_formula d) = a_formula (quantified q s e f k d)

name_back : {name : List ℕ} {ls rest : List Lexeme} → IsFree name → Derives symbol.AfterName ls rest → Derives symbol.Formula (lexeme.Word name ∷ ls) rest
name_back f (name_called d call_whole) = a_formula (atom (pred f d))
name_back f (name_called d (call_equal e)) = a_formula (atom (equal (call f d) e))
name_back f (name_equal e) = a_formula (atom (equal (variable f) e))

voter_back : {n : ℕ} {ls mid rest : List Lexeme} → Derives symbol.Equals ls mid → Derives symbol.Term mid rest → Derives symbol.Formula (lexeme.Voter n ∷ ls) rest
voter_back an_equals (a_term d) = a_formula (atom (equal voter d))

alternative_back : {n : ℕ} {ls mid rest : List Lexeme} → Derives symbol.Equals ls mid → Derives symbol.Term mid rest → Derives symbol.Formula (lexeme.Alt n ∷ ls) rest
alternative_back an_equals (a_term d) = a_formula (atom (equal alternative d))

ballot_back : {n : List ℕ} {ls mid rest : List Lexeme} → Derives symbol.Equals ls mid → Derives symbol.Term mid rest → Derives symbol.Formula (lexeme.Ballot n ∷ ls) rest
ballot_back an_equals (a_term d) = a_formula (atom (equal ballot d))

term_back : {name : List ℕ} {ls rest : List Lexeme} → IsFree name → Derives symbol.MayCall ls rest → Derives symbol.Term (lexeme.Word name ∷ ls) rest
term_back f no_call = a_term (variable f)
term_back f (a_call d) = a_term (call f d)

equal_back : {ls rest : List Lexeme} → Derives symbol.Term ls rest → Derives symbol.AfterName (lexeme.Equals ∷ ls) rest
equal_back (a_term d) = name_equal d

call_equal_back : {ls rest : List Lexeme} → Derives symbol.Term ls rest → Derives symbol.AfterCall (lexeme.Equals ∷ ls) rest
call_equal_back (a_term d) = call_equal d

formula_word : (name : List ℕ) (ls rest : List Lexeme) → GoesOn (expected_after symbol.Formula (word_kind name)) ls rest → Derives symbol.Formula (lexeme.Word name ∷ ls) rest
formula_word name ls rest g =
    elim (word_view name) [
      | quantifier_word q e k ↦ (
          let h : GoesOn (expected_after symbol.Formula kind.Quantifier) ls rest = subst (λ x. GoesOn (expected_after symbol.Formula x) ls rest) k g in
          quantified_back q e (one_of symbol.Variable ls h.1.1.1.0 h.1.1.1.1) h.1.1.1.2 h.1.1.2 h.1.2 h.2)
      | sort_word s e f k ↦ (
          let h : GoesOn (expected_after symbol.Formula kind.Sort) ls rest = subst (λ x. GoesOn (expected_after symbol.Formula x) ls rest) k g in
          name_back f (one_of symbol.AfterName ls rest h))
      | plain_word f k ↦ (
          let h : GoesOn (expected_after symbol.Formula kind.Name) ls rest = subst (λ x. GoesOn (expected_after symbol.Formula x) ls rest) k g in
          name_back f (one_of symbol.AfterName ls rest h))
    ]

term_word : (name : List ℕ) (ls rest : List Lexeme) → GoesOn (expected_after symbol.Term (word_kind name)) ls rest → Derives symbol.Term (lexeme.Word name ∷ ls) rest
term_word name ls rest g =
    elim (word_view name) [
      | quantifier_word q e k ↦ absurd (subst (λ x. GoesOn (expected_after symbol.Term x) ls rest) k g)
      | sort_word s e f k ↦ (
          let h : GoesOn (expected_after symbol.Term kind.Sort) ls rest = subst (λ x. GoesOn (expected_after symbol.Term x) ls rest) k g in
          term_back f (one_of symbol.MayCall ls rest h))
      | plain_word f k ↦ (
          let h : GoesOn (expected_after symbol.Term kind.Name) ls rest = subst (λ x. GoesOn (expected_after symbol.Term x) ls rest) k g in
          term_back f (one_of symbol.MayCall ls rest h))
    ]

variable_back : {name : List ℕ} {ls rest : List Lexeme} → IsFree name → ls ≡ rest → Derives symbol.Variable (lexeme.Word name ∷ ls) rest
variable_back {name} {ls} f e = subst (λ r. Derives symbol.Variable (lexeme.Word name ∷ ls) r) e (a_variable f)

variable_word : (name : List ℕ) (ls rest : List Lexeme) → GoesOn (expected_after symbol.Variable (word_kind name)) ls rest → Derives symbol.Variable (lexeme.Word name ∷ ls) rest
variable_word name ls rest g =
    elim (word_view name) [
      | quantifier_word q e k ↦ absurd (subst (λ x. GoesOn (expected_after symbol.Variable x) ls rest) k g)
      | sort_word s e f k ↦ variable_back f (subst (λ x. GoesOn (expected_after symbol.Variable x) ls rest) k g)
      | plain_word f k ↦ variable_back f (subst (λ x. GoesOn (expected_after symbol.Variable x) ls rest) k g)
    ]

sort_back : {name : List ℕ} {ls rest : List Lexeme} (s : Sort) → name ≡ word_of_sort s → ls ≡ rest → Derives symbol.Sort (lexeme.Word name ∷ ls) rest
sort_back {name} {ls} s k e = subst (λ r. Derives symbol.Sort (lexeme.Word name ∷ ls) r) e (a_sort s k)

sort_at : (name : List ℕ) (ls rest : List Lexeme) → GoesOn (expected_after symbol.Sort (word_kind name)) ls rest → Derives symbol.Sort (lexeme.Word name ∷ ls) rest
sort_at name ls rest g =
    elim (word_view name) [
      | quantifier_word q e k ↦ absurd (subst (λ x. GoesOn (expected_after symbol.Sort x) ls rest) k g)
      | sort_word s e f k ↦ sort_back s e (subst (λ x. GoesOn (expected_after symbol.Sort x) ls rest) k g)
      | plain_word f k ↦ absurd (subst (λ x. GoesOn (expected_after symbol.Sort x) ls rest) k g)
    ]

-- the symbol stands for this lexeme alone
alone : (a : Symbol) (l : Lexeme) (ls rest : List Lexeme) → ls ≡ rest → Derives a (l ∷ rest) rest → Derives a (l ∷ ls) rest
alone a l ls rest e d = subst (λ m. Derives a (l ∷ m) rest) (sym e) d

terms_back : {ls rest : List Lexeme} → AnyTerms ls rest → Derives symbol.MoreTerms (lexeme.Comma ∷ ls) rest
terms_back d = one_more_term d.1

call_back : {ls rest : List Lexeme} → AnyTerms ls rest → Derives symbol.MayCall (lexeme.Open ∷ ls) rest
call_back d = a_call d.1

called_back : {ls mid rest : List Lexeme} → AnyTerms ls mid → Derives symbol.AfterCall mid rest → Derives symbol.AfterName (lexeme.Open ∷ ls) rest
called_back d r = name_called d.1 r

ands_back : {ls rest : List Lexeme} → AnyChain joint.Both ls rest → Derives symbol.MoreAnds (lexeme.And ∷ ls) rest
ands_back c = one_more_and c.1

ors_back : {ls rest : List Lexeme} → AnyChain joint.Either ls rest → Derives symbol.MoreOrs (lexeme.Or ∷ ls) rest
ors_back c = one_more_or c.1

both_of : (ls rest : List Lexeme) → Goes (symbol.MoreAnds ∷ symbol.Formula ∷ []) ls rest → AnyChain joint.Both ls rest
both_of ls rest g = let s = two_of symbol.MoreAnds symbol.Formula ls rest g in and_join s.1 s.2

either_of : (ls rest : List Lexeme) → Goes (symbol.MoreOrs ∷ symbol.Formula ∷ []) ls rest → AnyChain joint.Either ls rest
either_of ls rest g = let s = two_of symbol.MoreOrs symbol.Formula ls rest g in or_join s.1 s.2

closed_of : (j : Joint) (ls rest : List Lexeme) → Goes (symbol.Close ∷ symbol.Formula ∷ []) ls rest → AnyChain j ls rest
closed_of j ls rest g = let s = two_of symbol.Close symbol.Formula ls rest g in close_join j s.1 s.2

terms_of : (ls rest : List Lexeme) → Goes (symbol.MoreTerms ∷ symbol.Term ∷ []) ls rest → AnyTerms ls rest
terms_of ls rest g = let s = two_of symbol.MoreTerms symbol.Term ls rest g in terms_join s.1 s.2

-- no symbol but these four begins with a name
pub back : (a : Symbol) (l : Lexeme) (ls rest : List Lexeme) → GoesOn (expected_after a (kind_of l)) ls rest → Derives a (l ∷ ls) rest
back symbol.Formula (lexeme.Word name) ls rest g = formula_word name ls rest g
back symbol.Formula (lexeme.Voter n) ls rest g = let s = two_of symbol.Term symbol.Equals ls rest g in voter_back s.1 s.2
back symbol.Formula (lexeme.Alt n) ls rest g = let s = two_of symbol.Term symbol.Equals ls rest g in alternative_back s.1 s.2
back symbol.Formula (lexeme.Ballot n) ls rest g = let s = two_of symbol.Term symbol.Equals ls rest g in ballot_back s.1 s.2
back symbol.Formula lexeme.Not ls rest g = negation_back (one_of symbol.Formula ls rest g)
back symbol.Formula lexeme.Open ls rest g = let s = two_of symbol.Joint symbol.Formula ls rest g in group_back s.1 s.2
back symbol.AfterName lexeme.Open ls rest g = called_back (terms_of ls g.0 g.1) g.2
back symbol.AfterName lexeme.Equals ls rest g = equal_back (one_of symbol.Term ls rest g)
back symbol.AfterCall lexeme.Equals ls rest g = call_equal_back (one_of symbol.Term ls rest g)
back symbol.Joint lexeme.And ls rest g = joint_back joint.Both (both_of ls rest g)
back symbol.Joint lexeme.Or ls rest g = joint_back joint.Either (either_of ls rest g)
back symbol.Joint lexeme.Implies ls rest g = joint_back joint.Implies (closed_of joint.Implies ls rest g)
back symbol.Joint lexeme.Same ls rest g = joint_back joint.Same (closed_of joint.Same ls rest g)
back symbol.MoreAnds lexeme.And ls rest g = ands_back (both_of ls rest g)
back symbol.MoreAnds lexeme.Close ls rest g = alone symbol.MoreAnds lexeme.Close ls rest g no_more_ands
back symbol.MoreOrs lexeme.Or ls rest g = ors_back (either_of ls rest g)
back symbol.MoreOrs lexeme.Close ls rest g = alone symbol.MoreOrs lexeme.Close ls rest g no_more_ors
back symbol.Term (lexeme.Word name) ls rest g = term_word name ls rest g
back symbol.Term (lexeme.Voter n) ls rest g = alone symbol.Term (lexeme.Voter n) ls rest g (a_term voter)
back symbol.Term (lexeme.Alt n) ls rest g = alone symbol.Term (lexeme.Alt n) ls rest g (a_term alternative)
back symbol.Term (lexeme.Ballot n) ls rest g = alone symbol.Term (lexeme.Ballot n) ls rest g (a_term ballot)
back symbol.MayCall lexeme.Open ls rest g = call_back (terms_of ls rest g)
back symbol.MoreTerms lexeme.Comma ls rest g = terms_back (terms_of ls rest g)
back symbol.MoreTerms lexeme.Close ls rest g = alone symbol.MoreTerms lexeme.Close ls rest g no_more_terms
back symbol.Variable (lexeme.Word name) ls rest g = variable_word name ls rest g
back symbol.Sort (lexeme.Word name) ls rest g = sort_at name ls rest g
back symbol.Colon lexeme.Colon ls rest g = alone symbol.Colon lexeme.Colon ls rest g a_colon
back symbol.Dot lexeme.Dot ls rest g = alone symbol.Dot lexeme.Dot ls rest g a_dot
back symbol.Close lexeme.Close ls rest g = alone symbol.Close lexeme.Close ls rest g a_close
back symbol.Equals lexeme.Equals ls rest g = alone symbol.Equals lexeme.Equals ls rest g an_equals
back a (lexeme.Word name) ls rest g = absurd (each_kind (λ k. GoesOn (expected_after a k) ls rest → ⊥) name (λ h. h) (λ h. h) (λ h. h) g)
back _ _ ls rest g = absurd g
