-- Lexemes have one reading.
use Rattle.std.proofs.Common.{◌≡◌, ℕ, true, List, [], ◌∷◌, refl, ap, subst, Option, Some, None}
use Rattle.vocab.specs.NamedTree as tree
use Rattle.vocab.specs.NamedTree.{NamedTermTree, NamedTermTrees, NamedTree}
use Rattle.syntax.specs.declared.lexemes.Lexeme.{Lexeme}
use Rattle.syntax.specs.declared.lexemes.Lexeme.TheVariants as lexeme
use Rattle.vocab.specs.declared.kinds.Sort.{Sort}
use Rattle.vocab.specs.declared.kinds.Sort.TheVariants as sort
use Rattle.syntax.specs.declared.lexemes.Joint.{Joint}
use Rattle.syntax.specs.declared.lexemes.Joint.TheVariants as joint
use Rattle.syntax.specs.declared.lexemes.Quantifier.{Quantifier}
use Rattle.syntax.specs.declared.lexemes.Quantifier.TheVariants as quantifier
use Rattle.syntax.specs.Grammar.{IsAtom, atom, joint_lexeme, word_of_quantifier, word_of_sort, IsFree, IsFormula, IsChain, quantified, negation, group, pred, equal, last_part, more_parts, Reads, IsTerm, IsTerms, variable, call, voter, alternative, ballot, last_term, more_terms}
use Rattle.syntax.specs.Fronts.{ends_term, ends_formula}

mutual
  pub one_term : {ls : List Lexeme} {s t : NamedTermTree} {xs ys : List Lexeme} → IsTerm ls s xs → IsTerm ls t ys → ends_term xs ≡ true → ends_term ys ≡ true → (s ≡ t) × (xs ≡ ys)
  one_term (variable f) (variable g) h k = (refl, refl)
  one_term (variable f) (call g d) h k = absurd cc
  one_term (call f d) (variable g) h k = absurd cc
  one_term (call {name} f d) (call g e) h k = let both = one_list d e in (ap (tree.Call name) both.0, both.1)
  one_term voter voter h k = (refl, refl)
  one_term alternative alternative h k = (refl, refl)
  one_term ballot ballot h k = (refl, refl)

  pub one_list : {ls : List Lexeme} {ss ts : NamedTermTrees} {xs ys : List Lexeme} → IsTerms ls ss xs → IsTerms ls ts ys → (ss ≡ ts) × (xs ≡ ys)
  one_list (last_term d) (last_term e) = let both = one_term d e refl refl in (ap (λ t. tree.Argument t tree.NoArguments) both.0, cc)
  one_list (last_term d) (more_terms e es) = let both = one_term d e refl refl in absurd cc
  one_list (more_terms d ds) (last_term e) = let both = one_term d e refl refl in absurd cc
  one_list {ts = more_ss} {ys} (more_terms {ms = m} {t = t} {ts = ss} d ds) (more_terms {ms = n} {t = u} {ts = us} e es) =
      let first = one_term d e refl refl in
      let same : n ≡ m = cc in
      let later = one_list ds (subst (λ l. IsTerms l us ys) same es) in
      (cc, later.1)

-- ---- formulas

joint_of : Lexeme → Option Joint
joint_of lexeme.And = Some joint.Both
joint_of lexeme.Or = Some joint.Either
joint_of lexeme.Implies = Some joint.Implies
joint_of lexeme.Same = Some joint.Same
joint_of _ = None

joint_of-mark_of : (j : Joint) → joint_of (joint_lexeme j) ≡ Some j
unfolding joint_of
joint_of-mark_of joint.Both = refl
joint_of-mark_of joint.Either = refl
joint_of-mark_of joint.Implies = refl
joint_of-mark_of joint.Same = refl

pub mark_once : (j k : Joint) → joint_lexeme j ≡ joint_lexeme k → j ≡ k
mark_once j k h = let a = joint_of-mark_of j in let b = joint_of-mark_of k in let c = ap joint_of h in cc

pub mark_ends : (j : Joint) (ls : List Lexeme) → ends_formula (joint_lexeme j ∷ ls) ≡ true
mark_ends joint.Both ls = refl
mark_ends joint.Either ls = refl
mark_ends joint.Implies ls = refl
mark_ends joint.Same ls = refl

pub not_close : (j : Joint) → joint_lexeme j ≡ lexeme.Close → ⊥
not_close joint.Both h = cc
not_close joint.Either h = cc
not_close joint.Implies h = cc
not_close joint.Same h = cc

pub ends_term-of_formula : (ls : List Lexeme) → ends_formula ls ≡ true → ends_term ls ≡ true
ends_term-of_formula [] h = refl
ends_term-of_formula (lexeme.Open ∷ ls) h = cc
ends_term-of_formula (_ ∷ ls) h = refl

-- the quantifier that a word names
pub quantifier-once : (q r : Quantifier) (w : List ℕ) → w ≡ word_of_quantifier q → w ≡ word_of_quantifier r → q ≡ r
quantifier-once quantifier.All quantifier.All w a b = refl
quantifier-once quantifier.Exists quantifier.Exists w a b = refl
quantifier-once _ _ w a b = cc

pub free_is_no_quantifier : (q : Quantifier) (w : List ℕ) → IsFree w → w ≡ word_of_quantifier q → ⊥
free_is_no_quantifier quantifier.All w f e = f.not_all e
free_is_no_quantifier quantifier.Exists w f e = f.not_some e

-- the sort that a word names
pub word_of_sort-once : (s t : Sort) (w : List ℕ) → w ≡ word_of_sort s → w ≡ word_of_sort t → s ≡ t
word_of_sort-once sort.Voter sort.Voter w a b = refl
word_of_sort-once sort.Alt sort.Alt w a b = refl
word_of_sort-once sort.Ballot sort.Ballot w a b = refl
word_of_sort-once sort.Profile sort.Profile w a b = refl
word_of_sort-once _ _ w a b = cc

-- A predicate is no left side of an equality, unless "=" follows it.
pred_or_equal : {ls ms rest : List Lexeme} {name : List ℕ} {ts : NamedTermTrees} {t : NamedTermTree} → IsTerms ls ts rest → IsTerm (lexeme.Word name ∷ lexeme.Open ∷ ls) t (lexeme.Equals ∷ ms) → ends_formula rest ≡ true → ⊥
pred_or_equal {ms} {rest} d (call f e) h = let both = one_list d e in let at : rest ≡ lexeme.Equals ∷ ms = both.1 in let bad : ends_formula (lexeme.Equals ∷ ms) ≡ true = rw at at h in cc

pub no_term_at_words : {ls ms : List Lexeme} {t : NamedTermTree} {a b : List ℕ} → IsTerm (lexeme.Word a ∷ lexeme.Word b ∷ ls) t (lexeme.Equals ∷ ms) → ⊥
no_term_at_words h = elim h [ ]

pub no_term_empty : {ms : List Lexeme} {t : NamedTermTree} → IsTerm [] t ms → ⊥
no_term_empty h = elim h [ ]

pub no_term_at_not : {ls ms : List Lexeme} {t : NamedTermTree} → IsTerm (lexeme.Not ∷ ls) t ms → ⊥
no_term_at_not h = elim h [ ]

pub no_term_at_open : {ls ms : List Lexeme} {t : NamedTermTree} → IsTerm (lexeme.Open ∷ ls) t ms → ⊥
no_term_at_open h = elim h [ ]

pub one_atom : {ls : List Lexeme} {f g : NamedTree} {xs ys : List Lexeme} → IsAtom ls f xs → IsAtom ls g ys → ends_formula xs ≡ true → ends_formula ys ≡ true → (f ≡ g) × (xs ≡ ys)
one_atom (pred {name = name} f d) (pred g e) h k = let both = one_list d e in (ap (tree.Pred name) both.0, both.1)
one_atom (pred f d) (equal e e') h k = absurd (pred_or_equal d e h)
one_atom (equal d d') (pred g e) h k = absurd (pred_or_equal e d k)
one_atom {xs} {ys} (equal {ms = m} d d') (equal {ms = n} {t = t'} e e') h k =
    let first = one_term d e refl refl in
    let lists : n ≡ m = cc in
    let second = one_term d' (subst (λ o. IsTerm o t' ys) lists e') (ends_term-of_formula xs h) (ends_term-of_formula ys k) in
    (cc, second.1)

mutual
  pub one_formula : {ls : List Lexeme} {f g : NamedTree} {xs ys : List Lexeme} → IsFormula ls f xs → IsFormula ls g ys → ends_formula xs ≡ true → ends_formula ys ≡ true → (f ≡ g) × (xs ≡ ys)
  one_formula (quantified {word} {sort_word = v} q s a b c d) (quantified q' s' a' b' c' e) h k =
      let quantifiers = quantifier-once q q' word a a' in
      let sorts = word_of_sort-once s s' v c c' in
      let body = one_formula d e h k in
      (cc, body.1)
  one_formula (quantified q s a b c d) (atom (equal e e')) h k = absurd (no_term_at_words e)
  one_formula (negation d) (negation e) h k = let body = one_formula d e h k in (cc, body.1)
  one_formula (negation d) (atom (equal e e')) h k = absurd (no_term_at_not e)
  one_formula {xs} {ys} (group {ms = m} {f = f} {g = g} j d c) (group {ms = n} {f = f'} {g = g'} l e b) h k =
      let first = one_formula d e (mark_ends j m) (mark_ends l n) in
      let joints : l ≡ j = let marks : joint_lexeme l ≡ joint_lexeme j = cc in mark_once l j marks in
      let lists : n ≡ m = cc in
      let later = one_chain c (subst (λ o. IsChain o m g' ys) joints (subst (λ o. IsChain l o g' ys) lists b)) in
      (cc, later.1)
  one_formula (group j d c) (atom (equal e e')) h k = absurd (no_term_at_open e)
  one_formula (atom (equal d d')) (quantified q s a b c e) h k = absurd (no_term_at_words d)
  one_formula (atom (equal d d')) (negation e) h k = absurd (no_term_at_not d)
  one_formula (atom (equal d d')) (group l e b) h k = absurd (no_term_at_open d)
  one_formula (atom d) (atom e) h k = one_atom d e h k

  pub one_chain : {j : Joint} {ls : List Lexeme} {f g : NamedTree} {xs ys : List Lexeme} → IsChain j ls f xs → IsChain j ls g ys → (f ≡ g) × (xs ≡ ys)
  one_chain (last_part d) (last_part e) = let both = one_formula d e refl refl in (both.0, cc)
  one_chain {j} (last_part d) (more_parts {ms = n} o e b) = let both = one_formula d e refl (mark_ends j n) in let bad : joint_lexeme j ≡ lexeme.Close = cc in absurd (not_close j bad)
  one_chain {j} (more_parts {ms = m} o d c) (last_part e) = let both = one_formula d e (mark_ends j m) refl in let bad : joint_lexeme j ≡ lexeme.Close = cc in absurd (not_close j bad)
  one_chain {j} {ys} (more_parts {ms = m} o d c) (more_parts {ms = n} {g = g'} p e b) =
      let first = one_formula d e (mark_ends j m) (mark_ends j n) in
      let lists : n ≡ m = cc in
      let later = one_chain c (subst (λ l. IsChain j l g' ys) lists b) in
      (cc, later.1)

-- Lexemes have one reading.
pub one_reading : {ls : List Lexeme} {f g : NamedTree} → Reads ls f → Reads ls g → f ≡ g
one_reading d e = (one_formula d e refl refl).0
