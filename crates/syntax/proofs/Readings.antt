-- What stands at the front of lexemes, by what stands there first.
use Rattle.std.proofs.Common.{Box, Global, arith, length, ◌<◌, ◌≡◌, ℕ, true, List, [], ◌∷◌, refl, sym, ap, ◌∙◌, subst, Result, Ok, Err, IfOk}
use Rattle.vocab.specs.NamedTree as tree
use Rattle.vocab.specs.NamedTree.{NamedTermTree, NamedTermTrees, NamedTree}
use Rattle.syntax.specs.declared.lexemes.Lexeme.{Lexeme}
use Rattle.syntax.specs.declared.lexemes.Lexeme.TheVariants as lexeme
use Rattle.syntax.specs.Grammar.{IsFree, IsTerm, IsTerms, variable, call, voter, alternative, ballot, last_term, more_terms, IsAtom, pred, equal, atom, IsFormula, quantified, negation, group, IsChain, last_part, more_parts, Chains, joint_lexeme, joined_by, bound, word_of_quantifier, word_of_sort}
use Rattle.syntax.specs.Fronts.{ends_term, ends_formula, BinderAt, NoBinder, AtomAt, NoAtom, FormulaAt, NoFormula, NoChain, TermAt, NoTerm, ListAt, NoTerms}
use Rattle.std.specs.Borrow.{Bor}
use Rattle.syntax.specs.declared.parser.Stop.{Stop}
use Rattle.syntax.specs.Fronts.{before}
use Rattle.vocab.specs.NamedView.{named_tree}
use Rattle.vocab.specs.declared.kinds.Sort.{Sort}
use Rattle.vocab.specs.declared.named.Named.{Named}
use Rattle.syntax.specs.declared.lexemes.Joint.{Joint}
use Rattle.syntax.specs.declared.lexemes.Quantifier.{Quantifier}
use Rattle.syntax.specs.Opening.{IsOther}
use Rattle.syntax.proofs.Views.{before-term}
use Rattle.syntax.proofs.Unique.{one_term, one_list, one_chain, ends_term-of_formula, no_term_at_not, no_term_at_open, no_term_empty, mark_ends, mark_once, not_close, quantifier-once, free_is_no_quantifier, word_of_sort-once}

pub front : {ls rest : List Lexeme} {x y : Lexeme} → ls ≡ x ∷ rest → x ≡ y → ls ≡ y ∷ rest
front {rest} e f = e ∙ ap (λ l. l ∷ rest) f

-- ---- terms

free_at : {name : List ℕ} {ls rest : List Lexeme} {t : NamedTermTree} → IsTerm (lexeme.Word name ∷ ls) t rest → IsFree name
free_at (variable f) = f
free_at (call f d) = f

pub no_term_quoted : (ls rest : List Lexeme) (name : List ℕ) → ls ≡ lexeme.Word name ∷ rest → (IsFree name → ⊥) → NoTerm ls
no_term_quoted ls rest name e quoted t ys d h = quoted (free_at (subst (λ l. IsTerm l t ys) e d))

ends_not_open : (ls : List Lexeme) → ((rest : List Lexeme) → ls ≡ lexeme.Open ∷ rest → ⊥) → ends_term ls ≡ true
ends_not_open [] h = refl
ends_not_open (lexeme.Open ∷ ls) h = absurd (h ls refl)
ends_not_open (_ ∷ ls) h = refl

at_variable : (rest : List Lexeme) (name : List ℕ) → IsFree name → ends_term rest ≡ true → TermAt (lexeme.Word name ∷ rest) (tree.Var name) rest
at_variable rest name f h = record { spelled = variable f; only = λ u ys d k. one_term d (variable f) k h }

pub term_at_variable : (ls rest : List Lexeme) (name : List ℕ) → ls ≡ lexeme.Word name ∷ rest → IsFree name → ((more : List Lexeme) → rest ≡ lexeme.Open ∷ more → ⊥) → TermAt ls (tree.Var name) rest
term_at_variable ls rest name e f h = subst (λ l. TermAt l (tree.Var name) rest) (sym e) (at_variable rest name f (ends_not_open rest h))

no_call : {name : List ℕ} {ls rest : List Lexeme} {t : NamedTermTree} → NoTerms ls → IsTerm (lexeme.Word name ∷ lexeme.Open ∷ ls) t rest → ends_term rest ≡ true → ⊥
no_call never (variable f) h = absurd cc
no_call never (call {rest = ys} {ts = ts} f d) h = never ts ys d

pub no_term_call : (ls rest more : List Lexeme) (name : List ℕ) → ls ≡ lexeme.Word name ∷ rest → rest ≡ lexeme.Open ∷ more → NoTerms more → NoTerm ls
no_term_call ls rest more name e e' never t ys d h = no_call never (subst (λ l. IsTerm l t ys) (e ∙ ap (λ l. lexeme.Word name ∷ l) e') d) h

only_call : {name : List ℕ} {ls rest ys : List Lexeme} {ts : NamedTermTrees} {u : NamedTermTree} → IsTerms ls ts rest → IsTerm (lexeme.Word name ∷ lexeme.Open ∷ ls) u ys → ends_term ys ≡ true → (u ≡ tree.Call name ts) × (ys ≡ rest)
only_call d (variable f) h = absurd cc
only_call {name} d (call f e) h = let both = one_list e d in (ap (tree.Call name) both.0, both.1)

pub term_at_call : (ls rest more end : List Lexeme) (name : List ℕ) (ts : NamedTermTrees) → ls ≡ lexeme.Word name ∷ rest → rest ≡ lexeme.Open ∷ more → IsFree name → IsTerms more ts end → TermAt ls (tree.Call name ts) end
term_at_call ls rest more end name ts e e' f d =
    let at : TermAt (lexeme.Word name ∷ lexeme.Open ∷ more) (tree.Call name ts) end = record { spelled = call f d; only = λ u ys b k. only_call d b k } in
    subst (λ l. TermAt l (tree.Call name ts) end) (sym (e ∙ ap (λ l. lexeme.Word name ∷ l) e')) at

only_voter : {n : ℕ} {ls ys : List Lexeme} {u : NamedTermTree} → IsTerm (lexeme.Voter n ∷ ls) u ys → (u ≡ tree.Voter n) × (ys ≡ ls)
only_voter voter = (refl, refl)

pub term_at_voter : (ls rest : List Lexeme) (n : ℕ) → ls ≡ lexeme.Voter n ∷ rest → TermAt ls (tree.Voter n) rest
term_at_voter ls rest n e = subst (λ l. TermAt l (tree.Voter n) rest) (sym e) (record { spelled = voter; only = λ u ys d h. only_voter d })

only_alternative : {n : ℕ} {ls ys : List Lexeme} {u : NamedTermTree} → IsTerm (lexeme.Alt n ∷ ls) u ys → (u ≡ tree.Alt n) × (ys ≡ ls)
only_alternative alternative = (refl, refl)

pub term_at_alternative : (ls rest : List Lexeme) (n : ℕ) → ls ≡ lexeme.Alt n ∷ rest → TermAt ls (tree.Alt n) rest
term_at_alternative ls rest n e = subst (λ l. TermAt l (tree.Alt n) rest) (sym e) (record { spelled = alternative; only = λ u ys d h. only_alternative d })

only_ballot : {n : List ℕ} {ls ys : List Lexeme} {u : NamedTermTree} → IsTerm (lexeme.Ballot n ∷ ls) u ys → (u ≡ tree.Ballot n) × (ys ≡ ls)
only_ballot ballot = (refl, refl)

pub term_at_ballot : (ls rest : List Lexeme) (n : List ℕ) → ls ≡ lexeme.Ballot n ∷ rest → TermAt ls (tree.Ballot n) rest
term_at_ballot ls rest n e = subst (λ l. TermAt l (tree.Ballot n) rest) (sym e) (record { spelled = ballot; only = λ u ys d h. only_ballot d })

-- ---- lists of terms

pub list_more : (ls rest more end : List Lexeme) (t : NamedTermTree) (ts : NamedTermTrees) → TermAt ls t rest → rest ≡ lexeme.Comma ∷ more → IsTerms more ts end → IsTerms ls (tree.Argument t ts) end
list_more ls rest more end t ts at e d = more_terms (subst (λ l. IsTerm ls t l) e at.spelled) d

pub list_last : (ls rest end : List Lexeme) (t : NamedTermTree) → TermAt ls t rest → rest ≡ lexeme.Close ∷ end → IsTerms ls (tree.Argument t tree.NoArguments) end
list_last ls rest end t at e = last_term (subst (λ l. IsTerm ls t l) e at.spelled)

pub no_list_end : (ls rest : List Lexeme) (t : NamedTermTree) → TermAt ls t rest → ((l : List Lexeme) → rest ≡ lexeme.Comma ∷ l → ⊥) → ((l : List Lexeme) → rest ≡ lexeme.Close ∷ l → ⊥) → NoTerms ls
no_list_end ls rest t at a b ts ys (last_term {rest = r} {t = u} d) = b r (sym (at.only u (lexeme.Close ∷ r) d refl).1)
no_list_end ls rest t at a b ts ys (more_terms {ms = m} {t = u} {ts = us} d ds) = a m (sym (at.only u (lexeme.Comma ∷ m) d refl).1)

-- a list of terms, of which the first went to the end of those before
list_found : (ls rest more end : List Lexeme) (t : NamedTermTree) (old mid new : NamedTermTrees) → TermAt ls t rest → rest ≡ lexeme.Comma ∷ more → mid ≡ before old (tree.Argument t tree.NoArguments)
    → ListAt more mid new end → ListAt ls old new end
list_found ls rest more end t old mid new at e pushed d = record {
  terms = tree.Argument t d.terms;
  spelled = list_more ls rest more end t d.terms at e d.spelled;
  added = d.added ∙ ap (λ ts. before ts d.terms) pushed ∙ before-term old t d.terms;
}

pub list_goes_on : (r : Result (Bor (List Lexeme)) Stop) (ls rest more : List Lexeme) (t : NamedTermTree) (old mid new : NamedTermTrees) → TermAt ls t rest → rest ≡ lexeme.Comma ∷ more → mid ≡ before old (tree.Argument t tree.NoArguments)
    → IfOk r (λ end. ListAt more mid new end.now) → IfOk r (λ end. ListAt ls old new end.now)
list_goes_on (Ok end) ls rest more t old mid new at e pushed d = list_found ls rest more end.now t old mid new at e pushed d
list_goes_on (Err e') ls rest more t old mid new at e pushed d = d

pub list_ended : (ls rest end : List Lexeme) (t : NamedTermTree) (old new : NamedTermTrees) → TermAt ls t rest → rest ≡ lexeme.Close ∷ end → new ≡ before old (tree.Argument t tree.NoArguments) → ListAt ls old new end
list_ended ls rest end t old new at e pushed = record { terms = tree.Argument t tree.NoArguments; spelled = list_last ls rest end t at e; added = pushed }

-- ---- atoms

pred_of_call : {ls rest : List Lexeme} {name : List ℕ} {ts : NamedTermTrees} → IsTerm ls (tree.Call name ts) rest → IsAtom ls (tree.Pred name ts) rest
pred_of_call (call f d) = pred f d

pub no_atom : (ls : List Lexeme) → NoTerm ls → NoAtom ls
no_atom ls never g ys (pred {name = n} {ts = ts} f d) h = never (tree.Call n ts) ys (call f d) (ends_term-of_formula ys h)
no_atom ls never g ys (equal {ms = m} {s = s} d e) h = never s (lexeme.Equals ∷ m) d refl

pub no_atom_right : (ls rest more : List Lexeme) (s : NamedTermTree) → TermAt ls s rest → rest ≡ lexeme.Equals ∷ more → NoTerm more → NoAtom ls
no_atom_right ls rest more s at e never g ys (pred {name = n} {ts = ts} f d) h =
    let same : ys ≡ rest = (at.only (tree.Call n ts) ys (call f d) (ends_term-of_formula ys h)).1 in
    let bad : ends_formula (lexeme.Equals ∷ more) ≡ true = rw (same ∙ e) at h in
    absurd cc
no_atom_right ls rest more s at e never g ys (equal {ms = m} {s = u} {t = t} d d') h =
    let same = (at.only u (lexeme.Equals ∷ m) d refl).1 in
    let lists : m ≡ more = cc in
    never t ys (subst (λ l. IsTerm l t ys) lists d') (ends_term-of_formula ys h)

only_equal : {ls rest more end ys : List Lexeme} {s t : NamedTermTree} {g : NamedTree} → TermAt ls s rest → rest ≡ lexeme.Equals ∷ more → TermAt more t end → IsAtom ls g ys → ends_formula ys ≡ true → (g ≡ tree.Equal s t) × (ys ≡ end)
only_equal {rest} {more} {ys} at e at' (pred {name = n} {ts = ts} f d) h =
    let same : ys ≡ rest = (at.only (tree.Call n ts) ys (call f d) (ends_term-of_formula ys h)).1 in
    let bad : ends_formula (lexeme.Equals ∷ more) ≡ true = rw (same ∙ e) at h in
    absurd cc
only_equal {rest} {more} {ys} at e at' (equal {ms = m} {s = u} {t = v} d d') h =
    let first = at.only u (lexeme.Equals ∷ m) d refl in
    let lists : m ≡ more = cc in
    let second = at'.only v ys (subst (λ l. IsTerm l v ys) lists d') (ends_term-of_formula ys h) in
    (cc, second.1)

pub atom_at_equal : (ls rest more end : List Lexeme) (s t : NamedTermTree) → TermAt ls s rest → rest ≡ lexeme.Equals ∷ more → TermAt more t end → AtomAt ls (tree.Equal s t) end
atom_at_equal ls rest more end s t at e at' = record {
  spelled = equal (subst (λ l. IsTerm ls s l) e at.spelled) at'.spelled;
  only = λ g ys d h. only_equal at e at' d h;
}

only_pred : {ls rest ys : List Lexeme} {name : List ℕ} {ts : NamedTermTrees} {g : NamedTree} → TermAt ls (tree.Call name ts) rest → ((more : List Lexeme) → rest ≡ lexeme.Equals ∷ more → ⊥) → IsAtom ls g ys → ends_formula ys ≡ true
    → (g ≡ tree.Pred name ts) × (ys ≡ rest)
only_pred {ys} at e (pred {name = n} {ts = us} f d) h =
    let same = at.only (tree.Call n us) ys (call f d) (ends_term-of_formula ys h) in
    (cc, same.1)
only_pred at e (equal {ms = m} {s = u} d d') h = absurd (e m (sym (at.only u (lexeme.Equals ∷ m) d refl).1))

pub atom_at_pred : (ls rest : List Lexeme) (t : NamedTermTree) (name : List ℕ) (ts : NamedTermTrees) → TermAt ls t rest → t ≡ tree.Call name ts → ((more : List Lexeme) → rest ≡ lexeme.Equals ∷ more → ⊥) → AtomAt ls (tree.Pred name ts) rest
atom_at_pred ls rest t name ts at is e =
    let at' : TermAt ls (tree.Call name ts) rest = subst (λ u. TermAt ls u rest) is at in
    record { spelled = pred_of_call at'.spelled; only = λ g ys d h. only_pred at' e d h }

pub no_atom_term : (ls rest : List Lexeme) (t : NamedTermTree) → TermAt ls t rest → ((n : List ℕ) (ts : NamedTermTrees) → t ≡ tree.Call n ts → ⊥) → ((more : List Lexeme) → rest ≡ lexeme.Equals ∷ more → ⊥) → NoAtom ls
no_atom_term ls rest t at no_call e g ys (pred {name = n} {ts = us} f d) h = no_call n us (sym (at.only (tree.Call n us) ys (call f d) (ends_term-of_formula ys h)).0)
no_atom_term ls rest t at no_call e g ys (equal {ms = m} {s = u} d d') h = e m (sym (at.only u (lexeme.Equals ∷ m) d refl).1)

-- ---- formulas

no_atom_empty : {g : NamedTree} {ys : List Lexeme} → IsAtom [] g ys → ⊥
no_atom_empty (equal d e) = no_term_empty d

no_formula_none : {g : NamedTree} {ys : List Lexeme} → IsFormula [] g ys → ends_formula ys ≡ true → ⊥
no_formula_none (atom a) h = no_atom_empty a

only_negation : {rest end ys : List Lexeme} {f g : NamedTree} → FormulaAt rest f end → IsFormula (lexeme.Not ∷ rest) g ys → ends_formula ys ≡ true → (g ≡ tree.Not f) × (ys ≡ end)
only_negation {ys} at (negation {f = g} d) h = let same = at.only g ys d h in (ap tree.Not same.0, same.1)
only_negation at (atom (equal d e)) h = absurd (no_term_at_not d)

no_negation : {rest ys : List Lexeme} {g : NamedTree} → NoFormula rest → IsFormula (lexeme.Not ∷ rest) g ys → ends_formula ys ≡ true → ⊥
no_negation {ys} never (negation {f = g} d) h = never g ys d h
no_negation never (atom (equal d e)) h = no_term_at_not d

pub no_formula_empty : (ls : List Lexeme) → ls ≡ [] → NoFormula ls
no_formula_empty ls e g ys d h = no_formula_none (subst (λ l. IsFormula l g ys) e d) h

pub formula_at_negation : (rest end : List Lexeme) (f : NamedTree) → FormulaAt rest f end → FormulaAt (lexeme.Not ∷ rest) (tree.Not f) end
formula_at_negation rest end f at = record { spelled = negation at.spelled; only = λ g ys d h. only_negation at d h }

pub no_formula_negation : (rest : List Lexeme) → NoFormula rest → NoFormula (lexeme.Not ∷ rest)
no_formula_negation rest never g ys d h = no_negation never d h

only_quantified : (q : Quantifier) {w name : List ℕ} {rest body end ys : List Lexeme} {s : Sort} {f g : NamedTree} → w ≡ word_of_quantifier q → BinderAt rest name s body → FormulaAt body f end → IsFormula (lexeme.Word w ∷ rest) g ys → ends_formula ys ≡ true
    → (g ≡ bound q name s f) × (ys ≡ end)
only_quantified q {w} {name} {body = l} {ys} {s} e b at (quantified {name = n} {sort_word = v} {ls = m} {f = g} q' s' a c e' d) h =
    let p = b.spelled in
    let quantifiers = quantifier-once q' q w a e in
    let words : v ≡ word_of_sort s = cc in
    let sorts = word_of_sort-once s' s v e' words in
    let names : n ≡ name = cc in
    let lists : m ≡ l = cc in
    let body = at.only g ys (subst (λ x. IsFormula x g ys) lists d) h in
    (cc, body.1)
only_quantified q {w} e b at (atom (pred f d)) h = absurd (free_is_no_quantifier q w f e)
only_quantified q {w} e b at (atom (equal d d')) h = absurd (free_is_no_quantifier q w (free_at d) e)

pub formula_at_quantified : (q : Quantifier) (rest body end : List Lexeme) (name : List ℕ) (s : Sort) (f : NamedTree) → BinderAt rest name s body → FormulaAt body f end → FormulaAt (lexeme.Word (word_of_quantifier q) ∷ rest) (bound q name s f) end
formula_at_quantified q rest body end name s f b at =
    let here : FormulaAt (lexeme.Word (word_of_quantifier q) ∷ lexeme.Word name ∷ lexeme.Colon ∷ lexeme.Word (word_of_sort s) ∷ lexeme.Dot ∷ body) (bound q name s f) end =
    record { spelled = quantified q s refl b.free refl at.spelled; only = λ g ys d h. only_quantified q refl (record { free = b.free; spelled = refl }) at d h } in
    subst (λ l. FormulaAt l (bound q name s f) end) (sym (ap (λ l. lexeme.Word (word_of_quantifier q) ∷ l) b.spelled)) here

unbound : (q : Quantifier) {w : List ℕ} {rest ys : List Lexeme} {g : NamedTree} → w ≡ word_of_quantifier q → NoBinder rest → IsFormula (lexeme.Word w ∷ rest) g ys → ⊥
unbound q e never (quantified {name = n} {sort_word = v} {ls = m} q' s a c e' d) = never n s m (record { free = c; spelled = ap (λ x. lexeme.Word n ∷ lexeme.Colon ∷ lexeme.Word x ∷ lexeme.Dot ∷ m) e' })
unbound q {w} e never (atom (pred f d)) = free_is_no_quantifier q w f e
unbound q {w} e never (atom (equal d d')) = free_is_no_quantifier q w (free_at d) e

pub no_formula_unbound : (q : Quantifier) (rest : List Lexeme) → NoBinder rest → NoFormula (lexeme.Word (word_of_quantifier q) ∷ rest)
no_formula_unbound q rest never g ys d h = unbound q refl never d

no_body : (q : Quantifier) {w name : List ℕ} {rest body ys : List Lexeme} {s : Sort} {g : NamedTree} → w ≡ word_of_quantifier q → BinderAt rest name s body → NoFormula body → IsFormula (lexeme.Word w ∷ rest) g ys → ends_formula ys ≡ true → ⊥
no_body q {body = l} {ys} e b never (quantified {name = n} {sort_word = v} {ls = m} {f = g} q' s' a c e' d) h =
    let p = b.spelled in
    let lists : m ≡ l = cc in
    never g ys (subst (λ x. IsFormula x g ys) lists d) h
no_body q {w} e b never (atom (pred f d)) h = free_is_no_quantifier q w f e
no_body q {w} e b never (atom (equal d d')) h = free_is_no_quantifier q w (free_at d) e

pub no_formula_quantified : (q : Quantifier) (rest body : List Lexeme) (name : List ℕ) (s : Sort) → BinderAt rest name s body → NoFormula body → NoFormula (lexeme.Word (word_of_quantifier q) ∷ rest)
no_formula_quantified q rest body name s b never g ys d h = no_body q refl b never d h

-- ---- groups

only_group : {ls ms end ys : List Lexeme} {j : Joint} {f f' g : NamedTree} → FormulaAt ls f (joint_lexeme j ∷ ms) → IsChain j ms f' end → IsFormula (lexeme.Open ∷ ls) g ys → (g ≡ joined_by j f f') × (ys ≡ end)
only_group {ms} {ys} {j} at c (group {ms = m} {f = k} {g = k'} l d b) =
    let first = at.only k (joint_lexeme l ∷ m) d (mark_ends l m) in
    let joints : l ≡ j = let marks : joint_lexeme l ≡ joint_lexeme j = cc in mark_once l j marks in
    let lists : m ≡ ms = cc in
    let later = one_chain (subst (λ o. IsChain o ms k' ys) joints (subst (λ o. IsChain l o k' ys) lists b)) c in
    (cc, later.1)
only_group at c (atom (equal d e)) = absurd (no_term_at_open d)

pub formula_at_group : (inner rest more end : List Lexeme) (mark : Lexeme) (j : Joint) (f g : NamedTree) → FormulaAt inner f rest → rest ≡ mark ∷ more → mark ≡ joint_lexeme j → IsChain j more g end → FormulaAt (lexeme.Open ∷ inner) (joined_by j f g) end
formula_at_group inner rest more end mark j f g at e m c =
    let at' : FormulaAt inner f (joint_lexeme j ∷ more) = subst (λ l. FormulaAt inner f l) (front e m) at in
    record { spelled = group j at'.spelled c; only = λ k ys d h. only_group at' c d }

no_left : {ls ys : List Lexeme} {g : NamedTree} → NoFormula ls → IsFormula (lexeme.Open ∷ ls) g ys → ⊥
no_left never (group {ms = m} {f = k} l d b) = never k (joint_lexeme l ∷ m) d (mark_ends l m)
no_left never (atom (equal d e)) = no_term_at_open d

pub no_group_left : (inner : List Lexeme) → NoFormula inner → NoFormula (lexeme.Open ∷ inner)
no_group_left inner never g ys d h = no_left never d

no_joint : {ls rest ys : List Lexeme} {f g : NamedTree} → FormulaAt ls f rest → ((j : Joint) (more : List Lexeme) → rest ≡ joint_lexeme j ∷ more → ⊥) → IsFormula (lexeme.Open ∷ ls) g ys → ⊥
no_joint at never (group {ms = m} {f = k} l d b) = never l m (sym (at.only k (joint_lexeme l ∷ m) d (mark_ends l m)).1)
no_joint at never (atom (equal d e)) = no_term_at_open d

pub no_group_end : (inner rest : List Lexeme) (f : NamedTree) → FormulaAt inner f rest → rest ≡ [] → NoFormula (lexeme.Open ∷ inner)
no_group_end inner rest f at empty g ys d h = no_joint at (λ j more e. cc) d

pub no_group_mark : (inner rest more : List Lexeme) (mark : Lexeme) (f : NamedTree) → FormulaAt inner f rest → rest ≡ mark ∷ more → ((j : Joint) → mark ≡ joint_lexeme j → ⊥) → NoFormula (lexeme.Open ∷ inner)
no_group_mark inner rest more mark f at e never g ys d h = no_joint at (λ j l e'. never j (let same : mark ≡ joint_lexeme j = cc in same)) d

no_right : {ls ms ys : List Lexeme} {j : Joint} {f g : NamedTree} → FormulaAt ls f (joint_lexeme j ∷ ms) → NoChain j ms → IsFormula (lexeme.Open ∷ ls) g ys → ⊥
no_right {ms} {ys} {j} at never (group {ms = m} {f = k} {g = k'} l d b) =
    let first = at.only k (joint_lexeme l ∷ m) d (mark_ends l m) in
    let joints : l ≡ j = let marks : joint_lexeme l ≡ joint_lexeme j = cc in mark_once l j marks in
    let lists : m ≡ ms = cc in
    never k' ys (subst (λ o. IsChain o ms k' ys) joints (subst (λ o. IsChain l o k' ys) lists b))
no_right at never (atom (equal d e)) = no_term_at_open d

pub no_group_right : (inner rest more : List Lexeme) (mark : Lexeme) (j : Joint) (f : NamedTree) → FormulaAt inner f rest → rest ≡ mark ∷ more → mark ≡ joint_lexeme j → NoChain j more → NoFormula (lexeme.Open ∷ inner)
no_group_right inner rest more mark j f at e m never g ys d h = no_right (subst (λ l. FormulaAt inner f l) (front e m) at) never d

-- ---- chains

pub chain_last : (ls rest end : List Lexeme) (j : Joint) (f : NamedTree) → FormulaAt ls f rest → rest ≡ lexeme.Close ∷ end → IsChain j ls f end
chain_last ls rest end j f at e = last_part (subst (λ l. IsFormula ls f l) e at.spelled)

pub chain_more : (ls rest more end : List Lexeme) (mark : Lexeme) (j : Joint) (f g : NamedTree) → FormulaAt ls f rest → Chains j → rest ≡ mark ∷ more → mark ≡ joint_lexeme j → IsChain j more g end → IsChain j ls (joined_by j f g) end
chain_more ls rest more end mark j f g at o e m c = more_parts o (subst (λ l. IsFormula ls f l) (front e m) at.spelled) c

pub no_chain_end : (ls rest : List Lexeme) (j : Joint) (f : NamedTree) → FormulaAt ls f rest → ((l : List Lexeme) → rest ≡ lexeme.Close ∷ l → ⊥) → (Chains j → (l : List Lexeme) → rest ≡ joint_lexeme j ∷ l → ⊥) → NoChain j ls
no_chain_end ls rest j f at a b g ys (last_part {rest = r} {f = k} d) = a r (sym (at.only k (lexeme.Close ∷ r) d refl).1)
no_chain_end ls rest j f at a b g ys (more_parts {ms = m} {f = k} o d c) = b o m (sym (at.only k (joint_lexeme j ∷ m) d (mark_ends j m)).1)

pub no_chain_more : (ls rest more : List Lexeme) (mark : Lexeme) (j : Joint) (f : NamedTree) → FormulaAt ls f rest → rest ≡ mark ∷ more → mark ≡ joint_lexeme j → NoChain j more → NoChain j ls
no_chain_more ls rest more mark j f at e m never g ys (last_part {rest = r} {f = k} d) =
    let same = (at.only k (lexeme.Close ∷ r) d refl).1 in
    let bad : joint_lexeme j ≡ lexeme.Close = cc in
    not_close j bad
no_chain_more ls rest more mark j f at e m never g ys (more_parts {ms = n} {f = k} {g = k'} o d c) =
    let same = (at.only k (joint_lexeme j ∷ n) d (mark_ends j n)).1 in
    let lists : n ≡ more = cc in
    never k' ys (subst (λ l. IsChain j l k' ys) lists c)

-- ---- the other formulas

other_is_atom : {first : Lexeme} {rest ys : List Lexeme} {g : NamedTree} → IsOther first → IsFormula (first ∷ rest) g ys → IsAtom (first ∷ rest) g ys
other_is_atom o (quantified q s a b c d) = absurd (o.no_quantifier q (ap lexeme.Word a))
other_is_atom o (negation d) = absurd (o.not_not refl)
other_is_atom o (group j d c) = absurd (o.not_open refl)
other_is_atom o (atom a) = a

formula_at_atom : (ls rest end : List Lexeme) (first : Lexeme) (f : NamedTree) → ls ≡ first ∷ rest → IsOther first → AtomAt ls f end → FormulaAt ls f end
formula_at_atom ls rest end first f e o at = record {
  spelled = atom at.spelled;
  only = λ g ys d h. at.only g ys (subst (λ l. IsAtom l g ys) (sym e) (other_is_atom o (subst (λ l. IsFormula l g ys) e d))) h;
}

pub formula_at_atoms : (r : Result (Box Named Global × Bor (List Lexeme)) Stop) (ls rest : List Lexeme) (first : Lexeme) → ls ≡ first ∷ rest → IsOther first → IfOk r (λ x. AtomAt ls (named_tree x.0.value) x.1.now) → IfOk r (λ x. FormulaAt ls (named_tree x.0.value) x.1.now)
formula_at_atoms (Ok x) ls rest first e o at = formula_at_atom ls rest x.1.now first (named_tree x.0.value) e o at
formula_at_atoms (Err x) ls rest first e o at = at

-- lexemes that begin with a mark, as a function that reads what follows the mark says it
pub formula_at_front : (r : Result (Box Named Global × Bor (List Lexeme)) Stop) (ls rest : List Lexeme) (first mark : Lexeme) → ls ≡ first ∷ rest → first ≡ mark → IfOk r (λ x. FormulaAt (mark ∷ rest) (named_tree x.0.value) x.1.now) → IfOk r (λ x. FormulaAt ls (named_tree x.0.value) x.1.now)
formula_at_front r ls rest first mark e o at = subst (λ l. IfOk r (λ x. FormulaAt l (named_tree x.0.value) x.1.now)) (sym (front e o)) at

pub shorter_front : (r : Result (Box Named Global × Bor (List Lexeme)) Stop) (ls rest : List Lexeme) (first : Lexeme) → ls ≡ first ∷ rest → IfOk r (λ x. length x.1.now < length rest) → IfOk r (λ x. length x.1.now < length ls)
shorter_front (Ok x) ls rest first e h = let n = ap length e in omega arith
shorter_front (Err x) ls rest first e h = h

pub no_formula_front : (ls rest : List Lexeme) (first mark : Lexeme) → ls ≡ first ∷ rest → first ≡ mark → NoFormula (mark ∷ rest) → NoFormula ls
no_formula_front ls rest first mark e o never = subst NoFormula (sym (front e o)) never
