-- What a value of each variant stands for.
use Rattle.std.proofs.Common.{◌≡◌, ℕ, List, [], ◌∷◌, ◌++◌, ap, ◌∙◌, sym, refl, rules, map}
use Rattle.vocab.specs.NamedTree as tree
use Rattle.vocab.specs.NamedTree.{NamedTermTree, NamedTermTrees}
use Rattle.vocab.specs.Terms.{terms_of}
use Rattle.syntax.specs.Fronts.{before}
use Rattle.vocab.specs.NamedView.{named_term_tree, named_terms_tree, named_tree, arguments_of}
use Rattle.vocab.specs.declared.named.NamedTerm.{NamedTerm, the_lemmas}
use Rattle.vocab.specs.declared.named.NamedTerm.TheVariants as variant
use Rattle.vocab.specs.declared.named.Terms as named
use Rattle.vocab.specs.declared.named.Named.{the_lemmas as named_lemmas}
use Rattle.vocab.specs.declared.named.Named.TheVariants as form
use Rattle.vocab.proofs.TermLemmas.{named_terms_tree-items}

pub named_term_tree-Var : (n : List ℕ) → named_term_tree (variant.Var n) ≡ tree.Var n
named_term_tree-Var n = search (rules, the_lemmas)

pub named_term_tree-Voter : (n : ℕ) → named_term_tree (variant.Voter n) ≡ tree.Voter n
named_term_tree-Voter n = search (rules, the_lemmas)

pub named_term_tree-Alt : (n : ℕ) → named_term_tree (variant.Alt n) ≡ tree.Alt n
named_term_tree-Alt n = search (rules, the_lemmas)

pub named_term_tree-Ballot : (n : List ℕ) → named_term_tree (variant.Ballot n) ≡ tree.Ballot n
named_term_tree-Ballot n = search (rules, the_lemmas)

pub named_term_tree-Call : (n : List ℕ) (ts : named.Terms) → named_term_tree (variant.Call n ts) ≡ tree.Call n (named_terms_tree ts)
named_term_tree-Call n ts = search (rules, the_lemmas)

pub named_terms_tree-none : (ts : named.Terms) → terms_of ts ≡ [] → named_terms_tree ts ≡ tree.NoArguments
named_terms_tree-none ts e = named_terms_tree-items ts ∙ ap (λ l. arguments_of (map named_term_tree l)) e

arguments_of-push : (l : List NamedTerm) (x : NamedTerm) → arguments_of (map named_term_tree (l ++ x ∷ [])) ≡ before (arguments_of (map named_term_tree l)) (tree.Argument (named_term_tree x) tree.NoArguments)
arguments_of-push [] x = refl
arguments_of-push (y ∷ l) x = ap (tree.Argument (named_term_tree y)) (arguments_of-push l x)

pub named_terms_tree-push : (old new : named.Terms) (x : NamedTerm) → terms_of new ≡ terms_of old ++ x ∷ [] → named_terms_tree new ≡ before (named_terms_tree old) (tree.Argument (named_term_tree x) tree.NoArguments)
named_terms_tree-push old new x e =
    named_terms_tree-items new ∙ ap (λ l. arguments_of (map named_term_tree l)) e ∙ arguments_of-push (terms_of old) x
    ∙ ap (λ ts. before ts (tree.Argument (named_term_tree x) tree.NoArguments)) (sym (named_terms_tree-items old))

before-before : (a b c : NamedTermTrees) → before (before a b) c ≡ before a (before b c)
before-before tree.NoArguments b c = refl
before-before (tree.Argument t a) b c = ap (tree.Argument t) (before-before a b c)

pub before-term : (a : NamedTermTrees) (t : NamedTermTree) (ts : NamedTermTrees) → before (before a (tree.Argument t tree.NoArguments)) ts ≡ before a (tree.Argument t ts)
before-term a t ts = before-before a (tree.Argument t tree.NoArguments) ts

pub named_tree-Pred : (n : List ℕ) (ts : named.Terms) → named_tree (form.Pred n ts) ≡ tree.Pred n (named_terms_tree ts)
named_tree-Pred n ts = search (rules, named_lemmas)

pub named_tree-Equal : (s t : NamedTerm) → named_tree (form.Equal s t) ≡ tree.Equal (named_term_tree s) (named_term_tree t)
named_tree-Equal s t = search (rules, named_lemmas)
