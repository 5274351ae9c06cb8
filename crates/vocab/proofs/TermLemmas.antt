-- The list of the arguments of a symbol.
use Rattle.std.proofs.Common.{◌≡◌, ℕ, zero, suc, ◌≤◌, List, [], ◌∷◌, map, ap, arith, Some, rules}
use Rattle.std.specs.Prelude.{slice_get}
use Rattle.vocab.specs.declared.named.NamedTerm.{NamedTerm, the_lemmas}
use Rattle.vocab.specs.declared.named.Terms.{Terms}
use Rattle.vocab.specs.NamedDepth.{term_depth, terms_depth}
use Rattle.vocab.specs.NamedView.{named_term_tree, named_terms_tree, arguments_of}
use Rattle.vocab.specs.Terms.{terms_of}

pub named_terms_tree-items : (ts : Terms) → named_terms_tree ts ≡ arguments_of (map named_term_tree (terms_of ts))
named_terms_tree-items ts = search (rules, the_lemmas)

-- an argument is no deeper than all
pub member_depth : (xs : List NamedTerm) (i : ℕ) (x : NamedTerm) → slice_get xs i ≡ Some x → term_depth (named_term_tree x) ≤ terms_depth (arguments_of (map named_term_tree xs))
member_depth [] i x h = absurd cc
member_depth (y ∷ xs) zero x h = let e : y ≡ x = cc in let d = ap (λ t. term_depth (named_term_tree t)) e in omega arith
member_depth (y ∷ xs) (suc i) x h = let d = member_depth xs i x h in omega arith

pub get_depth : (ts : Terms) (i : ℕ) (x : NamedTerm) → slice_get (terms_of ts) i ≡ Some x → term_depth (named_term_tree x) ≤ terms_depth (named_terms_tree ts)
get_depth ts i x h = rw (named_terms_tree-items ts) (member_depth (terms_of ts) i x h)
