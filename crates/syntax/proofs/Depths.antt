-- The depth of a list of terms.
use Rattle.std.proofs.Common.{◌≡◌, ℕ, zero, suc, ◌+◌, ◌≤◌, true, false, nat_le, List, [], ◌∷◌, length, take, map, ap, arith, add-one, take_all, Some}
use Rattle.std.specs.Prelude.{slice_get}
use Rattle.std.proofs.lemmas.Bool.Decides.{nat_tests}
use Rattle.vocab.specs.Terms.{terms_of}
use Rattle.vocab.specs.NamedView.{named_term_tree, named_terms_tree, arguments_of}
use Rattle.vocab.specs.declared.named.NamedTerm.{NamedTerm}
use Rattle.vocab.specs.declared.named.Terms.{Terms}
use Rattle.vocab.specs.NamedDepth.{term_depth, terms_depth}
use Rattle.vocab.proofs.TermLemmas.{member_depth, named_terms_tree-items}

abbrev pub list_depth : List NamedTerm → ℕ
list_depth xs = terms_depth (arguments_of (map named_term_tree xs))

take_depth : (xs : List NamedTerm) (i m : ℕ) (x : NamedTerm) → slice_get xs i ≡ Some x → list_depth (take i xs) ≤ m → term_depth (named_term_tree x) ≤ m → list_depth (take (suc i) xs) ≤ m
take_depth [] i m x h a b = absurd cc
take_depth (y ∷ xs) zero m x h a b = let e : y ≡ x = cc in let d = ap (λ t. term_depth (named_term_tree t)) e in omega arith
take_depth (y ∷ xs) (suc i) m x h a b = let d = take_depth xs i m x h (omega arith) b in omega arith

pub one_more_fits : (xs : List NamedTerm) (i m : ℕ) (x : NamedTerm) → slice_get xs i ≡ Some x → list_depth (take i xs) ≤ m → nat_le (term_depth (named_term_tree x)) m ≡ true → list_depth (take (i + 1) xs) ≤ m
one_more_fits xs i m x h a b = rw add-one (take_depth xs i m x h a (grind (arith, nat_tests)))

pub one_is_deep : (ts : Terms) (i m : ℕ) (x : NamedTerm) → slice_get (terms_of ts) i ≡ Some x → nat_le (term_depth (named_term_tree x)) m ≡ false → false ≡ nat_le (terms_depth (named_terms_tree ts)) m
one_is_deep ts i m x h b = rw (named_terms_tree-items ts) (let d = member_depth (terms_of ts) i x h in grind (arith, nat_tests))

pub all_fit : (ts : Terms) (n m : ℕ) → list_depth (take n (terms_of ts)) ≤ m → length (terms_of ts) ≤ n → true ≡ nat_le (terms_depth (named_terms_tree ts)) m
all_fit ts n m a h = rw (named_terms_tree-items ts) (let e = ap list_depth (take_all n (terms_of ts) h) in grind (arith, nat_tests))
