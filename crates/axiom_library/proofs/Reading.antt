-- Each text of the library reads as its tree.
use Rattle.std.proofs.Common.{◌≡◌, ◌≤◌, ℕ, List, [], length, codes, refl, subst, true, lit≤}
use Rattle.vocab.specs.Name.{is_name}
use Rattle.vocab.specs.NamedDepth.{named_depth, quantifiers}
use Rattle.vocab.specs.NamedTree.{NamedTree}
use Rattle.syntax.specs.Canonical.{canonical_text}
use Rattle.syntax.specs.Sentence.{IsSentence}
use Rattle.syntax.proofs.RoundTrip.{tree_lexemes, writable_read}
use Rattle.axiom_library.specs.Laws.{IsReadable}
use Rattle.axiom_library.proofs.Trees as trees
use Rattle.axiom_library.proofs.Writing.{is_writable, writable_by_test}

-- the canonical text of a tree within the limits reads as it
reads_as : (text : List ℕ) (f : NamedTree) → canonical_text f ≡ text → is_writable f ≡ true → length (tree_lexemes f []) ≤ 600 → named_depth f ≤ 64 → quantifiers f ≤ 12 → IsSentence text f
reads_as text f same writable few shallow few_variables = subst (λ t. IsSentence t f) same (writable_read f (writable_by_test f writable) few shallow few_variables)

-- a text that is the canonical one of a tree within the limits
readable : (name text : List ℕ) (f : NamedTree) → is_name name ≡ true → canonical_text f ≡ text → is_writable f ≡ true → length (tree_lexemes f []) ≤ 600 → named_depth f ≤ 64 → quantifiers f ≤ 12 → IsReadable name text
readable name text f named same writable few shallow few_variables =
    record { is_name = named; tree = f; reads = reads_as text f same writable few shallow few_variables; canonical = same }

pub unanimity : IsReadable (codes "unanimity") (codes "all p: profile. all x: alt. (all i: voter. all y: alt. (x = y | prefers(i, x, y, p)) -> wins(x, p))")
unanimity = readable _ _ trees.unanimity refl refl refl (lit≤ tt) (lit≤ tt) (lit≤ tt)

pub pareto : IsReadable (codes "pareto") (codes "all p: profile. all x: alt. all y: alt. (all i: voter. prefers(i, x, y, p) -> !wins(y, p))")
pareto = readable _ _ trees.pareto refl refl refl (lit≤ tt) (lit≤ tt) (lit≤ tt)

pub onto : IsReadable (codes "onto") (codes "all x: alt. some p: profile. wins(x, p)")
onto = readable _ _ trees.onto refl refl refl (lit≤ tt) (lit≤ tt) (lit≤ tt)

pub non_dictatorship : IsReadable (codes "non_dictatorship") (codes "all i: voter. some p: profile. some x: alt. some y: alt. (prefers(i, y, x, p) & wins(x, p))")
non_dictatorship = readable _ _ trees.non_dictatorship refl refl refl (lit≤ tt) (lit≤ tt) (lit≤ tt)

pub strategyproof : IsReadable (codes "strategyproof") (codes "all p: profile. all i: voter. all b: ballot. all x: alt. all y: alt. ((wins(x, p) & wins(y, with(p, i, b))) -> !prefers(i, y, x, p))")
strategyproof = readable _ _ trees.strategyproof refl refl refl (lit≤ tt) (lit≤ tt) (lit≤ tt)

pub maskin : IsReadable (codes "maskin") (codes "all p: profile. all q: profile. all x: alt. ((wins(x, p) & all i: voter. all y: alt. (prefers(i, x, y, p) -> prefers(i, x, y, q))) -> wins(x, q))")
maskin = readable _ _ trees.maskin refl refl refl (lit≤ tt) (lit≤ tt) (lit≤ tt)

pub condorcet : IsReadable (codes "condorcet") (codes "all p: profile. all x: alt. (all y: alt. (x = y | majority(x, y, p)) -> wins(x, p))")
condorcet = readable _ _ trees.condorcet refl refl refl (lit≤ tt) (lit≤ tt) (lit≤ tt)

pub anonymity : IsReadable (codes "anonymity") (codes "all p: profile. all i: voter. all j: voter. all x: alt. (wins(x, p) <-> wins(x, swap_voters(p, i, j)))")
anonymity = readable _ _ trees.anonymity refl refl refl (lit≤ tt) (lit≤ tt) (lit≤ tt)

pub neutrality : IsReadable (codes "neutrality") (codes "all p: profile. all x: alt. all y: alt. all z: alt. (wins(z, p) <-> wins(swap(x, y, z), swap_alts(p, x, y)))")
neutrality = readable _ _ trees.neutrality refl refl refl (lit≤ tt) (lit≤ tt) (lit≤ tt)

pub participation : IsReadable (codes "participation") (codes "all p: profile. all i: voter. all b: ballot. all x: alt. all y: alt. ((!some c: ballot. casts(i, c, p) & (wins(x, p) & wins(y, with(p, i, b)))) -> !better(b, x, y))")
participation = readable _ _ trees.participation refl refl refl (lit≤ tt) (lit≤ tt) (lit≤ tt)

pub condorcet_of_sets : IsReadable (codes "condorcet") (codes "all p: profile. all x: alt. all z: alt. (all y: alt. (x = y | majority(x, y, p)) -> (wins(z, p) <-> x = z))")
condorcet_of_sets = readable _ _ trees.condorcet_of_sets refl refl refl (lit≤ tt) (lit≤ tt) (lit≤ tt)

pub resolute : IsReadable (codes "resolute") (codes "all p: profile. all x: alt. all y: alt. ((wins(x, p) & wins(y, p)) -> x = y)")
resolute = readable _ _ trees.resolute refl refl refl (lit≤ tt) (lit≤ tt) (lit≤ tt)

pub strategyproof_of_sets : IsReadable (codes "strategyproof") (codes "all p: profile. all i: voter. all b: ballot. all z: alt. (all x: alt. all y: alt. ((wins(x, p) & wins(y, with(p, i, b))) -> (x = y | prefers(i, y, x, p))) -> (wins(z, p) <-> wins(z, with(p, i, b))))")
strategyproof_of_sets = readable _ _ trees.strategyproof_of_sets refl refl refl (lit≤ tt) (lit≤ tt) (lit≤ tt)

-- and that is the tree that it reads as
pub strategyproof_of_sets_read : IsSentence (codes "all p: profile. all i: voter. all b: ballot. all z: alt. (all x: alt. all y: alt. ((wins(x, p) & wins(y, with(p, i, b))) -> (x = y | prefers(i, y, x, p))) -> (wins(z, p) <-> wins(z, with(p, i, b))))") trees.strategyproof_of_sets
strategyproof_of_sets_read = reads_as _ trees.strategyproof_of_sets refl refl (lit≤ tt) (lit≤ tt) (lit≤ tt)

pub pareto_of_rankings : IsReadable (codes "pareto") (codes "all p: profile. all x: alt. all y: alt. (all i: voter. prefers(i, x, y, p) -> ranks(x, y, p))")
pareto_of_rankings = readable _ _ trees.pareto_of_rankings refl refl refl (lit≤ tt) (lit≤ tt) (lit≤ tt)

pub independence_of_rankings : IsReadable (codes "independence") (codes "all p: profile. all q: profile. all x: alt. all y: alt. (all i: voter. (prefers(i, x, y, p) <-> prefers(i, x, y, q)) -> (ranks(x, y, p) <-> ranks(x, y, q)))")
independence_of_rankings = readable _ _ trees.independence_of_rankings refl refl refl (lit≤ tt) (lit≤ tt) (lit≤ tt)

pub non_dictatorship_of_rankings : IsReadable (codes "non_dictatorship") (codes "all i: voter. some p: profile. some x: alt. some y: alt. (prefers(i, x, y, p) & !ranks(x, y, p))")
non_dictatorship_of_rankings = readable _ _ trees.non_dictatorship_of_rankings refl refl refl (lit≤ tt) (lit≤ tt) (lit≤ tt)

pub anonymity_of_rankings : IsReadable (codes "anonymity") (codes "all p: profile. all i: voter. all j: voter. all x: alt. all y: alt. (ranks(x, y, p) <-> ranks(x, y, swap_voters(p, i, j)))")
anonymity_of_rankings = readable _ _ trees.anonymity_of_rankings refl refl refl (lit≤ tt) (lit≤ tt) (lit≤ tt)

pub neutrality_of_rankings : IsReadable (codes "neutrality") (codes "all p: profile. all x: alt. all y: alt. all z: alt. all w: alt. (ranks(z, w, p) <-> ranks(swap(x, y, z), swap(x, y, w), swap_alts(p, x, y)))")
neutrality_of_rankings = readable _ _ trees.neutrality_of_rankings refl refl refl (lit≤ tt) (lit≤ tt) (lit≤ tt)
