-- The axioms that the bench knows by name, in the order in which they are printed.
use Rattle.std.specs.Prelude.{ℕ, List, [], ◌∷◌, if◌then◌else◌, Option, None, Some, codes}
use Rattle.std.specs.Str.{bytes_eq}
use Rattle.vocab.specs.declared.kinds.Kind.{Kind}
use Rattle.vocab.specs.declared.kinds.Kind.TheVariants.{Choice, Ranking, Sets}

-- an axiom: its name, and the text of its sentence
pub record Entry : Type 0 where
  pub name : List ℕ
  pub text : List ℕ

-- axioms of rules that choose an alternative; docs/START.md names the source of each. `participation` says that no absent voter does better by staying away:
-- Moulin, "Condorcet's principle implies the no show paradox" (1988)
unfoldable pub choice : List Entry
choice =
    record { name = codes "unanimity"; text = codes "all p: profile. all x: alt. (all i: voter. all y: alt. (x = y | prefers(i, x, y, p)) -> wins(x, p))" } ∷
    record { name = codes "pareto"; text = codes "all p: profile. all x: alt. all y: alt. (all i: voter. prefers(i, x, y, p) -> !wins(y, p))" } ∷
    record { name = codes "onto"; text = codes "all x: alt. some p: profile. wins(x, p)" } ∷
    record { name = codes "non_dictatorship"; text = codes "all i: voter. some p: profile. some x: alt. some y: alt. (prefers(i, y, x, p) & wins(x, p))" } ∷
    record { name = codes "strategyproof"; text = codes "all p: profile. all i: voter. all b: ballot. all x: alt. all y: alt. ((wins(x, p) & wins(y, with(p, i, b))) -> !prefers(i, y, x, p))" } ∷
    record { name = codes "maskin"; text = codes "all p: profile. all q: profile. all x: alt. ((wins(x, p) & all i: voter. all y: alt. (prefers(i, x, y, p) -> prefers(i, x, y, q))) -> wins(x, q))" } ∷
    record { name = codes "condorcet"; text = codes "all p: profile. all x: alt. (all y: alt. (x = y | majority(x, y, p)) -> wins(x, p))" } ∷
    record { name = codes "anonymity"; text = codes "all p: profile. all i: voter. all j: voter. all x: alt. (wins(x, p) <-> wins(x, swap_voters(p, i, j)))" } ∷
    record { name = codes "neutrality"; text = codes "all p: profile. all x: alt. all y: alt. all z: alt. (wins(z, p) <-> wins(swap(x, y, z), swap_alts(p, x, y)))" } ∷
    record { name = codes "participation"; text = codes "all p: profile. all i: voter. all b: ballot. all x: alt. all y: alt. ((!some c: ballot. casts(i, c, p) & (wins(x, p) & wins(y, with(p, i, b)))) -> !better(b, x, y))" } ∷
    []

-- axioms of rules that rank the alternatives
unfoldable pub ranking : List Entry
ranking =
    record { name = codes "pareto"; text = codes "all p: profile. all x: alt. all y: alt. (all i: voter. prefers(i, x, y, p) -> ranks(x, y, p))" } ∷
    record { name = codes "independence"; text = codes "all p: profile. all q: profile. all x: alt. all y: alt. (all i: voter. (prefers(i, x, y, p) <-> prefers(i, x, y, q)) -> (ranks(x, y, p) <-> ranks(x, y, q)))" } ∷
    record { name = codes "non_dictatorship"; text = codes "all i: voter. some p: profile. some x: alt. some y: alt. (prefers(i, x, y, p) & !ranks(x, y, p))" } ∷
    record { name = codes "anonymity"; text = codes "all p: profile. all i: voter. all j: voter. all x: alt. all y: alt. (ranks(x, y, p) <-> ranks(x, y, swap_voters(p, i, j)))" } ∷
    record { name = codes "neutrality"; text = codes "all p: profile. all x: alt. all y: alt. all z: alt. all w: alt. (ranks(z, w, p) <-> ranks(swap(x, y, z), swap(x, y, w), swap_alts(p, x, y)))" } ∷
    []

-- axioms of rules that give a set. `condorcet` says that an alternative which beats each other one is the only winner, and
-- `strategyproof` that no voter gains a set of which each element is above each of the set in its place, or the same:
-- Kelly, "Strategy-proofness and social choice functions without singlevaluedness" (1977)
unfoldable pub sets : List Entry
sets =
    record { name = codes "pareto"; text = codes "all p: profile. all x: alt. all y: alt. (all i: voter. prefers(i, x, y, p) -> !wins(y, p))" } ∷
    record { name = codes "anonymity"; text = codes "all p: profile. all i: voter. all j: voter. all x: alt. (wins(x, p) <-> wins(x, swap_voters(p, i, j)))" } ∷
    record { name = codes "neutrality"; text = codes "all p: profile. all x: alt. all y: alt. all z: alt. (wins(z, p) <-> wins(swap(x, y, z), swap_alts(p, x, y)))" } ∷
    record { name = codes "condorcet"; text = codes "all p: profile. all x: alt. all z: alt. (all y: alt. (x = y | majority(x, y, p)) -> (wins(z, p) <-> x = z))" } ∷
    record { name = codes "resolute"; text = codes "all p: profile. all x: alt. all y: alt. ((wins(x, p) & wins(y, p)) -> x = y)" } ∷
    record { name = codes "strategyproof"; text = codes "all p: profile. all i: voter. all b: ballot. all z: alt. (all x: alt. all y: alt. ((wins(x, p) & wins(y, with(p, i, b))) -> (x = y | prefers(i, y, x, p))) -> (wins(z, p) <-> wins(z, with(p, i, b))))" } ∷
    []

-- the library of a kind
abbrev pub library : Kind → List Entry
library Choice = choice
library Ranking = ranking
library Sets = sets

-- the text that stands first under a name
abbrev pub text_among : List Entry → List ℕ → Option (List ℕ)
text_among [] name = None
text_among (e ∷ entries) name = if bytes_eq e.name name then Some e.text else text_among entries name

-- the text that the library of a kind has under a name
abbrev pub text_under : Kind → List ℕ → Option (List ℕ)
text_under kind name = text_among (library kind) name
