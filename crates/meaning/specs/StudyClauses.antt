-- The clauses of a study, each with its origin: the encoding of Tang and Lin (2009) and Geist and Peters (2017).
use Rattle.std.specs.Prelude.{ℕ, not, nat_lt, List, [], ◌∷◌, ◌++◌, map, filter, slice_get, Option, Some, None, if◌then◌else◌}
use Rattle.std.specs.List.{flat_map, list_any}
use Rattle.std.specs.Cmp.Lexicographic.{pointwise}
use Rattle.vocab.specs.declared.kinds.Kind.{Kind}
use Rattle.vocab.specs.declared.kinds.Kind.TheVariants.{Choice, Ranking, Sets}
use Rattle.vocab.specs.declared.kinds.Sort.TheVariants.{Profile}
use Rattle.vocab.specs.declared.literals.Literal.TheVariants.{Wins, Loses, Above}
use Rattle.vocab.specs.Formula.{body_of}
use Rattle.vocab.specs.Limits.{instance_count}
use Rattle.vocab.specs.Size.{Extent, sort_count}
use Rattle.vocab.specs.Titled.{Titled}
use Rattle.vocab.specs.Tree.{Tree}
use Rattle.cnf.specs.Signed.{Signed}
use Rattle.cnf.specs.Sat.{Clause, same_lit, is_tautology}
use Rattle.meaning.specs.declared.clauses.Origin.{Origin}
use Rattle.meaning.specs.declared.clauses.Origin.TheVariants.{Frame, Instance}
use Rattle.meaning.specs.Clauses.{Disjunction, plus}
use Rattle.meaning.specs.Instances.{instance_values}
use Rattle.meaning.specs.Space.{below}
use Rattle.meaning.specs.Variables.{pairs, triples, lit_of}
use Rattle.meaning.specs.Written.{Written, write_out}

-- ---- clauses in order

-- a literal put into a sorted clause by its variable, unless it stands there already
abbrev pub sorted_in : Signed → Clause → Clause
sorted_in l [] = l ∷ []
sorted_in l (k ∷ ks) = if nat_lt l.variable k.variable then l ∷ k ∷ ks else (if same_lit l k then k ∷ ks else k ∷ sorted_in l ks)

-- a clause with its literals in the order of their variables, each once
abbrev pub sorted : List Signed → Clause
sorted [] = []
sorted (l ∷ ls) = sorted_in l (sorted ls)

-- ---- clauses with their origins

-- a clause and its origin
pub record Sourced : Type 0 where
  pub clause : Clause
  pub origin : Origin

-- of equal clauses the first, where none equal to it was seen before
abbrev pub firsts : List Clause → List Sourced → List Sourced
firsts seen [] = []
firsts seen (s ∷ rest) = if list_any (pointwise same_lit s.clause) seen then firsts seen rest else s ∷ firsts (s.clause ∷ seen) rest

-- of two alternatives not both win at a profile
abbrev pub not_both : ℕ → ℕ × ℕ → Disjunction
not_both p = λ (x, y). Loses x p ∷ Loses y p ∷ []

-- three alternatives do not stand in a circle at a profile, in either direction
abbrev pub no_circle : ℕ → ℕ × ℕ × ℕ → List Disjunction
no_circle p = λ (x, y, z). (Above y x p ∷ Above z y p ∷ Above x z p ∷ []) ∷ (Above z x p ∷ Above y z p ∷ Above x y p ∷ []) ∷ []

module _ (size : Extent) where
  -- some alternative wins at a profile
  abbrev pub some_winner : ℕ → Disjunction
  some_winner p = map (λ x. Wins x p) (below size.alternatives)

  -- the frame of a profile: some alternative wins and no two do; no three stand in a circle; or some alternative wins
  abbrev pub frame_of : Kind → ℕ → List Disjunction
  frame_of Choice p = some_winner p ∷ map (not_both p) (pairs size.alternatives)
  frame_of Ranking p = flat_map (no_circle p) (triples size.alternatives)
  frame_of Sets p = some_winner p ∷ []

  -- the numbered clauses of some disjunctions, tautologies left out
  abbrev pub clauses_of : List Disjunction → List Clause
  clauses_of rows = filter (λ c. not (is_tautology c)) (map (λ row. sorted (map (lit_of size) row)) rows)

  -- the body of an instance, written out
  abbrev pub instance_of : Tree → ℕ → Written
  instance_of sentence k = write_out size (body_of sentence) (instance_values size sentence k)

  -- the clauses of a profile's frame
  abbrev pub from_frame : ℕ → List Sourced
  from_frame p = map (λ c. record { clause = c; origin = Frame p }) (clauses_of (frame_of size.kind p))

  -- the clauses of one instance of an axiom
  abbrev pub from_instance : ℕ → Tree → ℕ → List Sourced
  from_instance place sentence k = map (λ c. record { clause = c; origin = Instance place k }) (clauses_of (plus (instance_of sentence k)))

  -- the clauses of an axiom, by instance, the first of equal ones kept
  abbrev pub from_axiom : ℕ → Option Titled → List Sourced
  from_axiom place None = []
  from_axiom place (Some a) = firsts [] (flat_map (from_instance place a.sentence) (below (instance_count size a.sentence)))

  -- the clauses of a study for chosen axioms: the frames by profile, and then the axioms in the order of the places chosen, which callers give rising
  abbrev pub study_clauses : List Titled → List ℕ → List Sourced
  study_clauses axioms chosen =
      flat_map from_frame (below (sort_count size Profile)) ++ flat_map (λ place. from_axiom place (slice_get axioms place)) chosen

  -- the clauses alone
  abbrev pub clauses_for : List Titled → List ℕ → List Clause
  clauses_for axioms chosen = map (λ s. s.clause) (study_clauses axioms chosen)
