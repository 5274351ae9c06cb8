-- The clauses of a written-out formula, by distribution.
use Rattle.std.specs.Prelude.{List, [], ◌∷◌, ◌++◌, map}
use Rattle.std.specs.List.{flat_map}
use Rattle.vocab.specs.declared.literals.Literal.{Literal}
use Rattle.vocab.specs.Literal.{opposite_of}
use Rattle.meaning.specs.declared.three.Three.{Three}
use Rattle.meaning.specs.declared.three.Three.TheVariants.{True, False, Unknown}
use Rattle.meaning.specs.Kleene.{partial_truth}
use Rattle.meaning.specs.Written.{Written, Known, Fact, Neg, And, Or, Iff}

-- a disjunction of literals: a clause before its literals are numbered
abbrev pub Disjunction : Type 0
Disjunction = List Literal

-- each of one list joined with each of the other: what `|` distributes over `&` to
abbrev pub joined : List Disjunction → List Disjunction → List Disjunction
joined xs ys = flat_map (λ c. map (λ d. c ++ d) ys) xs

-- what is known of a formula whatever the rule: under no literal
abbrev pub known_truth : Written → Three
known_truth w = partial_truth [] w

-- the clauses that say that a formula is true: none where it is known to be, and the empty clause where it is known to be false
abbrev pub for_truth : Three → List Disjunction → List Disjunction
for_truth True row = []
for_truth False row = [] ∷ []
for_truth Unknown row = row

-- the clauses that say that a formula is false: none where it is known to be, and the empty clause where it is known to be true
abbrev pub for_falsity : Three → List Disjunction → List Disjunction
for_falsity True row = [] ∷ []
for_falsity False row = []
for_falsity Unknown row = row

-- the plus clauses of a formula say that it is true, and its minus clauses that it is false; what is known goes before all else
abbrev mutual
  pub plus : Written → List Disjunction
  plus (Known b) = for_truth (known_truth (Known b)) []
  plus (Fact l) = (l ∷ []) ∷ []
  plus (Neg a) = for_truth (known_truth (Neg a)) (minus a)
  plus (And a b) = for_truth (known_truth (And a b)) (plus a ++ plus b)
  plus (Or a b) = for_truth (known_truth (Or a b)) (joined (plus a) (plus b))
  -- (!a | b) & (a | !b)
  plus (Iff a b) = for_truth (known_truth (Iff a b)) (joined (minus a) (plus b) ++ joined (plus a) (minus b))

  pub minus : Written → List Disjunction
  minus (Known b) = for_falsity (known_truth (Known b)) []
  minus (Fact l) = (opposite_of l ∷ []) ∷ []
  minus (Neg a) = for_falsity (known_truth (Neg a)) (plus a)
  minus (And a b) = for_falsity (known_truth (And a b)) (joined (minus a) (minus b))
  minus (Or a b) = for_falsity (known_truth (Or a b)) (minus a ++ minus b)
  -- (!a | !b) & (a | b)
  minus (Iff a b) = for_falsity (known_truth (Iff a b)) (joined (minus a) (minus b) ++ joined (plus a) (plus b))
