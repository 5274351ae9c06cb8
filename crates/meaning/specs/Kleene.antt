-- Partial truth: what is known of a formula under some literals, by the strong three-valued connectives of Kleene (Introduction to Metamathematics, 1952).
use Rattle.std.specs.Prelude.{Bool, true, false, List, if◌then◌else◌}
use Rattle.vocab.specs.declared.literals.Literal.{Literal}
use Rattle.vocab.specs.Literal.{opposite_of, has}
use Rattle.meaning.specs.declared.three.Three.{Three}
use Rattle.meaning.specs.declared.three.Three.TheVariants.{True, False, Unknown}
use Rattle.meaning.specs.Written.{Written, Known, Fact, Neg, And, Or, Iff}

-- a truth value is known
abbrev pub three_of : Bool → Three
three_of true = True
three_of false = False

-- not
abbrev pub three_not : Three → Three
three_not True = False
three_not False = True
three_not Unknown = Unknown

-- and: false where a side is, true where both are, and else unknown
abbrev pub three_and : Three → Three → Three
three_and False b = False
three_and True b = b
three_and Unknown False = False
three_and Unknown True = Unknown
three_and Unknown Unknown = Unknown

-- or: true where a side is, false where both are, and else unknown
abbrev pub three_or : Three → Three → Three
three_or True b = True
three_or False b = b
three_or Unknown True = True
three_or Unknown False = Unknown
three_or Unknown Unknown = Unknown

-- if and only if: unknown where a side is, and else whether they agree
abbrev pub three_same : Three → Three → Three
three_same Unknown b = Unknown
three_same True b = b
three_same False b = three_not b

-- a literal is true where it is known, false where its opposite is, and else unknown
abbrev pub three_literal : List Literal → Literal → Three
three_literal known l = if has known l then True else (if has known (opposite_of l) then False else Unknown)

-- what is known of a written-out formula, where some literals are
abbrev pub partial_truth : List Literal → Written → Three
partial_truth known (Known b) = three_of b
partial_truth known (Fact l) = three_literal known l
partial_truth known (Neg a) = three_not (partial_truth known a)
partial_truth known (And a b) = three_and (partial_truth known a) (partial_truth known b)
partial_truth known (Or a b) = three_or (partial_truth known a) (partial_truth known b)
partial_truth known (Iff a b) = three_same (partial_truth known a) (partial_truth known b)
