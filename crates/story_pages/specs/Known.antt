-- What is known at a profile at the end of a lemma.
use Rattle.std.specs.Prelude.{ℕ, ◌+◌, ◌==◌, List, [], ◌∷◌, ◌++◌, codes, if◌then◌else◌}
use Rattle.std.specs.Fmt.{decimal}
use Rattle.std.specs.List.{flat_map}
use Rattle.vocab.specs.declared.literals.Literal.{Literal}
use Rattle.vocab.specs.declared.literals.Literal.TheVariants.{Wins, Loses, Above}
use Rattle.vocab.specs.Literal.{profile_of}
use Rattle.tellings.specs.declared.tellings.Placed.{Placed}
use Rattle.html.specs.Facts.{letter_of}

-- a fact in a cell: x wins, x does not win, or x stands above y
abbrev pub fact_mark : Literal → List ℕ
fact_mark (Wins x p) = letter_of x ∷ []
fact_mark (Loses x p) = codes "<s>" ++ letter_of x ∷ [] ++ codes "</s>"
fact_mark (Above x y p) = letter_of x ∷ letter_of y ∷ []

-- a supposition
abbrev pub grey_mark : Literal → List ℕ
grey_mark l = codes "<u>" ++ fact_mark l ++ codes "</u> "

-- a supposition in the cell of a profile
abbrev pub supposed_mark : ℕ → Literal → List ℕ
supposed_mark p l = if profile_of l == p then grey_mark l else []

-- the number of a sentence
abbrev pub small_number : Placed → List ℕ
small_number placed = codes "<sup>" ++ decimal (placed.sentence + 1) ++ codes "</sup>"

-- a fact that is forced, with the number of its sentence among those that come first
abbrev pub grey_numbered_mark : Placed → List ℕ
grey_numbered_mark placed = codes "<u>" ++ fact_mark placed.step.literal ++ small_number placed ++ codes "</u> "

-- such a fact in the cell of a profile
abbrev pub forced_mark : ℕ → Placed → List ℕ
forced_mark p placed = if profile_of placed.step.literal == p then grey_numbered_mark placed else []

-- a fact that the lemma states, with the number of its sentence
abbrev pub numbered_mark : Placed → List ℕ
numbered_mark placed = fact_mark placed.step.literal ++ small_number placed ++ codes " "

-- such a fact in the cell of a profile
abbrev pub stated_mark : ℕ → Placed → List ℕ
stated_mark p placed = if profile_of placed.step.literal == p then numbered_mark placed else []

-- what is known at a profile at the end of a lemma: supposed, forced and stated
abbrev pub known_html : (suppose : List Literal) (forced steps : List Placed) → ℕ → List ℕ
known_html suppose forced steps p = flat_map (supposed_mark p) suppose ++ flat_map (forced_mark p) forced ++ flat_map (stated_mark p) steps
