-- Known literals of a size, on a board.
use Rattle.std.specs.Prelude.{◌≡◌, ℕ, ◌+◌, ◌*◌, ◌≤◌, Bool, true, false, not, ◌&&◌, List, [], ◌∷◌, length, filter, slice_index_or, sum_by, IsTrue}
use Rattle.std.specs.List.{list_all}
use Rattle.vocab.specs.declared.kinds.Sort.TheVariants.{Profile}
use Rattle.vocab.specs.declared.literals.Literal.{Literal}
use Rattle.vocab.specs.declared.literals.Literal.TheVariants.{Wins, Loses, Above}
use Rattle.vocab.specs.Literal.{same_literal, has}
use Rattle.vocab.specs.Size.{Extent, IsSize, sort_count}
use Rattle.meaning.specs.Literals.{is_literal}

-- what a board is to a contract: a size, and the literals of it that are known, in the order in which they came
pub record Known : Type 0 where
  pub size : Extent
  pub literals : List Literal

-- the literals but this one
abbrev pub without_literal : Literal → List Literal → List Literal
without_literal l literals = filter (λ k. not (same_literal l k)) literals

-- no literal stands twice
abbrev pub are_distinct : List Literal → Bool
are_distinct [] = true
are_distinct (l ∷ literals) = not (has literals l) && are_distinct literals

-- the place of a literal's mark: each profile has 25 places
abbrev pub mark_of : Literal → ℕ
mark_of (Wins x p) = p * 25 + x * 5
mark_of (Loses x p) = p * 25 + x * 5 + 1
mark_of (Above x y p) = p * 25 + x * 5 + y

-- a place without a mark is free
abbrev pub free : Bool → ℕ
free true = 0
free false = 1

-- the literals are distinct and of the size, each has its mark and no other has one, and there is room for one at each free place
pub record IsBoard (size : Extent) (literals : List Literal) (capacity : ℕ) (marks : List Bool) : Type 0 where
  pub valid : IsSize size
  pub wide : length marks ≡ sort_count size Profile * 25
  pub marked : (l : Literal) → IsTrue (is_literal size l) → slice_index_or marks (mark_of l) false ≡ has literals l
  pub ours : IsTrue (list_all (is_literal size) literals)
  pub distinct : IsTrue (are_distinct literals)
  pub room : length literals + sum_by free marks ≡ length marks
  pub capacious : length marks ≤ capacity
