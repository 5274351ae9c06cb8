-- What a sentence resolves to.
use Rattle.std.specs.Prelude.{List, [], ◌∷◌, Result, Ok, Err}
use Rattle.vocab.specs.NamedTree.{NamedTree}
use Rattle.vocab.specs.Size.{Extent}
use Rattle.vocab.specs.Tree.{Tree}
use Rattle.sorts.specs.declared.faults.SortFault.{SortFault}
use Rattle.sorts.specs.Faults.{faults}
use Rattle.sorts.specs.Resolved.{resolved}

-- the first fault, or else the tree
abbrev pub first_or : List SortFault → Tree → Result Tree SortFault
first_or [] t = Ok t
first_or (first ∷ later) t = Err first

-- a sentence resolves to its tree, or to the first of its faults
unfoldable pub answer_of : Extent → NamedTree → Result Tree SortFault
answer_of size f = first_or (faults size [] f) (resolved size [] f)
