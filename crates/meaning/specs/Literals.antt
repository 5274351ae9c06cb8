-- Literals of a size.
use Rattle.std.specs.Prelude.{Bool, false, not, ◌&&◌, ◌==◌, nat_lt}
use Rattle.vocab.specs.declared.kinds.Kind.{Kind}
use Rattle.vocab.specs.declared.kinds.Kind.TheVariants.{Choice, Ranking, Sets}
use Rattle.vocab.specs.declared.kinds.Sort.TheVariants.{Profile}
use Rattle.vocab.specs.declared.literals.Literal.{Literal}
use Rattle.vocab.specs.declared.literals.Literal.TheVariants.{Wins, Loses, Above}
use Rattle.vocab.specs.Size.{Extent, sort_count}

module _ (size : Extent) where
  -- a literal says whether an alternative wins at a profile, both in range
  abbrev pub is_of_winner : Literal → Bool
  is_of_winner (Wins x p) = nat_lt x size.alternatives && nat_lt p (sort_count size Profile)
  is_of_winner (Loses x p) = nat_lt x size.alternatives && nat_lt p (sort_count size Profile)
  is_of_winner (Above x y p) = false

  -- a literal compares two different alternatives at a profile, all in range
  abbrev pub is_comparison : Literal → Bool
  is_comparison (Wins x p) = false
  is_comparison (Loses x p) = false
  is_comparison (Above x y p) = nat_lt x size.alternatives && nat_lt y size.alternatives && not (x == y) && nat_lt p (sort_count size Profile)

  -- a literal is one of the kind, with its alternatives and its profile in range
  abbrev pub is_literal_of : Kind → Literal → Bool
  is_literal_of Choice l = is_of_winner l
  is_literal_of Ranking l = is_comparison l
  is_literal_of Sets l = is_of_winner l

  -- a literal is one of the size
  abbrev pub is_literal : Literal → Bool
  is_literal l = is_literal_of size.kind l
