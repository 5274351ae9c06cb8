-- Which variables an atom reads.
use Rattle.std.specs.Prelude.{ℕ, ◌-◌, Bool, true, false, ◌&&◌, ◌||◌, nat_eq, nat_le, nat_lt, List, length}
use Rattle.std.specs.List.{list_any}
use Rattle.vocab.specs.Tree.{TermTree, AtomTree, Tree, Leaf, Var, Const, With, SwapVoters, SwapAlts, Swap, Equal, Prefers, Better, Casts, Majority, WinsAt, Ranks}
use Rattle.lanes.specs.declared.shapes.Shape.{Shape}

-- a level is that of no lane
abbrev pub is_no_lane : Shape → ℕ → Bool
is_no_lane shape level = nat_lt level shape.outer || nat_le (length shape.bases) (level - shape.outer)

-- a level is that of a lane, but for so many of the first
abbrev pub is_lane : Shape → ℕ → ℕ → Bool
is_lane shape skip level = nat_le shape.outer level && nat_le skip (level - shape.outer) && nat_lt (level - shape.outer) (length shape.bases)

module _ (shape : Shape) (skip : ℕ) (levels : List ℕ) where
  -- a level is that of such a lane, or among some and that of no lane
  abbrev pub is_kept : ℕ → Bool
  is_kept level = is_lane shape skip level || (is_no_lane shape level && list_any (nat_eq level) levels)

  -- each variable of a term is kept
  abbrev pub covers_term : TermTree → Bool
  covers_term (Var level) = is_kept level
  covers_term (Const c) = true
  covers_term (With p i b) = covers_term p && covers_term i && covers_term b
  covers_term (SwapVoters p i j) = covers_term p && covers_term i && covers_term j
  covers_term (SwapAlts p x y) = covers_term p && covers_term x && covers_term y
  covers_term (Swap x y z) = covers_term x && covers_term y && covers_term z

  -- each variable that decides what is known of an atom whatever the rule is kept
  abbrev pub covers_atom : AtomTree → Bool
  covers_atom (Equal s t) = covers_term s && covers_term t
  covers_atom (Prefers i x y p) = covers_term i && covers_term x && covers_term y && covers_term p
  covers_atom (Better b x y) = covers_term b && covers_term x && covers_term y
  covers_atom (Casts i b p) = covers_term i && covers_term b && covers_term p
  covers_atom (Majority x y p) = covers_term x && covers_term y && covers_term p
  covers_atom (WinsAt x p) = true
  covers_atom (Ranks x y p) = covers_term x && covers_term y

  -- the same of a formula that is an atom; of any other it is false
  abbrev pub covers_leaf : Tree → Bool
  covers_leaf (Leaf a) = covers_atom a
  covers_leaf _ = false
