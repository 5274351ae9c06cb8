-- A formula closed by values: they stand in place of its outer variables, as constants, and its other variables are lowered.
use Rattle.std.specs.Prelude.{ℕ, ◌-◌, nat_lt, List, length, slice_index, if◌then◌else◌}
use Rattle.vocab.specs.Formula.{body_of}
use Rattle.vocab.specs.Titled.{Titled}
use Rattle.vocab.specs.Tree.{TermTree, AtomTree, Tree, Var, Const, With, SwapVoters, SwapAlts, Swap, Equal, Prefers, Better, Casts, Majority, WinsAt, Ranks, Leaf, Not, Both, Either, Implies, Same, All, Exists}

module _ (values : List ℕ) where
  -- a variable that has a value is that constant, and another one is a variable of fewer quantifiers
  abbrev pub closed_variable : ℕ → TermTree
  closed_variable level = if nat_lt level (length values) then Const (slice_index values level) else Var (level - length values)

  -- a term closed by the values
  abbrev pub closed_term : TermTree → TermTree
  closed_term (Var level) = closed_variable level
  closed_term (Const c) = Const c
  closed_term (With p i b) = With (closed_term p) (closed_term i) (closed_term b)
  closed_term (SwapVoters p i j) = SwapVoters (closed_term p) (closed_term i) (closed_term j)
  closed_term (SwapAlts p x y) = SwapAlts (closed_term p) (closed_term x) (closed_term y)
  closed_term (Swap x y z) = Swap (closed_term x) (closed_term y) (closed_term z)

  -- an atom
  abbrev pub closed_atom : AtomTree → AtomTree
  closed_atom (Equal s t) = Equal (closed_term s) (closed_term t)
  closed_atom (Prefers i x y p) = Prefers (closed_term i) (closed_term x) (closed_term y) (closed_term p)
  closed_atom (Better b x y) = Better (closed_term b) (closed_term x) (closed_term y)
  closed_atom (Casts i b p) = Casts (closed_term i) (closed_term b) (closed_term p)
  closed_atom (Majority x y p) = Majority (closed_term x) (closed_term y) (closed_term p)
  closed_atom (WinsAt x p) = WinsAt (closed_term x) (closed_term p)
  closed_atom (Ranks x y p) = Ranks (closed_term x) (closed_term y) (closed_term p)

  -- a formula
  abbrev pub closed : Tree → Tree
  closed (Leaf a) = Leaf (closed_atom a)
  closed (Not f) = Not (closed f)
  closed (Both f g) = Both (closed f) (closed g)
  closed (Either f g) = Either (closed f) (closed g)
  closed (Implies f g) = Implies (closed f) (closed g)
  closed (Same f g) = Same (closed f) (closed g)
  closed (All s f) = All s (closed f)
  closed (Exists s f) = Exists s (closed f)

-- the body of an instance of an axiom, by the values of its leading universals, as a sentence of its own
abbrev pub closed_body : Titled → List ℕ → Tree
closed_body a values = closed values (body_of a.sentence)
