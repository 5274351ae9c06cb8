-- How large a sentence is.
use Rattle.std.specs.Prelude.{ℕ, ◌+◌, ◌*◌, max, Bool, ◌&&◌, nat_le, List, map}
use Rattle.vocab.specs.Formula.{prefix_of, body_of}
use Rattle.vocab.specs.Range.{product}
use Rattle.vocab.specs.Size.{Extent, sort_count}
use Rattle.vocab.specs.Tree.{TermTree, Var, Const, With, SwapVoters, SwapAlts, Swap, AtomTree, Equal, Prefers, Better, Casts, Majority, WinsAt, Ranks, Tree, Leaf, Not, Both, Either, Implies, Same, All, Exists}

-- a variable or a constant has depth 1, and what has parts one more than the deepest
abbrev pub term_depth : TermTree → ℕ
term_depth (Var level) = 1
term_depth (Const c) = 1
term_depth (With p i b) = max (term_depth p) (max (term_depth i) (term_depth b)) + 1
term_depth (SwapVoters p i j) = max (term_depth p) (max (term_depth i) (term_depth j)) + 1
term_depth (SwapAlts p x y) = max (term_depth p) (max (term_depth x) (term_depth y)) + 1
term_depth (Swap x y z) = max (term_depth x) (max (term_depth y) (term_depth z)) + 1

-- an atom is one deeper than the deepest of its terms
abbrev pub atom_depth : AtomTree → ℕ
atom_depth (Equal s t) = max (term_depth s) (term_depth t) + 1
atom_depth (Prefers i x y p) = max (max (term_depth i) (term_depth x)) (max (term_depth y) (term_depth p)) + 1
atom_depth (Better b x y) = max (term_depth b) (max (term_depth x) (term_depth y)) + 1
atom_depth (Casts i b p) = max (term_depth i) (max (term_depth b) (term_depth p)) + 1
atom_depth (Majority x y p) = max (term_depth x) (max (term_depth y) (term_depth p)) + 1
atom_depth (WinsAt x p) = max (term_depth x) (term_depth p) + 1
atom_depth (Ranks x y p) = max (term_depth x) (max (term_depth y) (term_depth p)) + 1

-- a formula is as deep as its atom, or one deeper than the deepest of its parts
abbrev pub depth : Tree → ℕ
depth (Leaf a) = atom_depth a
depth (Not f) = depth f + 1
depth (Both f g) = max (depth f) (depth g) + 1
depth (Either f g) = max (depth f) (depth g) + 1
depth (Implies f g) = max (depth f) (depth g) + 1
depth (Same f g) = max (depth f) (depth g) + 1
depth (All s f) = depth f + 1
depth (Exists s f) = depth f + 1

-- how many values each leading universal ranges over
abbrev pub bases_of : Extent → Tree → List ℕ
bases_of size sentence = map (sort_count size) (prefix_of sentence)

-- a sentence has an instance for each list of values of its leading universals
abbrev pub instance_count : Extent → Tree → ℕ
instance_count size sentence = product (bases_of size sentence)

-- the atoms of a formula, where each quantifier is written out
abbrev pub atom_count : Extent → Tree → ℕ
atom_count size (Leaf a) = 1
atom_count size (Not f) = atom_count size f
atom_count size (Both f g) = atom_count size f + atom_count size g
atom_count size (Either f g) = atom_count size f + atom_count size g
atom_count size (Implies f g) = atom_count size f + atom_count size g
atom_count size (Same f g) = atom_count size f + atom_count size g
atom_count size (All s f) = sort_count size s * atom_count size f
atom_count size (Exists s f) = sort_count size s * atom_count size f

-- the limits of the bench: depth 64, 40,000,000 instances, 1,000,000 atoms in the body and 200,000,000 in the whole
abbrev pub is_within_limits : Extent → Tree → Bool
is_within_limits size f =
    nat_le (depth f) 64 && nat_le (instance_count size f) 40000000 && nat_le (atom_count size (body_of f)) 1000000 && nat_le (atom_count size f) 200000000
