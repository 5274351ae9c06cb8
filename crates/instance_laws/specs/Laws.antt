-- What the body of an instance in words says: the statement of the law. It is proved as the contract of a function of the same
-- name in src/laws.rt.
use Rattle.std.specs.Prelude.{◌≡◌, ℕ, ◌+◌, ◌≤◌, Bool, true, not, ◌&&◌, nat_lt, List, [], ◌∷◌, ◌++◌, length, slice_get, IsTrue}
use Rattle.std.specs.Cmp.Lexicographic.{pointwise}
use Rattle.vocab.specs.declared.kinds.Sort.{Sort}
use Rattle.vocab.specs.declared.kinds.Sort.TheVariants.{Voter, Alt, Ballot, Profile}
use Rattle.vocab.specs.Formula.{prefix_of, body_of, quantifier_depth}
use Rattle.vocab.specs.Limits.{bases_of}
use Rattle.vocab.specs.Size.{Extent, IsSize, sort_count}
use Rattle.vocab.specs.Sorted.{is_option_sort, same_sort}
use Rattle.vocab.specs.Tree.{TermTree, AtomTree, Tree, Var, Const, With, SwapVoters, SwapAlts, Swap, Equal, Prefers, Better, Casts, Majority, WinsAt, Ranks, Leaf, Not, Both, Either, Implies, Same, All, Exists}
use Rattle.meaning.specs.Truth.{is_true_at}
use Rattle.sorts.specs.NamedTruth.{Assignment, is_named_true}
use Rattle.instance_text.specs.Bodies.{common_sort, named_body, variable_name}

-- the variables of the leading universals with their values, as the lines of an instance have them, the innermost first
abbrev pub with_values : (place : ℕ) → List Sort → (values : List ℕ) → Assignment → Assignment
with_values place [] values outer = outer
with_values place (s ∷ sorts) [] outer = outer
with_values place (s ∷ sorts) (v ∷ values) outer = with_values (place + 1) sorts values ((variable_name s place, v) ∷ outer)

module _ (size : Extent) where
  -- a term of a sort can be written: its parts are of their sorts, and no constant stands for a profile, as none can that is read
  abbrev pub is_term : List Sort → Sort → TermTree → Bool
  is_term sorts s (Var level) = is_option_sort s (slice_get sorts level)
  is_term sorts s (Const c) = not (same_sort s Profile) && nat_lt c (sort_count size s)
  is_term sorts s (With p i b) = is_term sorts Profile p && (is_term sorts Voter i && is_term sorts Ballot b)
  is_term sorts s (SwapVoters p i j) = is_term sorts Profile p && (is_term sorts Voter i && is_term sorts Voter j)
  is_term sorts s (SwapAlts p x y) = is_term sorts Profile p && (is_term sorts Alt x && is_term sorts Alt y)
  is_term sorts s (Swap x y z) = is_term sorts Alt x && (is_term sorts Alt y && is_term sorts Alt z)

  -- an atom
  abbrev pub is_atom : List Sort → AtomTree → Bool
  is_atom sorts (Equal s t) = is_term sorts (common_sort size sorts s t) s && is_term sorts (common_sort size sorts s t) t
  is_atom sorts (Prefers i x y p) = (is_term sorts Voter i && is_term sorts Alt x) && (is_term sorts Alt y && is_term sorts Profile p)
  is_atom sorts (Better b x y) = is_term sorts Ballot b && (is_term sorts Alt x && is_term sorts Alt y)
  is_atom sorts (Casts i b p) = is_term sorts Voter i && (is_term sorts Ballot b && is_term sorts Profile p)
  is_atom sorts (Majority x y p) = is_term sorts Alt x && (is_term sorts Alt y && is_term sorts Profile p)
  is_atom sorts (WinsAt x p) = is_term sorts Alt x && is_term sorts Profile p
  is_atom sorts (Ranks x y p) = is_term sorts Alt x && (is_term sorts Alt y && is_term sorts Profile p)

  -- a formula
  abbrev pub is_formula : List Sort → Tree → Bool
  is_formula sorts (Leaf a) = is_atom sorts a
  is_formula sorts (Not f) = is_formula sorts f
  is_formula sorts (Both f g) = is_formula sorts f && is_formula sorts g
  is_formula sorts (Either f g) = is_formula sorts f && is_formula sorts g
  is_formula sorts (Implies f g) = is_formula sorts f && is_formula sorts g
  is_formula sorts (Same f g) = is_formula sorts f && is_formula sorts g
  is_formula sorts (All s f) = is_formula (sorts ++ s ∷ []) f
  is_formula sorts (Exists s f) = is_formula (sorts ++ s ∷ []) f

-- where the variables have the values that are told of them, the body in words is true of the same rules as the instance
abbrev pub BodiesSayInstances : Type 0
BodiesSayInstances =
    (size : Extent) (sentence : Tree) (values table : List ℕ) → IsSize size → quantifier_depth sentence ≤ 12 →
    IsTrue (is_formula size (prefix_of sentence) (body_of sentence)) → IsTrue (pointwise nat_lt values (bases_of size sentence)) →
    is_named_true size table (with_values 1 (prefix_of sentence) values []) (named_body size sentence values) ≡ is_true_at size table (body_of sentence) values
