-- The clauses of a formula of one sign, and formulas that can be evaluated part by part.
use Rattle.std.specs.Prelude.{◌≡◌, ℕ, ◌<◌, Bool, true, false, List, [], ◌∷◌, ◌++◌, length, IsTrue}
use Rattle.vocab.specs.declared.literals.Literal.{Literal}
use Rattle.vocab.specs.Size.{Extent, sort_count}
use Rattle.vocab.specs.Tree.{Tree, Leaf, Not, Both, Either, Implies, Same, All, Exists}
use Rattle.meaning.specs.Clauses.{Disjunction, joined, known_truth, minus, plus}
use Rattle.meaning.specs.Kleene.{three_of}
use Rattle.meaning.specs.declared.three.Three.TheVariants.{Unknown}
use Rattle.meaning.specs.Literals.{is_literal}
use Rattle.meaning.specs.Variables.{lit_of}
use Rattle.meaning.specs.Written.{Written, Fact}
use Rattle.worlds.specs.Conditions.{IsFormulaAt}
use Rattle.clause_form.specs.Rows.{IsRows}
use Rattle.clause_form.specs.declared.signed.Short.{Short}
use Rattle.clause_form.specs.declared.signed.Short.TheVariants as short
use Rattle.clause_form.specs.declared.signed.Side.{Side}
use Rattle.clause_form.specs.declared.signed.Side.TheVariants.{Known, Open}

-- the plus clauses for the positive sign, and else the minus clauses
abbrev pub rows_of : Bool → Written → List Disjunction
rows_of true w = plus w
rows_of false w = minus w

-- the disjunctions of both, or each of the one joined with each of the other
abbrev pub met : Bool → List Disjunction → List Disjunction → List Disjunction
met true xs ys = xs ++ ys
met false xs ys = joined xs ys

-- what is known of it, or its clauses of this sign where nothing is
abbrev pub IsSide : Extent → Bool → Side → Written → Type 0
IsSide size positive (Known b) w = known_truth w ≡ three_of b
IsSide size positive (Open r) w = (known_truth w ≡ Unknown) × IsRows size r (rows_of positive w)

-- a formula is this literal
pub record IsFact (size : Extent) (w : Written) (l : Literal) : Type 0 where
  pub literal : IsTrue (is_literal size l)
  pub fact : w ≡ Fact l

-- what is known of it, or the literal that it is; or nothing is said
abbrev pub IsShort : Extent → Short → Written → Type 0
IsShort size (short.Known b) w = known_truth w ≡ three_of b
IsShort size (short.Fact lit) w = (l : Literal) × IsFact size w l × (lit ≡ lit_of size l)
IsShort size short.Joined w = Unit {0}

module _ (size : Extent) where
  -- the formula can be evaluated, and so can each part of it at all values of the quantifiers around it
  abbrev pub IsSound : Tree → List ℕ → Type 0
  IsSound (Leaf a) env = IsFormulaAt size (Leaf a) env
  IsSound (Not f) env = IsFormulaAt size (Not f) env × IsSound f env
  IsSound (Both f g) env = IsFormulaAt size (Both f g) env × IsSound f env × IsSound g env
  IsSound (Either f g) env = IsFormulaAt size (Either f g) env × IsSound f env × IsSound g env
  IsSound (Implies f g) env = IsFormulaAt size (Implies f g) env × IsSound f env × IsSound g env
  IsSound (Same f g) env = IsFormulaAt size (Same f g) env × IsSound f env × IsSound g env
  IsSound (All s f) env = IsFormulaAt size (All s f) env × (length env < 12) × ((v : ℕ) → v < sort_count size s → IsSound f (env ++ v ∷ []))
  IsSound (Exists s f) env = IsFormulaAt size (Exists s f) env × (length env < 12) × ((v : ℕ) → v < sort_count size s → IsSound f (env ++ v ∷ []))
