-- Lanes: the values of the last leading universals of a sentence, and what tables and plans tell at them.
use Rattle.std.specs.Prelude.{◌≡◌, ℕ, ◌+◌, ◌<◌, ◌≤◌, ◌⊎◌, ◌%◌, zero, suc, List, [], ◌∷◌, ◌++◌, length, nat_eq, take, drop, slice_index, IsTrue}
use Rattle.std.specs.List.{list_any}
use Rattle.std.specs.Int.{bit_at}
use Rattle.vocab.specs.declared.kinds.Sort.{Sort}
use Rattle.vocab.specs.Formula.{body_of}
use Rattle.vocab.specs.Range.{product}
use Rattle.vocab.specs.Limits.{bases_of, instance_count}
use Rattle.vocab.specs.Size.{Extent}
use Rattle.vocab.specs.Study.{is_sentence}
use Rattle.vocab.specs.Titled.{Titled}
use Rattle.vocab.specs.Tree.{Tree, Not, Both, Either, Implies, Same, All, Exists}
use Rattle.meaning.specs.Clauses.{known_truth}
use Rattle.meaning.specs.declared.three.Three.TheVariants.{True}
use Rattle.meaning.specs.Instances.{instance_values}
use Rattle.meaning.specs.Space.{digits_of}
use Rattle.meaning.specs.StudyClauses.{instance_of}
use Rattle.meaning.specs.Written.{write_out}
use Rattle.worlds.specs.Conditions.{IsEvaluable}
use Rattle.lanes.specs.Covers.{covers_leaf}
use Rattle.lanes.specs.Marks.{IsTold}
use Rattle.lanes.specs.declared.plans.Part.{Part}
use Rattle.lanes.specs.declared.plans.Part.TheVariants.{Nothing, Known, One', Two'}
use Rattle.lanes.specs.declared.shapes.Shape.{Shape}
use Rattle.lanes.specs.declared.tables.Entry.{Entry}
use Rattle.lanes.specs.declared.tables.Table.{Table}
use Rattle.lanes.specs.declared.telling.Plan.{Plan}

-- two environments have the same values at some levels
abbrev pub AreSameAt : List ℕ → List ℕ → List ℕ → Type 0
AreSameAt levels a b = (level : ℕ) → IsTrue (list_any (nat_eq level) levels) → slice_index a level ≡ slice_index b level

-- the environment at a lane: the values of the universals that are no lanes, those of the lanes, and those of the quantifiers inside
abbrev pub lane_values : Shape → ℕ → ℕ → List ℕ → List ℕ
lane_values shape first k env = take shape.outer env ++ digits_of shape.bases (first + k) ++ drop (shape.outer + length shape.bases) env

-- the number of an instance within its group
abbrev pub place_in : ℕ → List ℕ → ℕ → ℕ
place_in zero bases n = n
place_in (suc outer) [] n = n
place_in (suc outer) (b ∷ bases) n = place_in outer bases (n % product bases)

-- how many instances each value of some universals is worth
abbrev pub strides : List ℕ → List ℕ
strides [] = []
strides (b ∷ bases) = product bases ∷ strides bases

-- each bit of a word was set in an earlier one, or is one of some bits of another word, moved
abbrev pub AreMoved : (word done lanes other shift all : ℕ) → Type 0
AreMoved word done lanes other shift all = (j : ℕ) → bit_at all j ≡ 1 →
    (bit_at word j ≡ 1) ⊎ ((k : ℕ) × (k < lanes) × (j ≡ done + k) × (bit_at other (shift + k) ≡ 1))

-- one value below each of some counts
abbrev pub AreBelow : List ℕ → List ℕ → Type 0
AreBelow [] [] = Unit {0}
AreBelow (v ∷ vs) (c ∷ cs) = (v < c) × AreBelow vs cs
AreBelow _ _ = ⊥

module _ (size : Extent) where
  -- an entry tells of a formula at its lanes
  pub record IsEntry (shape : Shape) (f : Tree) (e : Entry) : Type 0 where
    pub long : shape.outer + length shape.bases ≤ length e.values
    pub told : (k : ℕ) → e.first + k < product shape.bases → IsTold e.marks k (write_out size f (lane_values shape e.first k e.values))

  -- each of some entries does
  abbrev pub AreEntries : Shape → Tree → List Entry → Type 0
  AreEntries shape f [] = Unit {0}
  AreEntries shape f (e ∷ es) = IsEntry shape f e × AreEntries shape f es

  -- a table keeps what its atom reads, of the lanes those that repeat with its period, and its entries tell of it
  pub record IsTable (shape : Shape) (f : Tree) (t : Table) : Type 0 where
    pub covered : IsTrue (covers_leaf shape t.skip t.levels.items f)
    pub period : t.period ≡ product (drop t.skip shape.bases)
    pub entries : AreEntries shape f t.entries.items

  -- the tables of the atoms of a formula
  abbrev pub IsPart : Shape → Part → Tree → Type 0
  IsPart shape Nothing f = Unit {0}
  IsPart shape (Known t) f = IsTable shape f t
  IsPart shape (One' _ p) (Not f) = IsPart shape p f
  IsPart shape (One' _ p) (All s f) = IsPart shape p f
  IsPart shape (One' _ p) (Exists s f) = IsPart shape p f
  IsPart shape (Two' _ p _ q) (Both f g) = IsPart shape p f × IsPart shape q g
  IsPart shape (Two' _ p _ q) (Either f g) = IsPart shape p f × IsPart shape q g
  IsPart shape (Two' _ p _ q) (Implies f g) = IsPart shape p f × IsPart shape q g
  IsPart shape (Two' _ p _ q) (Same f g) = IsPart shape p f × IsPart shape q g
  IsPart shape _ _ = ⊥

  -- what is there for each formula with this one part
  pub record IsOnePart (shape : Shape) (p : Part) (f : Tree) : Type 0 where
    pub negation : IsPart shape p (Not f)
    pub universal : (s : Sort) → IsPart shape p (All s f)
    pub existential : (s : Sort) → IsPart shape p (Exists s f)

  -- what is there for each formula with these two parts
  pub record IsTwoPart (shape : Shape) (p : Part) (f g : Tree) : Type 0 where
    pub conjunction : IsPart shape p (Both f g)
    pub disjunction : IsPart shape p (Either f g)
    pub implication : IsPart shape p (Implies f g)
    pub equivalence : IsPart shape p (Same f g)

  -- the last leading universals of a sentence are lanes
  pub record IsShape (sentence : Tree) (shape : Shape) : Type 0 where
    pub outer : shape.outer ≤ length (bases_of size sentence)
    pub bases : shape.bases ≡ drop shape.outer (bases_of size sentence)

  -- the plan of a sentence
  pub record IsPlan (sentence : Tree) (plan : Plan) : Type 0 where
    pub shape : IsShape sentence plan.shape
    pub group : plan.group ≤ product plan.shape.bases
    pub strides : plan.strides ≡ strides (bases_of size sentence)
    pub part : IsPart plan.shape plan.part.value (body_of sentence)

  -- a sentence, its lanes, and how many lanes and instances there are
  pub record IsSetting (a : Titled) (shape : Shape) (group count : ℕ) : Type 0 where
    pub sentence : IsTrue (is_sentence size a)
    pub few : instance_count size a.sentence ≤ 40000000
    pub shaped : IsShape a.sentence shape
    pub lanes : group ≤ product shape.bases
    pub instances : count ≡ instance_count size a.sentence

  -- a formula can be evaluated at all values of the quantifiers around it
  abbrev pub IsEvaluableUnder : List ℕ → Tree → List ℕ → Type 0
  IsEvaluableUnder [] f env = IsEvaluable size f env
  IsEvaluableUnder (c ∷ cs) f env = (v : ℕ) → v < c → IsEvaluableUnder cs f (env ++ v ∷ [])

  -- at each instance
  abbrev pub IsInside : Tree → List ℕ → Tree → Type 0
  IsInside sentence counts f = (n : ℕ) → n < instance_count size sentence → IsEvaluableUnder counts f (instance_values size sentence n)

  -- a bit of a word that is set tells that an instance is there and known to be true
  abbrev pub IsToldFrom : Tree → ℕ → ℕ → Type 0
  IsToldFrom sentence number word = (k : ℕ) → bit_at word k ≡ 1 →
      (number + k < instance_count size sentence) × (known_truth (instance_of size sentence (number + k)) ≡ True)

  -- a formula is an implication, and its left side is known to be true
  abbrev pub HasKnownPremise : Tree → List ℕ → Type 0
  HasKnownPremise (Implies f g) env = known_truth (write_out size f env) ≡ True
  HasKnownPremise _ env = ⊥

  -- a bit of a word that is set tells that an instance is there, and that it is an implication whose left side is known to be true
  abbrev pub IsPremiseToldFrom : Tree → ℕ → ℕ → Type 0
  IsPremiseToldFrom sentence number word = (k : ℕ) → bit_at word k ≡ 1 →
      (number + k < instance_count size sentence) × HasKnownPremise (body_of sentence) (instance_values size sentence (number + k))
