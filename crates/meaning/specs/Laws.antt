-- What holds of these definitions: the statements of the laws. Each is proved as the contract of a function of the
-- same name in src/laws.rt; the statements of four stand with their definitions, in Rankings, Digits (two) and Tarski.
use Rattle.std.specs.Prelude.{◌≡◌, ℕ, ◌<◌, ◌≤◌, ◌+◌, ◌*◌, Bool, true, not, ◌&&◌, ◌↔◌, nat_lt, length, List, [], map, slice_get, Option, Some, None, IsTrue, IsFalse}
use Rattle.std.specs.List.{list_all, list_any, AllByRecursion}
use Rattle.vocab.specs.declared.kinds.Sort.{Sort}
use Rattle.vocab.specs.declared.kinds.Sort.TheVariants.{Profile}
use Rattle.vocab.specs.declared.literals.Literal.{Literal}
use Rattle.vocab.specs.Limits.{instance_count}
use Rattle.vocab.specs.Literal.{opposite_of, profile_of, has}
use Rattle.vocab.specs.Size.{Extent, IsSize, sort_count, outcome_count}
use Rattle.vocab.specs.Sorted.{is_of_sort, is_sorted, are_of_sorts}
use Rattle.vocab.specs.Study.{is_sentence}
use Rattle.vocab.specs.Titled.{Titled}
use Rattle.vocab.specs.Tree.{TermTree, Tree}
use Rattle.cnf.specs.Signed.{Signed}
use Rattle.cnf.specs.Sat.{opposite_lit, is_lit_true, is_satisfied, is_falsified}
use Rattle.meaning.specs.declared.three.Three.TheVariants.{True, False}
use Rattle.meaning.specs.declared.stories.Lemma.{Lemma}
use Rattle.meaning.specs.declared.stories.Reason.TheVariants.{Axiom as ByAxiom, Outcome as ByOutcome}
use Rattle.meaning.specs.Space.{below}
use Rattle.meaning.specs.Truth.{value, is_rule, is_true_at, holds_of, holds, satisfies}
use Rattle.meaning.specs.Instances.{instance_values, is_instance_true}
use Rattle.meaning.specs.Literals.{is_literal}
use Rattle.meaning.specs.Written.{Written, Known, Fact, Neg, And, Or, Iff, write_out, evaluate}
use Rattle.meaning.specs.Kleene.{partial_truth}
use Rattle.meaning.specs.Stories.{are_false, refutes, has_literals, is_story}
use Rattle.meaning.specs.StoryFaults.{story_refusal}
use Rattle.meaning.specs.Clauses.{Disjunction, plus, minus}
use Rattle.meaning.specs.Measure.{plus_counts, minus_counts, counts_of}
use Rattle.meaning.specs.Variables.{bits, variable_count, lit_of, literal_of, bits_of}
use Rattle.meaning.specs.declared.clauses.Origin.{Origin}
use Rattle.meaning.specs.declared.clauses.Origin.TheVariants.{Frame, Instance}
use Rattle.meaning.specs.StudyClauses.{Sourced, clauses_for, frame_of, instance_of, study_clauses}

-- ---- terms and formulas

-- the value of a term of a sort is one of the sort, where each variable has a value of its sort
abbrev pub TermsHaveValues : Type 0
TermsHaveValues = (size : Extent) (sorts : List Sort) (env : List ℕ) → IsTrue (are_of_sorts size sorts env) →
    (s : Sort) (t : TermTree) → IsTrue (is_of_sort size sorts s t) → value size env t < sort_count size s

-- a sentence is true of a rule exactly where the body of each instance is
abbrev pub SentencesHaveInstances : Type 0
SentencesHaveInstances = (size : Extent) (table : List ℕ) (sentence : Tree) →
    is_true_at size table sentence [] ≡ list_all (is_instance_true size table sentence) (below (instance_count size sentence))

-- a formula is true of a rule exactly where it is so written out
abbrev pub TruthIsWritten : Type 0
TruthIsWritten = (size : Extent) (table : List ℕ) (f : Tree) (env : List ℕ) →
    is_true_at size table f env ≡ evaluate (holds size table) (write_out size f env)

-- what holds of each literal of a written-out formula
abbrev pub AllFacts : (Literal → Type 0) → Written → Type 0
AllFacts P (Known b) = Unit {0}
AllFacts P (Fact l) = P l
AllFacts P (Neg a) = AllFacts P a
AllFacts P (And a b) = AllFacts P a × AllFacts P b
AllFacts P (Or a b) = AllFacts P a × AllFacts P b
AllFacts P (Iff a b) = AllFacts P a × AllFacts P b

-- the literals of a well-sorted formula are literals of the size
abbrev pub FormulasHaveLiterals : Type 0
FormulasHaveLiterals = (size : Extent) → (sorts : List Sort) (env : List ℕ) → IsTrue (are_of_sorts size sorts env) →
    (f : Tree) → IsTrue (is_sorted size sorts f) → AllFacts (λ l. IsTrue (is_literal size l)) (write_out size f env)

-- of an outcome in range exactly one of a literal of the size and its opposite holds
abbrev pub OneOfOppositesHolds : Type 0
OneOfOppositesHolds = (size : Extent) (o : ℕ) → o < outcome_count size.kind size.alternatives → (l : Literal) → IsTrue (is_literal size l) →
    holds_of size o (opposite_of l) ≡ not (holds_of size o l)

-- ---- partial truth and stories

-- each known literal holds
abbrev pub Hold : (Literal → Bool) → List Literal → Type 0
Hold v known = (l : Literal) → IsTrue (has known l) → IsTrue (v l)

-- a formula that is known to be false under some literals is false of each rule of which they hold, and one that is known to be true is true of it
abbrev pub PartialTruthIsSound : Type 0
PartialTruthIsSound = (size : Extent) (table : List ℕ) (known : List Literal) (f : Tree) (env : List ℕ) → Hold (holds size table) known →
    (partial_truth known (write_out size f env) ≡ False → IsFalse (is_true_at size table f env))
    × (partial_truth known (write_out size f env) ≡ True → IsTrue (is_true_at size table f env))

-- where a story is accepted, no rule satisfies the core
abbrev pub AcceptedStoryHasNoRule : Type 0
AcceptedStoryHasNoRule = (size : Extent) → IsSize size → (axioms : List Titled) (core : List ℕ) (story : List Lemma) → IsTrue (is_story size axioms core story) →
    (table : List ℕ) → ¬ IsTrue (satisfies size axioms core table)

-- a story over literals of the size has no faulty line exactly where it is accepted
abbrev pub FaultlessIsAccepted : Type 0
FaultlessIsAccepted = (size : Extent) (axioms : List Titled) (core : List ℕ) (story : List Lemma) → IsTrue (list_all (has_literals size) story) →
    (story_refusal size axioms core story ≡ None) ↔ IsTrue (is_story size axioms core story)

-- ---- the clauses of a formula

-- the opposite of each literal of the formula has the other truth value
abbrev pub IsProper : (Literal → Bool) → Written → Type 0
IsProper v w = AllFacts (λ l. v (opposite_of l) ≡ not (v l)) w

-- where opposites have opposite truth values, the plus clauses of a formula hold exactly where it is true, and the minus clauses exactly where it is false
abbrev pub ClausesSayTruth : Type 0
ClausesSayTruth = (v : Literal → Bool) (w : Written) → IsProper v w →
    (list_all (list_any v) (plus w) ≡ evaluate v w) × (list_all (list_any v) (minus w) ≡ not (evaluate v w))

-- no literal is known together with its opposite
abbrev pub HasNoPair : List Literal → Type 0
HasNoPair known = (l : Literal) → IsTrue (has known l) → IsFalse (has known (opposite_of l))

-- some clause is false under the known literals
abbrev pub some_false : List Literal → List Disjunction → Bool
some_false known rows = list_any (are_false known) rows

-- where known literals, of which no two are opposites, falsify a plus clause of a formula it is known to be false, and where they falsify a minus clause it is known to be true
abbrev pub ClausesDecide : Type 0
ClausesDecide = (known : List Literal) → HasNoPair known → (w : Written) →
    (IsTrue (some_false known (plus w)) → partial_truth known w ≡ False) × (IsTrue (some_false known (minus w)) → partial_truth known w ≡ True)

-- the clauses of `A <-> B` are the plus clauses of `(!A | B) & (A | !B)`, and of `(!A | !B) & (A | B)`
abbrev pub ClausesOfIff : Type 0
ClausesOfIff = (a b : Written) →
    (plus (Iff a b) ≡ plus (And (Or (Neg a) b) (Or a (Neg b)))) × (minus (Iff a b) ≡ plus (And (Or (Neg a) (Neg b)) (Or a b)))

-- the counts of a formula are those of its clauses
abbrev pub FormulasHaveCounts : Type 0
FormulasHaveCounts = (w : Written) → (counts_of (plus w) ≡ plus_counts w) × (counts_of (minus w) ≡ minus_counts w)

-- ---- literals and variables

-- the literals of a size and the variables of its studies, with signs, are one to one, and opposites are opposites; those of profile p are the variables from p * n + 1 to (p + 1) * n, where a profile has n
pub record AreVariables (size : Extent) : Type 0 where
  pub in_range : (l : Literal) → IsTrue (is_literal size l) → (1 ≤ (lit_of size l).variable) × ((lit_of size l).variable ≤ variable_count size)
  pub literal : (s : Signed) → 1 ≤ s.variable → s.variable ≤ variable_count size → IsTrue (is_literal size (literal_of size s))
  pub of_literal : (s : Signed) → 1 ≤ s.variable → s.variable ≤ variable_count size → lit_of size (literal_of size s) ≡ s
  pub of_variable : (l : Literal) → IsTrue (is_literal size l) → literal_of size (lit_of size l) ≡ l
  pub opposite : (l : Literal) → IsTrue (is_literal size l) → lit_of size (opposite_of l) ≡ opposite_lit (lit_of size l)
  pub from_profile : (l : Literal) → IsTrue (is_literal size l) →
      (profile_of l * bits size.kind size.alternatives + 1 ≤ (lit_of size l).variable) × ((lit_of size l).variable ≤ (profile_of l + 1) * bits size.kind size.alternatives)
  pub to_profile : (p : ℕ) (s : Signed) → p * bits size.kind size.alternatives + 1 ≤ s.variable → s.variable ≤ (p + 1) * bits size.kind size.alternatives →
      profile_of (literal_of size s) ≡ p

-- of each size
abbrev pub LiteralsAreVariables : Type 0
LiteralsAreVariables = (size : Extent) → AreVariables size

-- the truth value of a literal, where each variable has one
abbrev pub literal_under : Extent → (ℕ → Bool) → Literal → Bool
literal_under size v l = is_lit_true v (lit_of size l)

-- the bits of a rule give each literal of the size the truth value that it has of the rule
abbrev pub RulesHaveBits : Type 0
RulesHaveBits = (size : Extent) → (table : List ℕ) → IsTrue (is_rule size table) →
    (l : Literal) → IsTrue (is_literal size l) → literal_under size (bits_of size table) l ≡ holds size table l

-- ---- frames

-- a literal of the size and its opposite have different truth values
abbrev pub IsTwoSided : Extent → (Literal → Bool) → Type 0
IsTwoSided size v = (l : Literal) → IsTrue (is_literal size l) → v (opposite_of l) ≡ not (v l)

-- the literals of the size at a profile have the truth values that they have of an outcome
abbrev pub AreOf : Extent → ℕ → ℕ → (Literal → Bool) → Type 0
AreOf size p outcome v = (l : Literal) → IsTrue (is_literal size l) → profile_of l ≡ p → v l ≡ holds_of size outcome l

-- the frame of a profile says that there is exactly one outcome: each satisfies it, truth values that satisfy it are those of one, and of no other
pub record IsFrame (size : Extent) (p : ℕ) : Type 0 where
  pub each : (o : ℕ) → o < outcome_count size.kind size.alternatives → IsTrue (list_all (list_any (holds_of size o)) (frame_of size size.kind p))
  pub some : (v : Literal → Bool) → IsTwoSided size v → IsTrue (list_all (list_any v) (frame_of size size.kind p)) →
      (o : ℕ) × (o < outcome_count size.kind size.alternatives) × AreOf size p o v
  pub one : (v : Literal → Bool) (o q : ℕ) → o < outcome_count size.kind size.alternatives → q < outcome_count size.kind size.alternatives →
      AreOf size p o v → AreOf size p q v → o ≡ q

-- of each profile of a size
abbrev pub FramesSayOutcome : Type 0
FramesSayOutcome = (size : Extent) → (p : ℕ) → p < sort_count size Profile → IsFrame size p

-- ---- the clauses of a study

-- the assignment satisfies the frame of each profile
abbrev pub is_frame_true : Extent → (ℕ → Bool) → Bool
is_frame_true size v = list_all (λ p. list_all (list_any (literal_under size v)) (frame_of size size.kind p)) (below (sort_count size Profile))

-- each instance of an axiom is true under the assignment
abbrev pub are_instances_true : Extent → (ℕ → Bool) → Option Titled → Bool
are_instances_true size v None = true
are_instances_true size v (Some a) = list_all (λ k. evaluate (literal_under size v) (instance_of size a.sentence k)) (below (instance_count size a.sentence))

-- an assignment satisfies the clauses of a study exactly where it satisfies the frames and makes each instance of the chosen axioms true
abbrev pub ClausesSayStudy : Type 0
ClausesSayStudy = (size : Extent) → (axioms : List Titled) → IsTrue (list_all (is_sentence size) axioms) → (chosen : List ℕ) (v : ℕ → Bool) →
    is_satisfied v (clauses_for size axioms chosen) ≡ (is_frame_true size v && list_all (λ k. are_instances_true size v (slice_get axioms k)) chosen)

-- the assignment is the bits of a rule, on the variables of the study
abbrev pub AreBitsOf : Extent → List ℕ → (ℕ → Bool) → Type 0
AreBitsOf size table v = (i : ℕ) → 1 ≤ i → i ≤ variable_count size → v i ≡ bits_of size table i

-- an assignment satisfies the clauses of a study exactly where it is the bits of a rule that satisfies the chosen axioms
abbrev pub AssignmentsAreRules : Type 0
AssignmentsAreRules = (size : Extent) → (axioms : List Titled) → IsTrue (list_all (is_sentence size) axioms) →
    (chosen : List ℕ) → IsTrue (list_all (λ k. nat_lt k (length axioms)) chosen) → (v : ℕ → Bool) →
    IsTrue (is_satisfied v (clauses_for size axioms chosen)) ↔ ((table : List ℕ) × IsTrue (satisfies size axioms chosen table) × AreBitsOf size table v)

-- the clauses of a study are satisfiable exactly where some rule satisfies the chosen axioms
abbrev pub ClausesAreSatisfiable : Type 0
ClausesAreSatisfiable = (size : Extent) → (axioms : List Titled) → IsTrue (list_all (is_sentence size) axioms) →
    (chosen : List ℕ) → IsTrue (list_all (λ k. nat_lt k (length axioms)) chosen) →
    ((v : ℕ → Bool) × IsTrue (is_satisfied v (clauses_for size axioms chosen))) ↔ ((table : List ℕ) × IsTrue (satisfies size axioms chosen table))

-- a fact about an axiom, which is there
abbrev pub IfAxiom : Option Titled → (Titled → Type 0) → Type 0
IfAxiom None P = ⊥
IfAxiom (Some a) P = P a

-- the origin of a clause is a reason that refutes the known literals, in a story whose core is the chosen axioms: the profile of a frame; the place of an axiom with the values of its instance k, which there is
abbrev pub RefuteOrigin : Extent → List Titled → List ℕ → List Literal → Origin → Type 0
RefuteOrigin size axioms chosen known (Frame p) = IsTrue (refutes size axioms chosen [] known (ByOutcome p))
RefuteOrigin size axioms chosen known (Instance place k) = IfAxiom (slice_get axioms place) (λ a.
    (k < instance_count size a.sentence) × IsTrue (refutes size axioms chosen [] known (ByAxiom place (instance_values size a.sentence k))))

-- where known literals of the size, of which no two are opposites, falsify a clause of a study, its origin is a reason that refutes them
abbrev pub ClausesHaveReasons : Type 0
ClausesHaveReasons = (size : Extent) → (axioms : List Titled) → IsTrue (list_all (is_sentence size) axioms) → (chosen : List ℕ) →
    (known : List Literal) → IsTrue (list_all (is_literal size) known) → HasNoPair known →
    AllByRecursion (λ (s : Sourced). IsTrue (is_falsified (map (lit_of size) known) s.clause) → RefuteOrigin size axioms chosen known s.origin) (study_clauses size axioms chosen)
