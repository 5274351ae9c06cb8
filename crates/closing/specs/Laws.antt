-- What holds of closed formulas: the statements of the laws. Each is proved as the contract of a function of the same name in src/laws.rt.
use Rattle.std.specs.Prelude.{◌≡◌, ℕ, List, [], ◌++◌, nat_lt, IsTrue}
use Rattle.std.specs.Cmp.Lexicographic.{pointwise}
use Rattle.vocab.specs.declared.literals.Literal.{Literal}
use Rattle.vocab.specs.Formula.{body_of, prefix_of}
use Rattle.vocab.specs.Limits.{bases_of, instance_count, is_within_limits}
use Rattle.vocab.specs.Size.{Extent}
use Rattle.vocab.specs.Study.{is_sentence}
use Rattle.vocab.specs.Titled.{Titled}
use Rattle.vocab.specs.Tree.{Tree}
use Rattle.meaning.specs.Clauses.{plus}
use Rattle.meaning.specs.Instances.{instance_values, is_instance_true}
use Rattle.meaning.specs.Kleene.{partial_truth}
use Rattle.meaning.specs.StudyClauses.{clauses_of, instance_of}
use Rattle.meaning.specs.Truth.{is_true_at}
use Rattle.meaning.specs.Written.{write_out}
use Rattle.closing.specs.Closed.{closed, closed_body}

-- a closed formula, where its own variables have some values, is written out as the formula, where the values that close it come before these
abbrev pub ClosedAreWritten : Type 0
ClosedAreWritten = (size : Extent) (values env : List ℕ) (f : Tree) → write_out size (closed values f) env ≡ write_out size f (values ++ env)

-- it is true of a rule exactly where the formula is
abbrev pub ClosedAreTrue : Type 0
ClosedAreTrue = (size : Extent) (table values env : List ℕ) (f : Tree) → is_true_at size table (closed values f) env ≡ is_true_at size table f (values ++ env)

-- the closed body of an instance, without any value, says what the body says at the values: the same is known of it under some literals, and it is true of the same rules
pub record SaysBody (size : Extent) (a : Titled) (values : List ℕ) : Type 0 where
  pub written : write_out size (closed_body a values) [] ≡ write_out size (body_of a.sentence) values
  pub known : (known : List Literal) → partial_truth known (write_out size (closed_body a values) []) ≡ partial_truth known (write_out size (body_of a.sentence) values)
  pub true_of : (table : List ℕ) → is_true_at size table (closed_body a values) [] ≡ is_true_at size table (body_of a.sentence) values

-- whatever the values
abbrev pub ClosedBodiesSayBodies : Type 0
ClosedBodiesSayBodies = (size : Extent) (a : Titled) (values : List ℕ) → SaysBody size a values

-- a sentence is an axiom of its own: it has no leading universals, and so one instance, 0, with no values and its own clauses
pub record IsOneInstance (size : Extent) (a : Titled) (values : List ℕ) (k : ℕ) : Type 0 where
  pub prefix : prefix_of (closed_body a values) ≡ []
  pub body : body_of (closed_body a values) ≡ closed_body a values
  pub one : instance_count size (closed_body a values) ≡ 1
  pub no_values : instance_values size (closed_body a values) 0 ≡ []
  pub written : instance_of size (closed_body a values) 0 ≡ instance_of size a.sentence k
  pub clauses : clauses_of size (plus (instance_of size (closed_body a values) 0)) ≡ clauses_of size (plus (instance_of size a.sentence k))
  pub true_of : (table : List ℕ) → is_true_at size table (closed_body a values) [] ≡ is_instance_true size table a.sentence k

-- the closed body of instance k is such a sentence, with the clauses of that instance
abbrev pub ClosedBodiesAreInstances : Type 0
ClosedBodiesAreInstances = (size : Extent) (a : Titled) (k : ℕ) → IsOneInstance size a (instance_values size a.sentence k) k

-- of a sentence of a study within the limits the closed body of an instance is one too, whatever its name
abbrev pub ClosedBodiesAreSentences : Type 0
ClosedBodiesAreSentences =
    (size : Extent) (a : Titled) (name values : List ℕ) → IsTrue (is_sentence size a) → IsTrue (is_within_limits size a.sentence)
    → IsTrue (pointwise nat_lt values (bases_of size a.sentence))
    → IsTrue (is_sentence size (record { name = name; sentence = closed_body a values })) × IsTrue (is_within_limits size (closed_body a values))
