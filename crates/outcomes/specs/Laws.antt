-- What holds of every kind of outcomes: the statements of the laws.
use Rattle.std.specs.Prelude.{◌≡◌, ℕ, ◌<◌, ◌≤◌, Bool, length, sum_by, IsTrue}
use Rattle.std.specs.List.{list_all}
use Rattle.vocab.specs.declared.kinds.Sort.TheVariants.{Profile}
use Rattle.vocab.specs.declared.literals.Literal.{Literal}
use Rattle.vocab.specs.Literal.{profile_of}
use Rattle.vocab.specs.Name.{is_lower}
use Rattle.vocab.specs.Size.{Extent, sort_count, outcome_count}
use Rattle.cnf.specs.Sat.{is_lit_true, is_satisfied}
use Rattle.meaning.specs.Literals.{is_literal}
use Rattle.meaning.specs.Texts.{outcome_text}
use Rattle.meaning.specs.Truth.{holds_of}
use Rattle.meaning.specs.Variables.{bits, lit_of}
use Rattle.outcomes.specs.Frames.{frame_clauses}
use Rattle.outcomes.specs.OutcomeBits.{AreBitsAt, is_lit_at}

-- the clauses of a profile's frame say that its bits are those of exactly one outcome
pub record SaysOneOutcome (size : Extent) (p : ℕ) : Type 0 where
  pub each : (v : ℕ → Bool) (o : ℕ) → o < outcome_count size.kind size.alternatives → AreBitsAt size p o v → IsTrue (is_satisfied v (frame_clauses size p))
  pub some : (v : ℕ → Bool) → IsTrue (is_satisfied v (frame_clauses size p)) → (o : ℕ) × (o < outcome_count size.kind size.alternatives) × AreBitsAt size p o v
  pub one : (v : ℕ → Bool) (o q : ℕ) → o < outcome_count size.kind size.alternatives → q < outcome_count size.kind size.alternatives →
      AreBitsAt size p o v → AreBitsAt size p q v → o ≡ q

-- so of each profile
abbrev pub FramesSayOneOutcome : Extent → Type 0
FramesSayOneOutcome size = (p : ℕ) → p < sort_count size Profile → SaysOneOutcome size p

-- the literals of a profile are true in the bits of an outcome exactly where they hold of it
abbrev pub BitsSayLiterals : Extent → Type 0
BitsSayLiterals size = (p o : ℕ) → p < sort_count size Profile → o < outcome_count size.kind size.alternatives → (v : ℕ → Bool) → AreBitsAt size p o v →
    (l : Literal) → IsTrue (is_literal size l) → profile_of l ≡ p → is_lit_true v (lit_of size l) ≡ holds_of size o l

-- a profile has at most 10 variables, and its frame has no other ones, at most 20 clauses, and at most 60 literals together
pub record AreFramesSmall (size : Extent) : Type 0 where
  pub few_bits : bits size.kind size.alternatives ≤ 10
  pub own_variables : (p : ℕ) → IsTrue (list_all (list_all (is_lit_at size p)) (frame_clauses size p))
  pub few_clauses : (p : ℕ) → length (frame_clauses size p) ≤ 20
  pub few_literals : (p : ℕ) → sum_by length (frame_clauses size p) ≤ 60

-- the text of an outcome is one to five small letters, and no other outcome has it
pub record HaveTextsOfLetters (size : Extent) : Type 0 where
  pub some_letter : (o : ℕ) → o < outcome_count size.kind size.alternatives → 1 ≤ length (outcome_text size o)
  pub few_letters : (o : ℕ) → o < outcome_count size.kind size.alternatives → length (outcome_text size o) ≤ 5
  pub letters : (o : ℕ) → o < outcome_count size.kind size.alternatives → IsTrue (list_all is_lower (outcome_text size o))
  pub distinct : (o q : ℕ) → o < outcome_count size.kind size.alternatives → q < outcome_count size.kind size.alternatives →
      outcome_text size o ≡ outcome_text size q → o ≡ q
