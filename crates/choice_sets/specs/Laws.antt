-- What holds of gains: the statements of the laws.
use Rattle.std.specs.Prelude.{◌≡◌, ℕ, ◌<◌, ◌↔◌, List, [], codes, IsTrue, IsFalse, IsSomeAnd, MatchOption}
use Rattle.vocab.specs.declared.kinds.Kind.TheVariants.{Sets}
use Rattle.vocab.specs.declared.kinds.Sort.TheVariants.{Ballot, Profile}
use Rattle.vocab.specs.NamedTree.{NamedTree}
use Rattle.vocab.specs.Size.{Extent, IsSize, sort_count}
use Rattle.meaning.specs.Truth.{is_rule}
use Rattle.syntax.specs.Sentence.{IsSentence}
use Rattle.sorts.specs.NamedTruth.{is_named_true}
use Rattle.axiom_library.specs.Library.{text_under}
use Rattle.choice_sets.specs.declared.gains.Manipulation.{Manipulation}
use Rattle.choice_sets.specs.Gains.{first_gain, gains}

-- a manipulation of the size: the profile, the voter and the ballot are there
pub record IsManipulation (size : Extent) (m : Manipulation) : Type 0 where
  pub profile : m.profile < sort_count size Profile
  pub voter : m.voter < size.voters
  pub ballot : m.ballot < sort_count size Ballot

-- no voter gains by any
abbrev pub HasNoGain : Extent → List ℕ → Type 0
HasNoGain size table = (m : Manipulation) → IsManipulation size m → IsFalse (gains size table m)

-- the first gain is one, and there is none exactly where no voter gains
abbrev pub GainsAreFound : Type 0
GainsAreFound = (size : Extent) (table : List ℕ) →
    MatchOption (first_gain size table) (HasNoGain size table) (λ m. IsManipulation size m × IsTrue (gains size table m))

-- a sentence is the one that the library of set-valued rules has under the name `strategyproof`
abbrev pub IsStrategyproofOfSets : NamedTree → Type 0
IsStrategyproofOfSets f = IsSomeAnd (text_under Sets (codes "strategyproof")) (λ text. IsSentence text f)

-- of a set-valued rule the sentence `strategyproof` is true exactly where no voter gains
abbrev pub StrategyproofIsNoGain : Type 0
StrategyproofIsNoGain = (size : Extent) → IsSize size → size.kind ≡ Sets → (table : List ℕ) → IsTrue (is_rule size table) →
    (f : NamedTree) → IsStrategyproofOfSets f → IsTrue (is_named_true size table [] f) ↔ HasNoGain size table
