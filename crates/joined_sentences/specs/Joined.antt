-- Sentences that are joined.
use Rattle.std.specs.Prelude.{◌≡◌, ℕ, ◌<◌, ◌≤◌, IsTrue, List, length, slice_get, IsSomeAnd}
use Rattle.vocab.specs.declared.literals.Literal.{Literal}
use Rattle.tellings.specs.declared.tellings.By.{By}
use Rattle.tellings.specs.declared.tellings.Sentence.{Sentence}
use Rattle.tellings.specs.Tellings.{is_by}

-- a sentence names this reason and rests on these facts
pub record IsSentenceBy (by : By) (rests : List Literal) (sentence : Sentence) : Type 0 where
  pub named : IsTrue (is_by sentence.by by)
  pub same : sentence.rests ≡ rests

-- the sentences are those of before, or one more, which is the one of the number; that one names this reason
-- and rests on these facts
pub record IsJoined (old new : List Sentence) (by : By) (rests : List Literal) (number : ℕ) : Type 0 where
  pub within : number < length new
  pub is : IsSomeAnd (slice_get new number) (IsSentenceBy by rests)
  pub grown : length old ≤ length new
  pub kept : (i : ℕ) → i < length old → slice_get new i ≡ slice_get old i
  pub fresh : (i : ℕ) → length old ≤ i → i < length new → (i ≡ number) × (number ≡ length old)
