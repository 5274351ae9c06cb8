-- From what `clap` answers to the request that the words of a program are.
use Rattle.std.proofs.Common.{◌≡◌, ◌∙◌, sym, ap, true, List, [], ◌∷◌, Option, None, inl, inr}
use Rattle.clap.specs.Words.{App, HasKind, IsAmong, Kinds, Row, Text, fault_of, is_simple, is_simple_and_free, kind_of, subcommand_of}
use Rattle.clap.specs.declared.error.Error.{Error}
use Rattle.clap.specs.declared.error.kind.ErrorKind.{ErrorKind}
use Rattle.clap.specs.declared.error.kind.ErrorKind.TheVariants as kind
use Rattle.words.specs.Words.{unless_refused}

-- over the program, one of those whose words `clap` has a written function of, and the request that is read off what is found
module _ {R : Type 0} (program : App) (simple_and_free : is_simple_and_free program ≡ true) (simple : is_simple program ≡ true) (request_in : Option (Text × List Row) → Option R) where
  abbrev asked_of : List Text → Option R
  asked_of words = unless_refused (fault_of program words) (request_in (subcommand_of program words))

  pub taken : (app : App) (words : List Text) (got : Option (Text × List Row)) → app ≡ program → (is_simple_and_free app ≡ true → fault_of app words ≡ [])
      → (is_simple app ≡ true → got ≡ subcommand_of app words) → request_in got ≡ asked_of words
  taken app words got is faults matches =
      let none : fault_of program words ≡ [] = ap (λ a. fault_of a words) (sym is) ∙ faults (ap is_simple_and_free is ∙ simple_and_free) in
      ap request_in (matches (ap is_simple is ∙ simple) ∙ ap (λ a. subcommand_of a words) is)
      ∙ sym (ap (λ kinds. unless_refused kinds (request_in (subcommand_of program words))) none)

  among : (kinds : Kinds) (k : ErrorKind) (words : List Text) → fault_of program words ≡ kinds → IsAmong k kinds → None ≡ asked_of words
  among [] k words is h = absurd h
  among (x ∷ xs) k words is h = sym (ap (λ kinds. unless_refused kinds (request_in (subcommand_of program words))) is)

  pub refused : (app : App) (words : List Text) (error : Error) → app ≡ program → (kind_of error ≡ kind.OutOfMemory → ⊥)
      → (is_simple_and_free app ≡ true → HasKind (fault_of app words) error) → None ≡ asked_of words
  refused app words error is other fails = go (fails (ap is_simple_and_free is ∙ simple_and_free))
    where
      go : HasKind (fault_of app words) error → None ≡ asked_of words
      go (inl e) = absurd (other e)
      go (inr h) = among (fault_of app words) (kind_of error) words (ap (λ a. fault_of a words) (sym is)) h
