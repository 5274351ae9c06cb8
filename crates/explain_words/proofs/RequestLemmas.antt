-- From what `clap` answers to the request that the words are.
use Rattle.std.proofs.Common.{◌≡◌, refl, true, List, [], Option, None}
use Rattle.clap.specs.Words.{App, HasKind, Row, Text, fault_of, is_simple, is_simple_and_free, kind_of, subcommand_of}
use Rattle.clap.specs.declared.error.Error.{Error}
use Rattle.clap.specs.declared.error.kind.ErrorKind.TheVariants as kind
use Rattle.words.proofs.AskedLemmas.{taken as words_taken, refused as words_refused}
use Rattle.explain_words.specs.Words.{explain_app, explain_request_in, request_of}

pub taken : (app : App) (words : List Text) (got : Option (Text × List Row)) → app ≡ explain_app → (is_simple_and_free app ≡ true → fault_of app words ≡ [])
    → (is_simple app ≡ true → got ≡ subcommand_of app words) → explain_request_in got ≡ request_of words
unfolding request_of
taken = words_taken explain_app refl refl explain_request_in

pub refused : (app : App) (words : List Text) (error : Error) → app ≡ explain_app → (kind_of error ≡ kind.OutOfMemory → ⊥)
    → (is_simple_and_free app ≡ true → HasKind (fault_of app words) error) → None ≡ request_of words
unfolding request_of
refused = words_refused explain_app refl refl explain_request_in
