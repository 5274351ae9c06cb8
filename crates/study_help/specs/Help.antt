-- What helps with a study that is refused.
use Rattle.std.specs.Prelude.{◌≡◌, ℕ, List, [], slice_get, Option, None, Some, option_map, option_and_then, Result, Ok, Err}
use Rattle.std.specs.List.{position}
use Rattle.std.specs.Str.{bytes_eq}
use Rattle.syntax.specs.declared.faults.SyntaxFault.{SyntaxFault}
use Rattle.syntax.specs.declared.faults.SyntaxFault.TheVariants as syntax
use Rattle.axiom_library.specs.Library.{Entry}
use Rattle.sentence_fronts.specs.declared.lexeme_kinds.LexemeKind.{LexemeKind}
use Rattle.sentence_fronts.specs.Fronts.{IsFurthest}
use Rattle.study.specs.declared.faults.StudyFault.{StudyFault}
use Rattle.study.specs.declared.faults.StudyFault.TheVariants as fault
use Rattle.study.specs.declared.listing.Listing.{Listing}
use Rattle.study.specs.Document.{document_of}
use Rattle.study.specs.Reading.{listing_in}
use Rattle.study_help.specs.declared.help.Asked.{Asked}
use Rattle.study_help.specs.declared.help.Asked.TheVariants as ask
use Rattle.study_help.specs.Places.{place_lines}
use Rattle.study_hints.specs.Hints.{fixed_words, sort_words_in}
use Rattle.study_hints.specs.Values.{axiom_words}

-- what has to be looked at: the text of an axiom, the size, the axioms that may be listed, or nothing of the study
abbrev pub asked_of_text : (name : List ℕ) → SyntaxFault → Asked
asked_of_text name syntax.NoReading = ask.Place name
asked_of_text name (syntax.Lexeme offset) = ask.Place name
asked_of_text name (syntax.Long count) = ask.Words
asked_of_text name syntax.Deep = ask.Words
asked_of_text name syntax.Variables = ask.Words
asked_of_text name syntax.NoMemory = ask.Words

abbrev pub asked_of : StudyFault → Asked
asked_of fault.Toml = ask.Words
asked_of (fault.Key key) = ask.Words
asked_of (fault.Size reason) = ask.Words
asked_of (fault.Ballot text) = ask.Words
asked_of (fault.Conflicts n) = ask.Words
asked_of (fault.Many count) = ask.Words
asked_of (fault.Unknown text) = ask.Axioms
asked_of (fault.Twice name) = ask.Words
asked_of (fault.Syntax name reason) = asked_of_text name reason
asked_of (fault.Sort name reason) = ask.Values reason
asked_of (fault.Open name) = ask.Words
asked_of (fault.Instances name count) = ask.Words
asked_of (fault.Body name count) = ask.Words
asked_of (fault.Work name count) = ask.Words
asked_of fault.NoMemory = ask.Words

-- the text of the axiom of a name
abbrev pub text_in : List Entry → (name : List ℕ) → Option (List ℕ)
text_in entries name = option_map (λ e. e.text) (option_and_then (slice_get entries) (position (λ e. bytes_eq e.name name) entries))

-- the lines of the furthest place of the text of an axiom
abbrev pub IsPlacedIn : Option (List ℕ) → (name said : List ℕ) → Type 0
IsPlacedIn None name said = said ≡ []
IsPlacedIn (Some text) name said =
    (offset : ℕ) × (next : List LexemeKind) × IsFurthest text offset next × (said ≡ place_lines name text offset next)

-- the same, where the study lists its axioms
abbrev pub IsPlacedInListing : Result Listing StudyFault → (name said : List ℕ) → Type 0
IsPlacedInListing (Err e) name said = said ≡ []
IsPlacedInListing (Ok listing) name said = IsPlacedIn (text_in listing.axioms name) name said

-- this helps with a fault of the bytes of a study, where so much has to be looked at
abbrev pub HelpsWith : (bytes : List ℕ) → Asked → StudyFault → (said : List ℕ) → Type 0
HelpsWith bytes (ask.Place name) reason said = IsPlacedInListing (listing_in (document_of bytes)) name said
HelpsWith bytes (ask.Values fault) reason said = said ≡ sort_words_in (listing_in (document_of bytes)) fault
HelpsWith bytes ask.Axioms reason said = said ≡ axiom_words (document_of bytes)
HelpsWith bytes ask.Words reason said = said ≡ fixed_words reason

-- this is said to help with a fault of the bytes of a study
abbrev pub IsHelp : (bytes : List ℕ) → StudyFault → (said : List ℕ) → Type 0
IsHelp bytes reason said = HelpsWith bytes (asked_of reason) reason said
