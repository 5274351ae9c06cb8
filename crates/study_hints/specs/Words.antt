-- Words that help with a fault whatever the study is.
use Rattle.std.specs.Prelude.{ℕ, List, [], codes, if◌then◌else◌, Option, None, Some}
use Rattle.std.specs.Option.{unwrap_or}
use Rattle.std.specs.Str.{bytes_eq}
use Rattle.vocab.specs.declared.sizes.SizeFault.{SizeFault}
use Rattle.vocab.specs.declared.sizes.SizeFault.TheVariants as size
use Rattle.syntax.specs.declared.faults.SyntaxFault.{SyntaxFault}
use Rattle.syntax.specs.declared.faults.SyntaxFault.TheVariants as syntax

-- the form of the key of a study; of another word the keys, and what may stand in `sentences`
abbrev pub key_words : List ℕ → List ℕ
key_words key =
    if bytes_eq key (codes "kind") then codes "help kind: a string, one of choice ranking sets\n"
    else if bytes_eq key (codes "voters") then codes "help voters: an integer from 1 to 8\n"
    else if bytes_eq key (codes "alternatives") then codes "help alternatives: an integer from 1 to 5\n"
    else if bytes_eq key (codes "ballots") then codes "help ballots: an array of strings, or no such key\n"
    else if bytes_eq key (codes "absent") then codes "help absent: true or false, or no such key\n"
    else if bytes_eq key (codes "conflicts") then codes "help conflicts: an integer from 1 to 1000000, or no such key\n"
    else if bytes_eq key (codes "axioms") then codes "help axioms: an array of strings, above [sentences]\n"
    else if bytes_eq key (codes "sentences") then codes "help sentences: a table of strings under names, or no such key\n"
    else codes "help keys: kind voters alternatives ballots absent conflicts axioms sentences\nhelp below [sentences]: a letter a to z, then a to z, 0 to 9 and _, at most 32 in all, and a string\n"

-- numbers that are no size
abbrev pub size_words : SizeFault → List ℕ
size_words (size.Voters n) = codes "help voters: an integer from 1 to 8\n"
size_words (size.Alternatives m) = codes "help alternatives: an integer from 1 to 5\n"
size_words (size.Profiles count) = codes "help profiles: at most 20000, so fewer voters, alternatives or ballots\n"
size_words size.Domain = codes "help ballots: at least one, or no such key\n"

-- a text that is no sentence, where a place in it says nothing
abbrev pub syntax_words : SyntaxFault → List ℕ
syntax_words syntax.Deep = codes "help a sentence: at most 64 parts within one another\n"
syntax_words syntax.Variables = codes "help a sentence: at most 12 of all and some within one another\n"
syntax_words (syntax.Lexeme offset) = []
syntax_words (syntax.Long count) = codes "help a sentence: at most 600 names, constants and marks\n"
syntax_words syntax.NoReading = []
syntax_words syntax.NoMemory = []

-- what a predicate is said of
abbrev pub predicate_words : List ℕ → Option (List ℕ)
predicate_words name =
    if bytes_eq name (codes "prefers") then Some (codes "help prefers(voter, alt, alt, profile)\n")
    else if bytes_eq name (codes "better") then Some (codes "help better(ballot, alt, alt)\n")
    else if bytes_eq name (codes "casts") then Some (codes "help casts(voter, ballot, profile)\n")
    else if bytes_eq name (codes "majority") then Some (codes "help majority(alt, alt, profile)\n")
    else if bytes_eq name (codes "wins") then Some (codes "help wins(alt, profile)\n")
    else if bytes_eq name (codes "ranks") then Some (codes "help ranks(alt, alt, profile)\n")
    else None

-- what a function takes, or an equation
abbrev pub function_words : List ℕ → List ℕ
function_words name =
    if bytes_eq name (codes "with") then codes "help with(profile, voter, ballot)\n"
    else if bytes_eq name (codes "swap_voters") then codes "help swap_voters(profile, voter, voter)\n"
    else if bytes_eq name (codes "swap_alts") then codes "help swap_alts(profile, alt, alt)\n"
    else if bytes_eq name (codes "swap") then codes "help swap(alt, alt, alt)\n"
    else if bytes_eq name (codes "=") then codes "help = stands between two of one sort\n"
    else []

-- what a symbol is said of
abbrev pub symbol_words : List ℕ → List ℕ
symbol_words name = unwrap_or (predicate_words name) (function_words name)

-- all symbols
abbrev pub all_symbols : List ℕ
all_symbols = codes "help formulas: prefers better casts majority; wins of choice and sets; ranks of ranking\nhelp terms: with swap_voters swap_alts swap\n"

-- of which rules outcomes are said
abbrev pub kind_words : List ℕ
kind_words = codes "help wins: of choice and sets; ranks: of ranking\n"
