-- What helps with a fault without a place in a text.
use Rattle.std.specs.Prelude.{ℕ, List, [], codes, Result, Ok, Err}
use Rattle.sorts.specs.declared.faults.SortFault.{SortFault}
use Rattle.sorts.specs.declared.faults.SortFault.TheVariants as sort
use Rattle.vocab.specs.Size.{Extent}
use Rattle.study.specs.declared.faults.StudyFault.{StudyFault}
use Rattle.study.specs.declared.faults.StudyFault.TheVariants as fault
use Rattle.study.specs.declared.listing.Listing.{Listing}
use Rattle.study_hints.specs.Values.{perhaps, values_of}
use Rattle.study_hints.specs.Words.{all_symbols, key_words, kind_words, size_words, symbol_words, syntax_words}

-- what helps with a sentence that is none of the size
abbrev pub sort_words : Extent → SortFault → List ℕ
sort_words size (sort.Unbound name) = perhaps size name
sort_words size (sort.Symbol name) = all_symbols
sort_words size (sort.Arity symbol) = symbol_words symbol
sort_words size (sort.Sort symbol place) = symbol_words symbol
sort_words size (sort.Kind symbol) = kind_words
sort_words size (sort.Constant constant) = values_of size constant
sort_words size sort.NoMemory = []

-- the same, where the study lists its axioms
abbrev pub sort_words_in : Result Listing StudyFault → SortFault → List ℕ
sort_words_in (Err e) reason = []
sort_words_in (Ok listing) reason = sort_words listing.size reason

-- words that help whatever the study is
abbrev pub fixed_words : StudyFault → List ℕ
fixed_words fault.Toml = codes "help a study is a TOML document, in which strings stand in quotes\n"
fixed_words (fault.Key key) = key_words key
fixed_words (fault.Size reason) = size_words reason
fixed_words (fault.Ballot text) = codes "help ballots: the letters of all alternatives, from best to worst, each ranking once\n"
fixed_words (fault.Conflicts n) = codes "help conflicts: an integer from 1 to 1000000, or no such key\n"
fixed_words (fault.Many count) = codes "help axioms: at most 40\n"
fixed_words (fault.Unknown text) = []
fixed_words (fault.Twice name) = codes "help axioms: each name once, and under [sentences] none of the library\n"
fixed_words (fault.Syntax name reason) = syntax_words reason
fixed_words (fault.Sort name reason) = []
fixed_words (fault.Open name) = codes "help swap_alts: only where ballots lists every ranking, or is no key\n"
fixed_words (fault.Instances name count) = []
fixed_words (fault.Body name count) = []
fixed_words (fault.Work name count) = []
fixed_words fault.NoMemory = []
