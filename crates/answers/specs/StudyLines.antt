-- The line of a study that is refused.
use Rattle.std.specs.Prelude.{ℕ, List, [], ◌∷◌, ◌++◌, codes}
use Rattle.std.specs.Fmt.{decimal, signed_decimal}
use Rattle.vocab.specs.declared.sizes.SizeFault.{SizeFault}
use Rattle.vocab.specs.declared.sizes.SizeFault.TheVariants as size
use Rattle.syntax.specs.declared.faults.SyntaxFault.{SyntaxFault}
use Rattle.syntax.specs.declared.faults.SyntaxFault.TheVariants as syntax
use Rattle.sorts.specs.declared.faults.SortFault.{SortFault}
use Rattle.sorts.specs.declared.faults.SortFault.TheVariants as sort
use Rattle.study.specs.declared.faults.StudyFault.{StudyFault}
use Rattle.study.specs.declared.faults.StudyFault.TheVariants as study

-- numbers that are no size
abbrev pub size_fault_text : SizeFault → List ℕ
size_fault_text (size.Voters n) = codes "voters " ++ signed_decimal n
size_fault_text (size.Alternatives m) = codes "alternatives " ++ signed_decimal m
size_fault_text (size.Profiles count) = codes "profiles " ++ decimal count
size_fault_text size.Domain = codes "no ballots"

-- a text that is no sentence; want of memory is never told
abbrev pub syntax_text : SyntaxFault → List ℕ
syntax_text (syntax.Lexeme offset) = codes "lexeme " ++ decimal offset
syntax_text (syntax.Long count) = codes "long " ++ decimal count
syntax_text syntax.NoReading = codes "no reading"
syntax_text syntax.Deep = codes "deep"
syntax_text syntax.Variables = codes "variables"
syntax_text syntax.NoMemory = []

-- a sentence that is none of the size; want of memory is never told
abbrev pub sort_text : SortFault → List ℕ
sort_text (sort.Unbound name) = codes "unbound " ++ name
sort_text (sort.Symbol name) = codes "symbol " ++ name
sort_text (sort.Arity symbol) = codes "arity " ++ symbol
sort_text (sort.Sort symbol place) = codes "sort " ++ (symbol ++ (32 ∷ decimal place))
sort_text (sort.Kind symbol) = codes "kind " ++ symbol
sort_text (sort.Constant constant) = codes "constant " ++ constant
sort_text sort.NoMemory = []

-- of an axiom, by its name
abbrev pub of_axiom : List ℕ → List ℕ → List ℕ
of_axiom name text = name ++ (codes ": " ++ text)

-- a study that is refused; want of memory is never told
abbrev pub fault_text : StudyFault → List ℕ
fault_text study.Toml = codes "not toml"
fault_text (study.Key key) = codes "key " ++ key
fault_text (study.Size fault) = size_fault_text fault
fault_text (study.Ballot text) = codes "ballot " ++ text
fault_text (study.Conflicts n) = codes "conflicts " ++ signed_decimal n
fault_text (study.Many count) = codes "axioms " ++ decimal count
fault_text (study.Unknown text) = codes "unknown axiom " ++ text
fault_text (study.Twice name) = codes "twice " ++ name
fault_text (study.Syntax name fault) = of_axiom name (syntax_text fault)
fault_text (study.Sort name fault) = of_axiom name (sort_text fault)
fault_text (study.Open name) = of_axiom name (codes "open")
fault_text (study.Instances name count) = of_axiom name (codes "instances " ++ decimal count)
fault_text (study.Body name count) = of_axiom name (codes "body " ++ decimal count)
fault_text (study.Work name count) = of_axiom name (codes "work " ++ decimal count)
fault_text study.NoMemory = []

-- the line of a refusal
abbrev pub study_line : StudyFault → List ℕ
study_line fault = codes "study: " ++ (fault_text fault ++ 10 ∷ [])
