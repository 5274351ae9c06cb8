-- `axioms KIND`.
use Rattle.std.specs.Prelude.{◌≡◌, ℕ, List, [], ◌∷◌, ◌++◌, codes}
use Rattle.std.specs.List.{flat_map}
use Rattle.vocab.specs.declared.kinds.Kind.{Kind}
use Rattle.axiom_library.specs.Library.{Entry, library}
use Rattle.answers.specs.declared.runs.Run.{Run}
use Rattle.answers.specs.Runs.{IsBare}

-- the line of an axiom: its name, a colon, a blank, and its text
abbrev pub entry_line : Entry → List ℕ
entry_line e = e.name ++ (codes ": " ++ (e.text ++ 10 ∷ []))

-- the lines of all axioms that the library has for a kind, in its order
abbrev pub library_text : Kind → List ℕ
library_text kind = flat_map entry_line (library kind)

abbrev pub IsListed : Kind → Run → List ℕ → Type 0
IsListed kind run text = IsBare run 0 × (text ≡ library_text kind)
