-- A code of entries: a name and a text.
use Rattle.std.specs.Prelude.{ℕ, List, refl}
use Rattle.std.specs.Coded.{Coded, code_by, coded×, coded_list, coded_ℕ}
use Rattle.axiom_library.specs.Library.{Entry}

-- an entry is coded as its name and its text
abbrev pub entry_code : Coded Entry
entry_code = code_by (List ℕ × List ℕ) (coded× (coded_list coded_ℕ) (coded_list coded_ℕ)) (λ e. (e.name, e.text)) (λ p. record { name = p.0; text = p.1 }) (λ _. refl)
