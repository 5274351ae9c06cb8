-- What it is to take a line that is read.
use Rattle.std.specs.Prelude.{◌≡◌, ℕ, ◌<◌, nat_lt, length, List, Option, None, Some, Result, Ok, Err, IfOk, IsTrue}
use Rattle.std.specs.List.{list_all}
use Rattle.lists.specs.declared.memory.NoMemory.{NoMemory}
use Rattle.vocab.specs.declared.kinds.Sort.TheVariants.{Profile}
use Rattle.vocab.specs.Size.{Extent, sort_count, outcome_count}
use Rattle.vocab.specs.Study.{Question}
use Rattle.meaning.specs.Truth.{is_rule}
use Rattle.verdicts.specs.declared.refusals.Refusal.{Refusal}
use Rattle.verdicts.specs.Lines.{Line}
use Rattle.verdicts.specs.Places.{Place, Standing, AtSuppose, AtStep, AtWitnessRow}
use Rattle.verdicts.specs.Faults.{table_fault, asked_at, fault_of}
use Rattle.verdicts.specs.Judge.{after_row, advance, read_line, line_fault}
use Rattle.report_lines.specs.declared.lines.Line.{Line as HeldLine}
use Rattle.report_lines.specs.Held.{held_line, held_place}
use Rattle.report.specs.declared.judging.Judging.{Judging}
use Rattle.report.specs.Stands.{Stands}

-- the fault of the line is answered, and where it has none its part is held with what was held
abbrev pub Took : Question → Standing → Line → Judging → Option Refusal → Type 0
Took study s line r fault = (fault ≡ fault_of study s line) ×
    (fault ≡ None → Stands study r (advance study s line))

-- the same, unless memory is wanting
abbrev pub Takes : Question → Standing → Line → Judging → Result (Option Refusal) NoMemory → Type 0
Takes study s line r result = IfOk result (Took study s line r)

-- these are places of axioms
abbrev pub AreAxiomPlaces : Question → List ℕ → Type 0
AreAxiomPlaces study core = IsTrue (list_all (λ k. nat_lt k (length study.axioms)) core)

-- these are outcomes of the size
abbrev pub AreOutcomes : Extent → List ℕ → Type 0
AreOutcomes size rows = IsTrue (list_all (λ o. nat_lt o (outcome_count size.kind size.alternatives)) rows)

-- the table has room for one more row, and this is an outcome of the size; where it is the table of a witness, one is still due
pub record IsNextRow (study : Question) (r : Judging) (outcome : ℕ) : Type 0 where
  pub rows : AreOutcomes study.size r.rows
  pub more : length r.rows < sort_count study.size Profile
  pub fits : outcome < outcome_count study.size.kind study.size.alternatives
  pub core : AreAxiomPlaces study r.core
  pub next : r.place ≡ held_place AtWitnessRow → r.witnesses < length r.core

-- the table has all its rows; where it is that of a witness, one is still due
pub record HasTable (study : Question) (r : Judging) : Type 0 where
  pub rule : IsTrue (is_rule study.size r.rows)
  pub core : AreAxiomPlaces study r.core
  pub next : r.place ≡ held_place AtWitnessRow → r.witnesses < length r.core

-- a lemma is being read
abbrev pub IsInStory : Place → Type 0
IsInStory AtSuppose = Unit {0}
IsInStory AtStep = Unit {0}
IsInStory _ = ⊥

-- the same of a table whose last row is read
abbrev pub TakesTable : Question → Standing → Judging → Result (Option Refusal) NoMemory → Type 0
TakesTable study s r result =
    IfOk result (λ fault. (fault ≡ table_fault study s.rows (asked_at study s.place s)) ×
    (fault ≡ None → Stands study r (after_row study s.place s)))

-- a line of this text is what the grammar wants of a standing
abbrev pub IsLine : Question → Standing → List ℕ → HeldLine → Type 0
IsLine study s text line = (wanted : Line) × (read_line study s text ≡ Some wanted) ×
    (line ≡ held_line study wanted)

-- a line of this text is taken: where it has no fault, it is told what it says, and its part is held with what was held; else its refusal is told
abbrev pub IsTaken : Question → Standing → List ℕ → Judging → Result HeldLine Refusal → Type 0
IsTaken study s text r (Ok line) = (wanted : Line) × (read_line study s text ≡ Some wanted) ×
    (line ≡ held_line study wanted) × (fault_of study s wanted ≡ None) × Stands study r (advance study s wanted)
IsTaken study s text r (Err word) = line_fault study s text ≡ Some word
