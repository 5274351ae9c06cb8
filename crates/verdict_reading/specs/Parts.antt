-- The parts of a verdict, as the lines of its report or of its sharp text give them.
use Rattle.std.specs.Prelude.{ℕ, ◌==◌, ◌&&◌, Bool, true, false, List, [], ◌∷◌, ◌++◌, length, if◌then◌else◌}
use Rattle.meaning.specs.declared.cores.Witness.TheVariants.{Rule, Open as OpenMark}
use Rattle.meaning.specs.declared.stories.Reason.{Reason}
use Rattle.verdicts.specs.Places.{Standing}
use Rattle.sharp_verdicts.specs.SharpPlaces.{SharpPlace, AtNeedRow, SharpStanding}
use Rattle.report_lines.specs.declared.lines.Line.{Line as HeldLine}
use Rattle.report_lines.specs.declared.lines.Line.TheVariants as held
use Rattle.report_lines.specs.declared.places.Place.{Place as HeldPlace}
use Rattle.report_lines.specs.declared.places.Place.TheVariants as place
use Rattle.sharp_report.specs.declared.lines.SharpLine.{SharpLine as HeldSharpLine}
use Rattle.sharp_report.specs.declared.lines.SharpLine.TheVariants as sharp
use Rattle.sharp_report.specs.declared.places.SharpPlace.{SharpPlace as HeldSharpPlace}
use Rattle.sharp_report.specs.declared.places.SharpPlace.TheVariants as sharp_place
use Rattle.verdict_reading.specs.declared.parts.Parts.{Parts}

-- of what the lines so far have given, the parts of the verdict but its core
abbrev pub parts_of : Standing → Parts
parts_of s = record { earlier = s.earlier; suppose = s.suppose; steps = s.steps; rows = s.rows; witnesses = s.witnesses }

-- the next row is one of a witness
abbrev pub is_witness_row : HeldPlace → Bool
is_witness_row place.AtWitnessRow = true
is_witness_row _ = false

-- with the last reason of a lemma, which puts the lemma to the earlier ones
abbrev pub with_lemma : Reason → Parts → Parts
with_lemma last parts = record {
  earlier = parts.earlier ++ record { suppose = parts.suppose; steps = parts.steps; last = last } ∷ [];
  suppose = [];
  steps = [];
  rows = parts.rows;
  witnesses = parts.witnesses;
}

-- with all rows of a table, which is put to the witnesses where it is one
abbrev pub with_table : Bool → List ℕ → Parts → Parts
with_table of_witness table parts =
    if of_witness then record parts { rows = []; witnesses = parts.witnesses ++ Rule table ∷ [] }
    else record parts { rows = table }

-- with a row of a table that has so many
abbrev pub with_row : (count : ℕ) → Bool → (outcome : ℕ) → Parts → Parts
with_row count of_witness outcome parts =
    with_table (of_witness && length (parts.rows ++ outcome ∷ []) == count) (parts.rows ++ outcome ∷ []) parts

-- with an open mark of a search that may learn so many clauses
abbrev pub with_open : (limit : ℕ) → Parts → Parts
with_open limit parts = record parts { witnesses = parts.witnesses ++ OpenMark limit ∷ [] }

-- with a line, where a table has so many rows and a search so many clauses that it may learn
abbrev pub with_line : (count limit : ℕ) → Bool → HeldLine → Parts → Parts
with_line count limit of_witness (held.Suppose l) parts = record parts { suppose = parts.suppose ++ l ∷ [] }
with_line count limit of_witness (held.So l r) parts = record parts { steps = parts.steps ++ record { literal = l; reason = r } ∷ [] }
with_line count limit of_witness (held.Clash r) parts = with_lemma r parts
with_line count limit of_witness (held.Row p o) parts = with_row count of_witness o parts
with_line count limit of_witness (held.WithOpen name n) parts = with_open limit parts
with_line count limit of_witness _ parts = parts

-- ---- sharp texts

-- the outcomes of the table of a mark, where one is being read
abbrev pub mark_rows : SharpPlace → List ℕ → List ℕ
mark_rows AtNeedRow rows = rows
mark_rows _ rows = []

-- of what the lines so far have given, the parts of the sharp verdict but its core and its instances; the witnesses are its marks
abbrev pub sharp_parts_of : SharpStanding → Parts
sharp_parts_of s = record {
  earlier = s.told.earlier;
  suppose = s.told.suppose;
  steps = s.told.steps;
  rows = mark_rows s.place s.rows;
  witnesses = s.marks;
}

-- the next line is a row of a mark
abbrev pub is_mark_row : HeldSharpPlace → Bool
is_mark_row sharp_place.AtNeedRow = true
is_mark_row _ = false

-- with a line of a sharp text, where a table has so many rows and a search so many clauses that it may learn
abbrev pub with_sharp_line : (count limit : ℕ) → Bool → HeldSharpLine → Parts → Parts
with_sharp_line count limit of_mark (sharp.Plain line) parts = with_line count limit of_mark line parts
with_sharp_line count limit of_mark sharp.NeedsOpen parts = with_open limit parts
with_sharp_line count limit of_mark _ parts = parts
