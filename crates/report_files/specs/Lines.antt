-- What a checker of lines stands for, which takes those of a report, or of a sharp text where the first line is its title.
use Rattle.std.specs.Prelude.{◌≡◌, ℕ, Bool, false, ◌&&◌, ◌==◌, List, [], ◌∷◌, ◌++◌, codes, Option, Some, None, is_some, is_none, IsTrue, IsFalse}
use Rattle.std.specs.Option.{option_map_or}
use Rattle.std.specs.Str.{bytes_eq}
use Rattle.vocab.specs.Study.{Question}
use Rattle.report.specs.declared.progress.Progress.{Progress}
use Rattle.report.specs.Stands.{StandsFor}
use Rattle.sharp_report.specs.declared.faults.SharpFault.{SharpFault}
use Rattle.sharp_report.specs.declared.progress.SharpProgress.{SharpProgress}
use Rattle.sharp_report.specs.SharpStands.{SharpStandsFor, IsSharpReady}

-- what a checker of lines is to a contract: the study; whether it admits sharp texts; how far it is in a report; and how far in a sharp text, once it is at one
pub record CheckerState : Type 0 where
  pub study : Question
  pub admits : Bool
  pub report : Progress
  pub sharp : Option SharpProgress

-- what it holds of a sharp text is of its study, and stands for some lines, unless memory was wanting
abbrev pub IsSharpPart : (study : Question) (its_study : Question) → SharpProgress → Type 0
IsSharpPart study its_study p = (its_study ≡ study) × IsSharpReady study p

-- how many lines it was given
abbrev pub lines_given : CheckerState → ℕ
lines_given c = option_map_or (λ p. p.lines) c.sharp c.report.lines

-- a line that it was given is faulty, or memory was wanting
abbrev pub has_fault : CheckerState → Bool
has_fault c = option_map_or (λ p. is_some p.fault) c.sharp (is_some c.report.fault)

-- the first fault as a sharp text, where it is at one
abbrev pub sharp_fault_of : CheckerState → Option SharpFault
sharp_fault_of c = option_map_or (λ p. p.fault) c.sharp None

-- the first line is the title of a sharp text
abbrev pub has_title : List (List ℕ) → Bool
has_title [] = false
has_title (line ∷ lines) = bytes_eq line (codes "bench sharp 1")

-- where a checker is, by whether its lines were to be taken as those of a sharp text
abbrev pub StandsBy : Question → Progress → (asked : Bool) → List (List ℕ) → Option SharpProgress → Type 0
StandsBy study report asked lines None = StandsFor study report lines × IsFalse asked
StandsBy study report asked lines (Some p) = SharpStandsFor study p lines × IsTrue asked

-- it stands for these lines: as a checker of sharp texts does where it admits them and the first line is their title, and else as one of reports
abbrev pub StandsForLines : CheckerState → List (List ℕ) → Type 0
StandsForLines c lines = StandsBy c.study c.report (c.admits && has_title lines) lines c.sharp

-- the same before it is given one more line, which may be the title
abbrev pub StandsBefore : CheckerState → List (List ℕ) → (line : List ℕ) → Type 0
StandsBefore c lines line = StandsBy c.study c.report (c.admits && has_title (lines ++ line ∷ [])) lines c.sharp

-- the next line tells whether the text is a sharp text: these are admitted, and no line was given
abbrev pub is_undecided : CheckerState → Bool
is_undecided c = c.admits && (is_none c.sharp && c.report.lines == 0)

-- a sharp text begins with this line
abbrev pub begins : CheckerState → List ℕ → Bool
begins c line = is_undecided c && has_title (line ∷ [])
