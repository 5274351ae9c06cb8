-- What a checker of lines stands for after one more line.
use Rattle.std.proofs.Common.{◌≡◌, refl, sym, ap, ◌∙◌, subst, ℕ, Bool, true, false, true≢false, List, [], ◌∷◌, ◌++◌, cond, Option, Some, None, is_some}
use Rattle.std.specs.Prelude.{◌&&◌, codes, if◌then◌else◌}
use Rattle.std.specs.Str.{bytes_eq}
use Rattle.std.specs.Option.{option_map_or}
use Rattle.vocab.specs.Study.{Question}
use Rattle.report.specs.Stands.{StandsFor}
use Rattle.sharp_verdicts.specs.SharpLines.{SharpTitle}
use Rattle.sharp_verdicts.specs.SharpPlaces.{read_title}
use Rattle.sharp_report.specs.declared.progress.SharpProgress.{SharpProgress}
use Rattle.sharp_report.specs.SharpStands.{SharpStandsFor}
use Rattle.report_files.specs.Lines.{CheckerState, lines_given, has_fault, sharp_fault_of, has_title, StandsBy, StandsForLines}
use Rattle.report_files.specs.Pieces.{head_of}
use Rattle.report_files.proofs.LineLemmas.{head_stands}
use Rattle.report_files.proofs.SharpLineLemmas.{head_sharp_stands}
use Rattle.report_files.proofs.TitleLemmas.{head_title}

-- ---- which checker it is

-- it is at a sharp text exactly where it admits these and the first line is their title
pub sharp_told : (c : CheckerState) (lines : List (List ℕ)) → StandsForLines c lines → is_some c.sharp ≡ (c.admits && has_title lines)
sharp_told c lines h = by_sharp c.sharp h
  where
    by_sharp : (o : Option SharpProgress) → StandsBy c.study c.report (c.admits && has_title lines) lines o → is_some o ≡ (c.admits && has_title lines)
    by_sharp None h = sym h.1
    by_sharp (Some p) h = sym h.1

-- it stands for the lines of a report
pub stands_as_report : (c : CheckerState) (lines : List (List ℕ)) → c.sharp ≡ None → StandsForLines c lines → StandsFor c.study c.report lines
stands_as_report c lines e h = (subst (StandsBy c.study c.report (c.admits && has_title lines) lines) e h).0

-- or for those of a sharp text
pub stands_as_sharp : (c : CheckerState) (p : SharpProgress) (lines : List (List ℕ)) → c.sharp ≡ Some p → StandsForLines c lines → SharpStandsFor c.study p lines
stands_as_sharp c p lines e h = (subst (StandsBy c.study c.report (c.admits && has_title lines) lines) e h).0

pub no_sharp_of : (o : Option SharpProgress) → is_some o ≡ false → o ≡ None
no_sharp_of None e = refl
no_sharp_of (Some p) e = absurd (true≢false e)

-- a checker of reports alone is at no sharp text
pub reports_alone : (c : CheckerState) (lines : List (List ℕ)) → c.admits ≡ false → StandsForLines c lines → c.sharp ≡ None
reports_alone c lines alone h = no_sharp_of c.sharp (sharp_told c lines h ∙ ap (λ a. a && has_title lines) alone)

pub sharp_of : (o : Option SharpProgress) → is_some o ≡ true → (p : SharpProgress) × (o ≡ Some p)
sharp_of None e = absurd (true≢false (sym e))
sharp_of (Some p) e = (p, refl)

-- at no line it was given none
pub unread_count : (c : CheckerState) → StandsForLines c [] → lines_given c ≡ 0
unread_count c h = by_sharp c.sharp h
  where
    by_sharp : (o : Option SharpProgress) → StandsBy c.study c.report (c.admits && false) [] o → option_map_or (λ p. p.lines) o c.report.lines ≡ 0
    by_sharp None h = h.0.0
    by_sharp (Some p) h = h.0.0

-- ---- its fault

-- of a report
pub no_fault : (c : CheckerState) → c.sharp ≡ None → c.report.fault ≡ None → has_fault c ≡ false
no_fault c none e = ap (λ o. option_map_or (λ p. is_some p.fault) o (is_some c.report.fault)) none ∙ ap is_some e

-- of a sharp text
pub sharp_fault_is : (c : CheckerState) (p : SharpProgress) → c.sharp ≡ Some p → sharp_fault_of c ≡ p.fault
sharp_fault_is c p some = ap (λ o. option_map_or (λ p. p.fault) o None) some

pub no_sharp_fault : (c : CheckerState) (p : SharpProgress) → c.sharp ≡ Some p → p.fault ≡ None → has_fault c ≡ false
no_sharp_fault c p some e = ap (λ o. option_map_or (λ p. is_some p.fault) o (is_some c.report.fault)) some ∙ ap is_some e

-- ---- where a sharp text begins

-- the title, as it is told
pub is_title_told : (study : Question) (b : Bool) (line : List ℕ) → read_title study line ≡ (if b then Some SharpTitle else None) → b ≡ has_title (line ∷ [])
is_title_told study b line e = by_tests b (bytes_eq line (codes "bench sharp 1")) e
  where
    by_tests : (b t : Bool) → cond t (Some SharpTitle) None ≡ cond b (Some SharpTitle) None → b ≡ t
    by_tests true true e = refl
    by_tests false false e = refl
    by_tests true false e = absurd (cc)
    by_tests false true e = absurd (cc)

-- ---- a line that is too long

head_titled : (lines : List (List ℕ)) (line : List ℕ) → has_title (lines ++ head_of line ∷ []) ≡ has_title (lines ++ line ∷ [])
head_titled [] line = head_title line
head_titled (x ∷ xs) line = refl

-- a checker that was given the front of a line stands for the line
pub head_taken : (c : CheckerState) (lines : List (List ℕ)) (line : List ℕ) → StandsForLines c (lines ++ head_of line ∷ []) → StandsForLines c (lines ++ line ∷ [])
head_taken c lines line h =
    subst (λ b. StandsBy c.study c.report (c.admits && b) (lines ++ line ∷ []) c.sharp) (head_titled lines line) (by_sharp c.sharp h)
  where
    by_sharp : (o : Option SharpProgress) → StandsBy c.study c.report (c.admits && has_title (lines ++ head_of line ∷ [])) (lines ++ head_of line ∷ []) o
        → StandsBy c.study c.report (c.admits && has_title (lines ++ head_of line ∷ [])) (lines ++ line ∷ []) o
    by_sharp None h = (head_stands c.study c.report lines line h.0, h.1)
    by_sharp (Some p) h = (head_sharp_stands c.study p lines line h.0, h.1)
