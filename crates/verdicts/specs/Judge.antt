-- The first faulty line of a report, or the verdict that is confirmed.
use Rattle.std.specs.Prelude.{ℕ, ◌+◌, ◌==◌, Bool, nat_lt, not, List, [], ◌∷◌, ◌++◌, length, take, Option, Some, None, if◌then◌else◌}
use Rattle.std.specs.List.{flat_map, list_all, slice_split}
use Rattle.std.specs.Option.{unwrap_or, option_map_or}
use Rattle.vocab.specs.declared.kinds.Sort.TheVariants.{Profile}
use Rattle.vocab.specs.Size.{sort_count}
use Rattle.vocab.specs.Study.{Question}
use Rattle.meaning.specs.declared.cores.Witness.TheVariants.{Rule, Open}
use Rattle.verdicts.specs.declared.refusals.Refusal.{Refusal}
use Rattle.verdicts.specs.declared.refusals.Refusal.TheVariants as refusal
use Rattle.verdicts.specs.declared.verdicts.Verdict.{Verdict}
use Rattle.verdicts.specs.declared.verdicts.Verdict.TheVariants.{Possible, Impossible, Undecided}
use Rattle.verdicts.specs.Texts.{words_of}
use Rattle.verdicts.specs.Lines.{Line, Title, KindIs, VotersAre, AlternativesAre, BallotsAre, AbsentIs, AxiomsAre, SaysPossible, SaysImpossible, SaysUndecided, LimitIs, RuleOf, Row, CoreIs, LemmasAre, Heading, Suppose, So, Clash, WithRule, WithOpen, End}
use Rattle.verdicts.specs.Places.{Place, AtKind, AtVoters, AtAlternatives, AtBallots, AtAbsent, AtAxioms, AtVerdict, AtLimit, AtRule, AtRow, AtCore, AtLemmas, AtLemma, AtSuppose, AtStep, AtWitness, AtWitnessRow, AtEnd, AtNothing, Standing, start, wanted}
use Rattle.verdicts.specs.Faults.{named_places, next_core, fault_of}
use Rattle.verdicts.specs.FirstFault.{Told, judge_lines, Judgement, Confirmed, Faulty, concluded, beyond}

-- ---- where the reader stands after a line

-- at the next witness, or at the end
abbrev pub witness_place : Option ℕ → Verdict → Place
witness_place None verdict = AtEnd verdict
witness_place (Some k) verdict = AtWitness

-- after a witness, or the story
abbrev pub after_witness : Standing → Standing
after_witness s = record s { place = witness_place (next_core s) (Impossible s.core s.earlier s.witnesses) }

-- after a lemma: all lemmas are read, or another one comes
abbrev pub after_lemma : Standing → Standing
after_lemma s = if length s.earlier == s.count then after_witness s else record s { place = AtLemma }

-- after `end`
abbrev pub after_end : Place → Place
after_end (AtEnd verdict) = AtNothing verdict
after_end place = place

module _ (study : Question) where
  -- after a row: the table is whole, or another row comes
  abbrev pub after_row : Place → Standing → Standing
  after_row AtWitnessRow s = if length s.rows == sort_count study.size Profile then after_witness (record s { rows = []; witnesses = s.witnesses ++ Rule s.rows ∷ [] }) else s
  after_row _ s = if length s.rows == sort_count study.size Profile then record s { place = AtEnd (Possible s.rows) } else s

  -- after a line
  abbrev pub advance : Standing → Line → Standing
  advance s (Title version) = record s { place = AtKind; version = version }
  advance s (KindIs k) = record s { place = AtVoters }
  advance s (VotersAre n) = record s { place = AtAlternatives }
  advance s (AlternativesAre n) = record s { place = if s.version == 2 then AtBallots else AtAxioms }
  advance s (BallotsAre places) = record s { place = AtAbsent }
  advance s (AbsentIs absent) = record s { place = AtAxioms }
  advance s (AxiomsAre names) = record s { place = AtVerdict }
  advance s SaysPossible = record s { place = AtRule }
  advance s SaysImpossible = record s { place = AtCore }
  advance s SaysUndecided = record s { place = AtLimit }
  advance s (LimitIs n) = record s { place = AtEnd Undecided }
  advance s (RuleOf n) = record s { place = AtRow }
  advance s (Row p o) = after_row s.place (record s { rows = s.rows ++ o ∷ [] })
  advance s (CoreIs names) = record s { place = AtLemmas; core = unwrap_or (named_places study.axioms names) [] }
  advance s (LemmasAre n) = record s { place = AtLemma; count = n }
  advance s (Heading j) = record s { place = AtSuppose }
  advance s (Suppose l) = record s { suppose = s.suppose ++ l ∷ [] }
  advance s (So l r) = record s { place = AtStep; steps = s.steps ++ record { literal = l; reason = r } ∷ [] }
  advance s (Clash r) = after_lemma (record s { earlier = s.earlier ++ record { suppose = s.suppose; steps = s.steps; last = r } ∷ []; suppose = []; steps = [] })
  advance s (WithRule name n) = record s { place = AtWitnessRow }
  advance s (WithOpen name n) = after_witness (record s { witnesses = s.witnesses ++ Open n ∷ [] })
  advance s End = record s { place = after_end s.place }

-- ---- line by line

module _ (study : Question) where
  -- what a line says, if it has at most 4,096 bytes and is the one that is wanted
  abbrev pub read_line : Standing → List ℕ → Option Line
  read_line s text = if nat_lt 4096 (length text) then None else wanted study s.place (length s.earlier + 1) (words_of text)

  -- the refusal of a line, if it has one
  abbrev pub line_fault : Standing → List ℕ → Option Refusal
  line_fault s text = option_map_or (fault_of study s) (read_line s text) (Some refusal.Form)

  -- where the reader stands after a line: at the same place where it says nothing
  abbrev pub after : Standing → List ℕ → Standing
  after s text = option_map_or (advance study s) (read_line s text) s

  -- lines from where the reader stands, the first of this number
  abbrev pub judge_from : ℕ → Standing → List (List ℕ) → Told Standing Refusal
  judge_from = judge_lines line_fault after

  -- all lines
  abbrev pub judge : List (List ℕ) → Told Standing Refusal
  judge texts = judge_from 1 start texts

-- ---- a whole text

-- no byte is a line end
abbrev pub has_no_end : List ℕ → Bool
has_no_end text = list_all (λ b. not (b == 10)) text

-- the text of lines, each with its line end
abbrev pub ended : List (List ℕ) → List ℕ
ended lines = flat_map (λ line. line ++ 10 ∷ []) lines

-- the pieces of a text between its line ends: each but the last is a line with its end
abbrev pub pieces : List ℕ → List (List ℕ)
pieces text = slice_split (λ b. b == 10) text

-- all but the last
abbrev pub front : List (List ℕ) → List (List ℕ)
front [] = []
front (x ∷ []) = []
front (x ∷ y ∷ xs) = x ∷ front (y ∷ xs)

-- the last
abbrev pub final : List (List ℕ) → List ℕ
final [] = []
final (x ∷ []) = x
final (x ∷ y ∷ xs) = final (y ∷ xs)

-- over what is answered with the number of the last piece, the piece and what the judge tells of the lines before it
module _ {S V R : Type 0} (conclude : ℕ → List ℕ → Told S R → Judgement V R) (judge : List (List ℕ) → Told S R) where
  -- the answer to a text
  abbrev pub answered : List ℕ → Judgement V R
  answered text = conclude (length (pieces text)) (final (pieces text)) (judge (front (pieces text)))

  -- the answer to a text of which so many bytes are read: of a longer one the lines are judged that end within them
  abbrev pub answered_within : ℕ → List ℕ → Judgement V R
  answered_within limit text = if nat_lt limit (length text) then beyond (judge (front (pieces (take limit text)))) else answered text

-- ---- reports

-- where no line is faulty: the end must be read, and no byte may follow it
abbrev pub at_end : ℕ → List ℕ → Place → Judgement Verdict Refusal
at_end n [] (AtNothing verdict) = Confirmed verdict
at_end n rest place = Faulty n refusal.Form

-- with the number of the last piece, and the piece
abbrev pub conclude : ℕ → List ℕ → Told Standing Refusal → Judgement Verdict Refusal
conclude = concluded (λ n rest s. at_end n rest s.place)

-- the answer to a text
abbrev pub answer : Question → List ℕ → Judgement Verdict Refusal
answer study = answered conclude (judge study)

-- the answer to a text of which so many bytes are read
abbrev pub answer_within : ℕ → Question → List ℕ → Judgement Verdict Refusal
answer_within limit study = answered_within conclude (judge study) limit

-- the rule of a verdict that has one, and that of a report that is confirmed
abbrev pub rule_in : Verdict → Option (List ℕ)
rule_in (Possible table) = Some table
rule_in _ = None

abbrev pub rule_of : Judgement Verdict Refusal → Option (List ℕ)
rule_of (Confirmed verdict) = rule_in verdict
rule_of _ = None
