-- The lines of a sharp text, and the text of a sharp verdict.
use Rattle.std.specs.Prelude.{ℕ, List, [], ◌∷◌, ◌++◌, map, length, codes}
use Rattle.std.specs.List.{flat_map}
use Rattle.vocab.specs.declared.kinds.Sort.TheVariants.{Profile}
use Rattle.vocab.specs.Size.{sort_count}
use Rattle.vocab.specs.Study.{Question}
use Rattle.meaning.specs.declared.cores.Witness.{Witness}
use Rattle.meaning.specs.declared.cores.Witness.TheVariants.{Rule, Open}
use Rattle.meaning.specs.declared.stories.Reason.{Reason}
use Rattle.meaning.specs.declared.stories.Reason.TheVariants.{Axiom as ByAxiom}
use Rattle.verdicts.specs.declared.verdicts.Verdict.TheVariants.{Impossible}
use Rattle.verdicts.specs.Numbers.{number_text}
use Rattle.verdicts.specs.Texts.{joined_words}
use Rattle.verdicts.specs.Lines.{Line, End, line_words, reason_words}
use Rattle.verdicts.specs.Report.{row_lines, head_lines, verdict_lines, own_version}
use Rattle.sharp_verdicts.specs.declared.instances.Cited.{Cited}
use Rattle.sharp_verdicts.specs.Instances.{values_at}
use Rattle.sharp_verdicts.specs.Right.{Pointed}

-- what a line says: that the text is a sharp one; what a line of a report says; how many instances there are; or the mark of the instance that a reason cites, which is a rule of so many rows, or open
pub data SharpLine : Type 0 where
  SharpTitle : SharpLine
  Plain : Line → SharpLine
  InstancesAre : (count : ℕ) → SharpLine
  NeedsRule : Reason → (count : ℕ) → SharpLine
  NeedsOpen : Reason → (limit : ℕ) → SharpLine

-- all but the first
abbrev pub after_first : {A : Type 0} → List A → List A
after_first [] = []
after_first (x ∷ xs) = xs

module _ (study : Question) where
  -- the words of a line; an instance is written as in a reason, but without the word `axiom`
  abbrev pub sharp_words : SharpLine → List (List ℕ)
  sharp_words SharpTitle = codes "bench" ∷ codes "sharp" ∷ codes "1" ∷ []
  sharp_words (Plain line) = line_words study line
  sharp_words (InstancesAre n) = codes "instances" ∷ number_text n ∷ []
  sharp_words (NeedsRule r n) = codes "needs" ∷ after_first (reason_words study r) ++ codes "rule" ∷ number_text n ∷ []
  sharp_words (NeedsOpen r n) = codes "needs" ∷ after_first (reason_words study r) ++ codes "open" ∷ number_text n ∷ []

  -- the text of a line, without its line end
  abbrev pub sharp_line_text : SharpLine → List ℕ
  sharp_line_text line = joined_words (sharp_words line)

  -- the reason that cites an instance
  abbrev pub reason_at : Cited → Reason
  reason_at c = ByAxiom c.«axiom» (values_at study c)

  -- the mark of an instance: a rule with its rows, or an open mark
  abbrev pub mark_lines : Cited → Witness → List SharpLine
  mark_lines c (Rule table) = NeedsRule (reason_at c) (sort_count study.size Profile) ∷ map Plain (row_lines 0 table)
  mark_lines c (Open limit) = NeedsOpen (reason_at c) limit ∷ []

  -- a mark for each instance
  abbrev pub all_mark_lines : List Cited → List Witness → List SharpLine
  all_mark_lines [] marks = []
  all_mark_lines (c ∷ instances) [] = []
  all_mark_lines (c ∷ instances) (mark ∷ marks) = mark_lines c mark ++ all_mark_lines instances marks

  -- the lines of the report of the verdict up to and with the lemmas, as it is printed, without its first
  abbrev pub story_part : Pointed → List Line
  story_part v = after_first (head_lines study (own_version study)) ++ verdict_lines study (Impossible v.core v.story [])

  -- the lines of a sharp text
  abbrev pub sharp_lines : Pointed → List SharpLine
  sharp_lines v =
      SharpTitle ∷ map Plain (story_part v) ++ InstancesAre (length v.instances) ∷ all_mark_lines v.instances v.marks ++ Plain End ∷ []

  -- the text of a sharp verdict: its lines, each with its line end
  abbrev pub sharp_text : Pointed → List ℕ
  sharp_text v = flat_map (λ line. sharp_line_text line ++ 10 ∷ []) (sharp_lines v)
