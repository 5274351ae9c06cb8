-- The text of a list of rules.
use Rattle.std.specs.Prelude.{ℕ, List, [], ◌∷◌, ◌++◌, codes, length, IsTrue}
use Rattle.std.specs.List.{list_all}
use Rattle.vocab.specs.Size.{Extent}
use Rattle.vocab.specs.Study.{Question}
use Rattle.meaning.specs.Texts.{outcome_text, profile_text}
use Rattle.meaning.specs.Truth.{is_rule}
use Rattle.verdicts.specs.Report.{own_version}
use Rattle.report_text.specs.Pieces.{about_lines, count_text, lines_text}
use Rattle.texts.specs.Spelled.{spelled}
use Rattle.rule_lists.specs.declared.answers.Ending.{Ending}
use Rattle.rule_lists.specs.declared.answers.Ending.TheVariants.{Whole, More, Open}
use Rattle.rule_lists.specs.declared.answers.RuleList.{RuleList}

-- how a list of so many rules ends
abbrev pub ending_text : Ending → ℕ → List ℕ
ending_text Whole count = count_text (codes "rules ") count
ending_text More count = count_text (codes "more than ") count
ending_text Open count = codes "open\n"

module _ (size : Extent) where
  -- a row, as in a report: a profile and its outcome
  abbrev pub row_text : (p o : ℕ) → List ℕ
  row_text p o = profile_text size p ++ (32 ∷ (outcome_text size o ++ 10 ∷ []))

  -- the rule of a number: a line with the number, and its rows
  abbrev pub rule_text : (number : ℕ) → (table : List ℕ) → List ℕ
  rule_text number table = count_text (codes "rule ") number ++ spelled row_text 0 table

  -- each table is a rule of the size
  abbrev pub are_rules : List (List ℕ) → Type 0
  are_rules tables = IsTrue (list_all (is_rule size) tables)

-- the text of a list of rules: what the study is, as in a report; each rule, numbered from 1; and how the list ends
abbrev pub rules_text : Question → RuleList → List ℕ
rules_text study list =
    (codes "bench rules 1\n" ++ lines_text study (about_lines study (own_version study)))
    ++ (spelled (rule_text study.size) 1 list.tables ++ (ending_text list.ending (length list.tables) ++ codes "end\n"))
