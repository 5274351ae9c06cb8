-- `rules STUDY`: all rules that satisfy the axioms of a study, or as many as are asked for.
use Rattle.std.specs.Prelude.{◌≡◌, ℕ, List}
use Rattle.edge.specs.Shelf.{Files}
use Rattle.vocab.specs.Study.{Question}
use Rattle.answers.specs.Grounding.{OverClauses}
use Rattle.answers.specs.Studies.{OverStudy}
use Rattle.rule_lists.specs.declared.answers.Ending.{Ending}
use Rattle.rule_lists.specs.declared.answers.Ending.TheVariants.{Whole, More, Open}
use Rattle.rule_lists.specs.declared.answers.RuleList.{RuleList}
use Rattle.rule_lists.specs.RuleLists.{IsRuleList}
use Rattle.rules_text.specs.RulesText.{rules_text}
use Rattle.explain_answers.specs.Story.{bare_run}

-- 4 where it is not known whether there are more rules
abbrev pub rules_status : Ending → ℕ
rules_status Whole = 0
rules_status More = 0
rules_status Open = 4

-- a right list of rules is written
pub record IsRuleListWritten (study : Question) (most status : ℕ) (text : List ℕ) : Type 0 where
  pub list : RuleList
  pub right : IsRuleList study most list
  pub ends : status ≡ rules_status list.ending
  pub lines : text ≡ rules_text study list

-- the file of the study is refused, or the clauses of its axioms are, as `decide` refuses them; or the rules are listed
abbrev pub AreRules : Files → (name : List ℕ) → (most status : ℕ) → (text : List ℕ) → Type 0
AreRules files name most status text =
    OverStudy files name (bare_run status) text (λ study. OverClauses study (bare_run status) text (IsRuleListWritten study most status text))
