-- `rules`, as a command over a study, and what is replied with a list of rules.
use Rattle.std.proofs.Common.{◌≡◌, sym, refl, subst, ℕ, List, [], ◌∷◌, Option, None, Some, arith}
use Rattle.std.specs.List.{list_all, AllByRecursion}
use Rattle.std.proofs.lemmas.Bool.{and_from}
use Rattle.vocab.specs.Study.{Question}
use Rattle.meaning.specs.Truth.{is_rule}
use Rattle.rule_lists.specs.declared.answers.Ending.{Ending}
use Rattle.rule_lists.specs.declared.answers.Ending.TheVariants.{Whole, More, Open}
use Rattle.rule_lists.specs.declared.answers.RuleList.{RuleList}
use Rattle.rule_lists.specs.RuleLists.{IsRuleOf, IsRuleList}
use Rattle.rule_lists.proofs.LeavingLaws.{rule_of}
use Rattle.rules_text.specs.RulesText.{are_rules, rules_text}
use Rattle.answers.specs.Grounding.{clauses_fault, OverClauses, clauses_made}
use Rattle.answers.proofs.AmongLemmas.{found_among}
use Rattle.explain_words.specs.Words.{ExplainRequest, Rules}
use Rattle.explain_answers.specs.Rules.{IsRuleListWritten, rules_status}
use Rattle.explain_answers.specs.Story.{bare_run}
use Rattle.explain_answers.specs.Call.{explain_statuses}
use Rattle.explain_parts.proofs.StudyReplies.{IsLow, IsStudyCommand, low_at, over_clauses}

-- `rules` is such a command
module _ (name : List ℕ) (most workers : ℕ) where
  abbrev listing : Option ExplainRequest
  listing = Some (Rules name most workers)

  listed_low : (ending : Ending) (status : ℕ) → status ≡ rules_status ending → IsLow listing status
  listed_low Whole status e = subst (IsLow listing) (sym e) (low_at listing 0 refl (omega arith))
  listed_low More status e = subst (IsLow listing) (sym e) (low_at listing 0 refl (omega arith))
  listed_low Open status e = subst (IsLow listing) (sym e) (low_at listing 4 refl (omega arith))

  pub rules_command : IsStudyCommand listing name (λ study status text. OverClauses study (bare_run status) text (IsRuleListWritten study most status text))
  rules_command = record {
    reads = record { one = refl; can_fail = found_among (explain_statuses listing) 5 refl };
    into = λ files status text row. row;
    can_refuse = low_at listing 3 refl (omega arith);
    ends = λ study status text. over_clauses listing study status text (IsRuleListWritten study most status text) (low_at listing 3 refl (omega arith)) (λ is. listed_low is.list.ending status is.ends);
  }

-- the rules that satisfy the axioms are rules of the size
pub are_rules_of : (study : Question) (tables : List (List ℕ)) → AllByRecursion (IsRuleOf study) tables → are_rules study.size tables
are_rules_of study [] h = refl
are_rules_of study (table ∷ tables) h = and_from (is_rule study.size table) (list_all (is_rule study.size) tables) (rule_of study table h.0) (are_rules_of study tables h.1)

-- a right list of rules is what is said
pub listed : (study : Question) (most : ℕ) (list : RuleList) → clauses_fault study ≡ None → IsRuleList study most list
    → OverClauses study (bare_run (rules_status list.ending)) (rules_text study list) (IsRuleListWritten study most (rules_status list.ending) (rules_text study list))
listed study most list none right = clauses_made none (record { list = list; right = right; ends = refl; lines = refl })
