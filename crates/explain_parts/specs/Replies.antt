-- What is said with a reply: its status and its text.
use Rattle.std.specs.Prelude.{◌≡◌, ℕ, ◌≤◌, List, [], ◌++◌, Contains, Option, Result, Ok, Err, IfOk, IsErrOf}
use Rattle.edge.specs.Shelf.{Files}
use Rattle.answers.specs.Call.{AreFiles, AreUntouched}
use Rattle.command_parts.specs.declared.answer.Stop.{Stop}
use Rattle.command_parts.specs.declared.answer.Stop.TheVariants as stop
use Rattle.command_parts.specs.Answers.{HasText, answer_status, text_of as answer_text}
use Rattle.rules_text.specs.RulesText.{are_rules, rules_text}
use Rattle.map_text.specs.MapText.{HasNames, map_text}
use Rattle.study_text.specs.LookText.{made_text}
use Rattle.explain_words.specs.Words.{ExplainRequest}
use Rattle.explain_answers.specs.Cores.{cores_status}
use Rattle.explain_answers.specs.Instance.{instance_status}
use Rattle.explain_answers.specs.Rules.{rules_status}
use Rattle.explain_answers.specs.Lawful.{IsExplanation, explain_usage}
use Rattle.explain_answers.specs.Call.{HasCauseAtFile, explain_files, explain_statuses}
use Rattle.explain_parts.specs.declared.reply.Reply.{Reply}
use Rattle.explain_parts.specs.declared.reply.Reply.TheVariants as reply

abbrev pub status_of : Reply → ℕ
status_of reply.Usage = 2
status_of (reply.Refused answer) = answer_status answer
status_of (reply.Page page) = 0
status_of (reply.Instance said) = instance_status said.there
status_of (reply.Rules study list) = rules_status list.ending
status_of (reply.Cores study map) = cores_status map
status_of (reply.Look study look) = 0
status_of (reply.Helped helped) = answer_status helped.refusal

abbrev pub reply_text : Reply → List ℕ
reply_text reply.Usage = explain_usage
reply_text (reply.Refused answer) = answer_text answer
reply_text (reply.Page page) = page
reply_text (reply.Instance said) = said.text
reply_text (reply.Rules study list) = rules_text study list
reply_text (reply.Cores study map) = map_text study map
reply_text (reply.Look study look) = made_text study look
reply_text (reply.Helped helped) = answer_text helped.refusal ++ helped.help

-- an answer of `check` has a text, and so have a list of rules of the size and a map of the study's axioms
abbrev pub HasReplyText : Reply → Type 0
HasReplyText (reply.Refused answer) = HasText answer
HasReplyText (reply.Rules study list) = are_rules study.size list.tables
HasReplyText (reply.Cores study map) = HasNames study map.sets
HasReplyText (reply.Helped helped) = HasText helped.refusal
HasReplyText r = Unit {0}

-- the status of a result
abbrev pub replied_with : Result Reply Stop → ℕ
replied_with (Ok reply) = status_of reply
replied_with (Err stop.ReadFault) = 5
replied_with (Err stop.NoMemory) = 7

-- the reply is that of the table, with a status below 5 that the command has, and has a text; a fault has its cause;
-- what is left of other files stays, and where no file is read no count rose
pub record Replies (request : Option ExplainRequest) (told : Option Files) (left_before left_now : Files)
    (faults_before faults_now : List ℕ → ℕ) (result : Result Reply Stop) : Type 0 where
  pub lawful : (files : Files) → AreFiles told (explain_files request) files
      → IfOk result (λ reply. IsExplanation request files (status_of reply) (reply_text reply))
  pub known : Contains (explain_statuses request) (replied_with result)
  pub low : IfOk result (λ reply. status_of reply ≤ 4)
  pub has_text : IfOk result HasReplyText
  pub read_fault : IsErrOf result stop.ReadFault
      → HasCauseAtFile told left_before left_now faults_before faults_now (explain_files request)
  pub untouched : AreUntouched (replied_with result) (explain_files request) left_before left_now
  pub uncounted : explain_files request ≡ [] → (name : List ℕ) → faults_now name ≡ faults_before name
