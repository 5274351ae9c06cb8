-- Calls over devices that count no fault.
use Rattle.std.proofs.Common.{◌≡◌, ℕ, List}
use Rattle.answers.specs.Devices.{Devices}
use Rattle.answers.proofs.CallLaws.{all_quiet, not_rose}
use Rattle.explain_words.specs.Words.{request_of}
use Rattle.explain_answers.specs.Call.{IsExplainCall, explain_files}
use Rattle.explain_answers.specs.Completeness.{AreExplained, ExplainCallsAreComplete}

pub calm_call : (words : List (List ℕ)) (d : Devices) (status : ℕ) → ExplainCallsAreComplete → IsExplainCall words d status
    → ((name : List ℕ) → d.faults_before name ≡ 0) → ((name : List ℕ) → d.faults_now name ≡ 0)
    → d.sink_faults_before ≡ 0 → d.sink_faults_now ≡ 0 → AreExplained words d status
calm_call words d status complete call before now out_before out_now = complete words d status call (record {
  files = all_quiet d (λ name. not_rose (d.faults_before name) (d.faults_now name) (before name) (now name)) (explain_files (request_of words));
  sink = not_rose d.sink_faults_before d.sink_faults_now out_before out_now;
})
