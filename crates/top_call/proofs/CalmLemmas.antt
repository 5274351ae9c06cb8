-- Calls over devices that count no fault.
use Rattle.std.proofs.Common.{◌≡◌, ℕ, List}
use Rattle.words.specs.Words.{request_of}
use Rattle.answers.specs.declared.runs.Run.{Run}
use Rattle.answers.specs.Call.{IsCall, files_of}
use Rattle.answers.specs.Devices.{Devices}
use Rattle.answers.specs.Laws.{AreAnswered, CallsAreComplete}
use Rattle.answers.proofs.CallLaws.{all_quiet, not_rose}

pub calm_call : (words : List (List ℕ)) (d : Devices) (run : Run) → CallsAreComplete → IsCall words d run
    → ((name : List ℕ) → d.faults_before name ≡ 0) → ((name : List ℕ) → d.faults_now name ≡ 0)
    → d.sink_faults_before ≡ 0 → d.sink_faults_now ≡ 0 → AreAnswered words d run
calm_call words d run complete call before now out_before out_now = complete words d run call (record {
  files = all_quiet d (λ name. not_rose (d.faults_before name) (d.faults_now name) (before name) (now name)) (files_of (request_of words));
  sink = not_rose d.sink_faults_before d.sink_faults_now out_before out_now;
})
