-- Where no fault is counted, a row was written, or memory was wanting.
use Rattle.std.proofs.Common.{◌≡◌, ◌≤◌, inl, inr, arith}
use Rattle.std.proofs.lemmas.Bool.{cases_lt}
use Rattle.answers.proofs.CallLaws.{calls_complete, low_status}
use Rattle.call_laws.specs.Rows.{QuietCallsHaveRows}

pub quiet_rows : QuietCallsHaveRows
quiet_rows words d run call quiet = elim (cases_lt run.status 5) [
  | inl low ↦ inl (omega (arith, low), λ files are. call.lawful files are (omega (arith, low)))
  | inr high ↦
      let few : run.status ≤ 7 = low_status words d run call in
      let complete = calls_complete words d run call quiet in
      elim (cases_lt run.status 6) [
        | inl less ↦ let five : run.status ≡ 5 = omega (arith, less, high) in absurd (complete.no_read_fault five)
        | inr more ↦ elim (cases_lt run.status 7) [
          | inl less ↦ let six : run.status ≡ 6 = omega (arith, less, more) in absurd (complete.no_write_fault six)
          | inr most ↦ inr (omega (arith, most, few))
        ]
      ]
]
