-- `instance`, as a command over a study.
use Rattle.std.proofs.Common.{◌≡◌, sym, refl, subst, ℕ, Bool, true, false, List, Option, Some, arith}
use Rattle.instance_text.specs.Said.{is_there}
use Rattle.answers.proofs.AmongLemmas.{found_among}
use Rattle.explain_words.specs.Words.{ExplainRequest, Instance}
use Rattle.explain_answers.specs.Instance.{IsInstanceSaid, instance_status}
use Rattle.explain_answers.specs.Call.{explain_statuses}
use Rattle.explain_parts.proofs.StudyReplies.{IsLow, IsStudyCommand, low_at}

-- `instance` is such a command
module _ (name axiom_name : List ℕ) (number : ℕ) where
  abbrev asked : Option ExplainRequest
  asked = Some (Instance name axiom_name number)

  instance_low : (there : Bool) (status : ℕ) → status ≡ instance_status there → IsLow asked status
  instance_low true status e = subst (IsLow asked) (sym e) (low_at asked 0 refl (omega arith))
  instance_low false status e = subst (IsLow asked) (sym e) (low_at asked 3 refl (omega arith))

  pub instance_command : IsStudyCommand asked name (λ study status text. IsInstanceSaid study axiom_name number status text)
  instance_command = record {
    reads = record { one = refl; can_fail = found_among (explain_statuses asked) 5 refl };
    into = λ files status text row. row;
    can_refuse = low_at asked 3 refl (omega arith);
    ends = λ study status text is. instance_low (is_there study axiom_name number) status is.ends;
  }
