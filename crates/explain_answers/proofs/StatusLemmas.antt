-- The statuses of a command.
use Rattle.std.proofs.Common.{◌≡◌, refl, ℕ, ◌≤◌, true, Option, None, Some}
use Rattle.std.specs.Prelude.{Contains, nat_le}
use Rattle.std.specs.List.{list_all}
use Rattle.std.proofs.lemmas.Bool.{leb-true}
use Rattle.answers.proofs.AmongLemmas.{of_one}
use Rattle.explain_words.specs.Words.{ExplainRequest, Story, Instance, Rules, Cores, Look}
use Rattle.explain_answers.specs.Call.{explain_statuses}

few : (request : Option ExplainRequest) → list_all (λ s. nat_le s 7) (explain_statuses request) ≡ true
few None = refl
few (Some (Story study report workers)) = refl
few (Some (Instance study axiom_name number)) = refl
few (Some (Rules study most workers)) = refl
few (Some (Cores study workers)) = refl
few (Some (Look study workers)) = refl

-- each status is at most 7
pub few_statuses : (request : Option ExplainRequest) (n : ℕ) → Contains (explain_statuses request) n → n ≤ 7
few_statuses request n one = leb-true n 7 (of_one (λ s. nat_le s 7) (explain_statuses request) n (few request) one)
