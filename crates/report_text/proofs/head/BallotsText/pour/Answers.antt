use Rattle.std.proofs.Common.{◌∷◌, ◌<◌, ◌≤◌, ap, ◌∙◌, ℕ, List, length, arith}
use Rattle.vocab.specs.Size.{ballot_places}
use Rattle.meaning.specs.Texts.{ranking_text}
use Rattle.profiles.proofs.ProfileTexts.{ballot_letters}
use Rattle.texts.proofs.LoopLemmas.{spelled_stops, spelled_goes_on, spelled_ends}
use Rattle.report_text.proofs.head.BallotsText.pour.Goals as goal

pub returns-in_err-pour : goal.returns-in_err-pour
returns-in_err-pour g c =
    let size = c.args.self.now.space.now in
    let within : c.loop-b.b < length (ballot_places size) = omega (arith, c.ballots-b-end.ensures.value) in
    spelled_stops (λ (_ : ℕ) (place : ℕ). 32 ∷ ranking_text size.alternatives place) (ballot_places size) 0 c.loop-b.b 0 _ _ _ _ _ _ c.loop-b.invariant _ _ _ c.in_err-pour.field-0.0 c.from_residual.result _ within
    (ap (λ (text : List ℕ). 32 ∷ text) (c.bytes.ensures ∙ c.ballot_text-ballot.ensures ∙ ballot_letters size c.loop-b.b within)) c.from_residual.ensures.0 c.in_err-pour.ensures

pub loop-b-preserved : goal.loop-b-preserved
loop-b-preserved g c =
    let size = c.args.self.now.space.now in
    let within : c.loop-b.b < length (ballot_places size) = omega (arith, c.ballots-b-end.ensures.value) in
    spelled_goes_on (λ (_ : ℕ) (place : ℕ). 32 ∷ ranking_text size.alternatives place) (ballot_places size) 0 c.loop-b.b 0 _ _ _ _ _ _ c.loop-b.invariant _ _ _ c.in_ok-pour.field-0 _ within
    (ap (λ (text : List ℕ). 32 ∷ text) (c.bytes.ensures ∙ c.ballot_text-ballot.ensures ∙ ballot_letters size c.loop-b.b within)) c.in_ok-pour.ensures

pub returns : goal.returns
returns g c =
    let size = c.args.self.now.space.now in
    let all : length (ballot_places size) ≤ c.loop-b.b = omega (arith, c.ballots-b-end.ensures.value) in
    spelled_ends (λ (_ : ℕ) (place : ℕ). 32 ∷ ranking_text size.alternatives place) (ballot_places size) 0 c.loop-b.b 0 _ _ _ _ _ _ c.loop-b.invariant tt all
