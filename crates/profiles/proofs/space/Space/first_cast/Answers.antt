use Rattle.std.proofs.Common.{◌≡◌, ◌<◌, ◌≤◌, ◌∙◌, ◌++◌, ◌∷◌, ℕ, List, ap, sym, subst, get_or, arith, inl, inr}
use Rattle.std.proofs.lemmas.Bool.{cases_lt}
use Rattle.std.proofs.lemmas.List.{nil_from_length}
use Rattle.vocab.specs.Size.{ballot_count}
use Rattle.meaning.specs.Texts.{cast_text}
use Rattle.meaning.proofs.RangeLaws.{ballot_is_cast}
use Rattle.profiles.proofs.ProfileTexts.{absence_dash, ballot_byte, cast_byte, cast_is_ballot, match_map}
use Rattle.profiles.proofs.space.Space.first_cast.Goals as goal

pub returns-in_default : goal.returns-in_default
returns-in_default c = λ d rest l e.
    let byte = cast_byte c.args.self.now c.voters-voters.ensures.valid d rest in
    let none : get_or (cast_text c.args.self.now d ++ rest) 0 0 ≡ 0 = ap (λ (t : List ℕ). get_or t 0 0) (sym e ∙ nil_from_length c.args.text.now c.in_default.ensures.cases) in
    omega (arith, byte, none)

pub returns-then-byte-eq45 : goal.returns-then-byte-eq45
returns-then-byte-eq45 c =
    let size = c.args.self.now in
    let front : c.args.text.now ≡ 45 ∷ c.in-Some.rest.now = c.in-Some.ensures.cases.0 ∙ ap (λ (b : ℕ). b ∷ c.in-Some.rest.now) c.if-byte-eq45.true in
    match_map _ _ _ _ c.absence.result
    (λ all d rest l e.
    let ballot : d < ballot_count c.args.self.now = subst (λ (n : ℕ). d < n) all l in
    let byte = ballot_byte c.args.self.now c.voters-voters.ensures.valid d rest ballot in
    let dash : get_or (cast_text c.args.self.now d ++ rest) 0 0 ≡ 45 = ap (λ (t : List ℕ). get_or t 0 0) (sym e ∙ front) in
    omega (arith, byte, dash))
    (λ found h.
    let past : ballot_count c.args.self.now ≤ found.0 = omega (arith, h.1) in
    (h.0, front ∙ ap (λ (t : List ℕ). t ++ c.in-Some.rest.now) (sym (absence_dash c.args.self.now found.0 past)) ∙ ap (λ (t : List ℕ). cast_text c.args.self.now found.0 ++ t) (sym h.2)))
    c.absence.ensures

pub returns : goal.returns
returns c =
    match_map _ _ _ _ c.first_ballot.result
    (λ none d rest l e. elim (cases_lt d (ballot_count c.args.self.now)) [
      | inl ballot ↦ none d rest ballot (e ∙ ap (λ (t : List ℕ). t ++ rest) (cast_is_ballot c.args.self.now d ballot))
      | inr past ↦ c.if-byte-eq45.false (ap (λ (t : List ℕ). get_or t 0 0) (sym c.in-Some.ensures.cases.0 ∙ e ∙ ap (λ (t : List ℕ). t ++ rest) (absence_dash c.args.self.now d past)))
    ])
    (λ found h. (ballot_is_cast c.args.self.now found.0 h.0, h.1 ∙ ap (λ (t : List ℕ). t ++ found.1.now) (sym (cast_is_ballot c.args.self.now found.0 h.0))))
    c.first_ballot.ensures
