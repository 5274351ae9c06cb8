use Rattle.std.proofs.Common.{◌<◌, ◌∙◌, ℕ, ap, sym, subst, get_or}
use Rattle.vocab.specs.Size.{ballot_places, factorial}
use Rattle.meaning.specs.Texts.{ranking_text}
use Rattle.meaning.proofs.BallotLaws.{place_below}
use Rattle.profiles.proofs.ProfileTexts.{ballot_letters, read_found, read_none}
use Rattle.profiles.proofs.space.Space.read_ballot.Goals as goal

pub returns-in_default-clause-none : goal.returns-in_default-clause-none
returns-in_default-clause-none c = λ b l e.
    let m = c.alternatives.ensures in
    c.in_default.ensures.none (get_or (ballot_places c.args.self.now) b 0) (subst (λ (n : ℕ). get_or (ballot_places c.args.self.now) b 0 < factorial n) (sym m) (place_below c.args.self.now b l))
    (e ∙ ballot_letters c.args.self.now b l ∙ ap (λ n. ranking_text n (get_or (ballot_places c.args.self.now) b 0)) (sym m))

pub returns-clause-found : goal.returns-clause-found
returns-clause-found c =
    read_found c.args.self.now c.args.text.now c.in-Some.place c.number_of.result (c.in-Some.ensures.found.1 ∙ ap (λ n. ranking_text n c.in-Some.place) c.alternatives.ensures) c.number_of.ensures.found

pub returns-clause-none : goal.returns-clause-none
returns-clause-none c =
    read_none c.args.self.now c.voters-voters.ensures.valid c.args.text.now c.in-Some.place c.number_of.result (subst (λ (n : ℕ). c.in-Some.place < factorial n) c.alternatives.ensures c.in-Some.ensures.found.0)
    (c.in-Some.ensures.found.1 ∙ ap (λ n. ranking_text n c.in-Some.place) c.alternatives.ensures) c.number_of.ensures.none
