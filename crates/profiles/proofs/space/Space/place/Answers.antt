use Rattle.std.proofs.Common.{◌≡◌, ◌<◌, ◌∙◌, ℕ, ap, sym, subst, get_or, arith}
use Rattle.vocab.specs.Size.{Extent, IsSize, ballot_places, factorial}
use Rattle.profiles.specs.Weights.{places_of}
use Rattle.profiles.proofs.TableLemmas.{few_ballots, place_listed}
use Rattle.meaning.proofs.BallotLaws.{place_below}
use Rattle.profiles.proofs.space.Space.place.Goals as goal

pub bounds-self-inside-b : goal.bounds-self-inside-b
bounds-self-inside-b c = let few = few_ballots c.args.self.now (subst IsSize c.self.view_is c.self.invariant.valid) in omega (arith, few, c.requires)

pub returns-clause-in_range : goal.returns-clause-in_range
returns-clause-in_range c =
    let value : c.from.result ≡ get_or (ballot_places c.args.self.now) c.args.b 0 = c.from.ensures ∙ ap (λ ps. get_or ps c.args.b 0) c.self.invariant.listed ∙ ap (λ (s : Extent). get_or (places_of s) c.args.b 0) c.self.view_is ∙ place_listed c.args.self.now c.args.b c.requires in
    subst (λ (n : ℕ). n < factorial c.args.self.now.alternatives) (sym value) (place_below c.args.self.now c.args.b c.requires)

pub returns-clause-value : goal.returns-clause-value
returns-clause-value c =
    c.from.ensures ∙ ap (λ ps. get_or ps c.args.b 0) c.self.invariant.listed ∙ ap (λ (s : Extent). get_or (places_of s) c.args.b 0) c.self.view_is ∙ place_listed c.args.self.now c.args.b c.requires
