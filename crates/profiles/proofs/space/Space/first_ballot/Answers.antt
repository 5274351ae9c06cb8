use Rattle.std.proofs.Common.{◌≡◌, ◌∙◌, ◌++◌, sym, ap, take, length, arith, length-append}
use Rattle.std.proofs.Math.Seq.{take-append_seam}
use Rattle.meaning.specs.Texts.{ballot_text}
use Rattle.profiles.proofs.ProfileTexts.{length-ballot_text}
use Rattle.profiles.proofs.space.Space.first_ballot.Goals as goal

pub returns-in_default : goal.returns-in_default
returns-in_default c = λ b rest h e.
    absurd (omega (arith, c.in_default.ensures.cases, ap length e, length-append (ballot_text c.args.self.now b) rest, length-ballot_text c.args.self.now b h))

pub returns-in_default-read_ballot : goal.returns-in_default-read_ballot
returns-in_default-read_ballot c = λ b rest h e.
    let long : c.alternatives.result.number ≡ length (ballot_text c.args.self.now b) = c.alternatives.ensures ∙ sym (length-ballot_text c.args.self.now b h) in
    c.in_default-read_ballot.ensures.none b h (c.in-Some.ensures.cases.1 ∙ ap (take c.alternatives.result.number) e ∙ ap (λ k. take k (ballot_text c.args.self.now b ++ rest)) long ∙ take-append_seam (ballot_text c.args.self.now b) rest)
