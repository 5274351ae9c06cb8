use Rattle.std.proofs.Common.{◌≡◌, sym, ap, ◌∙◌, false}
use Rattle.vocab.specs.Size.{Extent}
use Rattle.meaning.specs.Literals.{is_literal}
use Rattle.premises.proofs.ForcedLemmas.{unknown_outside}
use Rattle.premises.proofs.teller.Teller.is_forced.Goals as goal

pub returns-then-not-is_literal : goal.returns-then-not-is_literal
returns-then-not-is_literal g c =
    let teller = c.args.self.now in
    let l = c.args.literal.now in
    let size : Extent = g.K.OutcomeKind.size teller.grounds.setting.now.kind.now in
    let outside : is_literal size l ≡ false = ap (λ (s : Extent). is_literal s l) (sym (c.size.ensures ∙ c.space.ensures)) ∙ sym c.is_literal.ensures ∙ c.if-not-is_literal.true in
    sym (unknown_outside teller.forced.now.size size teller.forced.now.literals l teller.size c.as_slice-facts.ensures.ours outside)
