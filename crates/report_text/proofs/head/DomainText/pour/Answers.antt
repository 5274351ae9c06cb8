use Rattle.std.proofs.Common.{◌≡◌, sym, ◌∙◌, ap, [], true, false}
use Rattle.vocab.specs.Size.{Extent, is_full}
use Rattle.report_text.proofs.ReportLemmas.{domain_text, no_domain, own_domain}
use Rattle.texts.proofs.PourLemmas.{renamed, added_nothing, ends}
use Rattle.report_text.proofs.head.DomainText.pour.Goals as goal

pub returns-then-full : goal.returns-then-full
returns-then-full g c =
    let study = c.args.self.now.of.study.now in
    let full : is_full study.size ≡ true = ap (λ (s : Extent). is_full s) (sym c.size-size.ensures) ∙ sym c.full.ensures ∙ c.if-full.true in
    ends _ _ _ _ _ _ [] (added_nothing _ _ _) tt _ (no_domain study (is_full study.size) full)

pub returns : goal.returns
returns g c =
    let study = c.args.self.now.of.study.now in
    let other : is_full study.size ≡ false = ap (λ (s : Extent). is_full s) (sym c.size-size.ensures) ∙ sym c.full.ensures ∙ c.if-full.false in
    renamed _ _ _ _ _ _ c.pour.result _ _ (domain_text study c.args.self.now.of.space.now c.args.self.now.of.same ∙ own_domain study (is_full study.size) other)
    (rw (c.absent_word.ensures, c.absent.ensures, c.size-size.ensures) at c.pour.ensures)
