use Rattle.std.proofs.Common.{◌≡◌, ◌++◌, ℕ, List, [], subst, sym}
use Rattle.vocab.specs.Size.{Extent}
use Rattle.vocab.specs.Titled.{Titled}
use Rattle.verdicts.specs.declared.verdicts.Verdict.{Verdict}
use Rattle.verdicts.specs.declared.verdicts.Verdict.TheVariants.{Impossible}
use Rattle.sharp_verdicts.specs.Right.{Pointed}
use Rattle.sharp_pages.specs.SharpPages.{sharp_html}
use Rattle.sharp_pages.proofs.page.put_page.Goals as goal

same : (out old text : List ℕ) → out ≡ old ++ text → out ≡ old ++ text
same _ _ _ h = h

pub returns : goal.returns
returns g c =
    let study = c.args.setting.now.study.now in
    let source = c.args.source.now in
    let sharp : Pointed = record {
      core = c.args.sharp.now.core.now;
      story = c.args.sharp.now.story.now;
      instances = c.args.sharp.now.instances.now;
      marks = c.args.sharp.now.marks.now;
    } in
    let text : Extent → List Titled → Verdict → List ℕ =
    λ size axioms claim. sharp_html size axioms claim source.study.now source.report.now source.version.now c.args.told.now sharp in
    let said : Extent → List Titled → Verdict → Type 0 = λ size axioms claim. c.put_whole.new.out ≡ c.args.out.now ++ text size axioms claim in
    same c.put_whole.new.out c.args.out.now (text study.size study.axioms (Impossible sharp.core [] []))
    (subst (λ (size : Extent). said size study.axioms (Impossible sharp.core [] [])) (sym c.args.setting.now.same)
    (subst (λ (claim : Verdict). said (g.K.OutcomeKind.size c.args.setting.now.kind.now) study.axioms claim) c.in_ok-claim.ensures
    (subst (λ (axioms : List Titled). said (g.K.OutcomeKind.size c.args.setting.now.kind.now) axioms c.in_ok-claim.claim) c.axioms.ensures.axioms
    (subst (λ (axioms : List Titled). said (g.K.OutcomeKind.size c.args.setting.now.kind.now) axioms c.in_ok-claim.claim) c.as_slice.ensures
    (subst (λ (axioms : List Titled). said (g.K.OutcomeKind.size c.args.setting.now.kind.now) axioms c.in_ok-claim.claim) c.in_ok-about.ensures c.in_ok-put_whole.ensures)))))
