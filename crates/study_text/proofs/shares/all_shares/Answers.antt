use Rattle.std.proofs.Common.{◌≡◌, ◌∙◌, ap, sym, ℕ, [], ◌∷◌, ◌++◌, length}
use Rattle.vocab.specs.declared.kinds.Sort.TheVariants.{Profile}
use Rattle.vocab.specs.Size.{Extent, sort_count}
use Rattle.study_text.specs.declared.shares.Share.TheVariants as share
use Rattle.study_text.specs.Shares.{kept_literal_count}
use Rattle.study_text.proofs.TextLemmas.{listed}
use Rattle.study_text.proofs.shares.all_shares.Goals as goal

pub returns : goal.returns
returns c =
    let study = c.args.study.now in
    let kept = c.args.ground.now in
    let profiles : c.push.new.self ≡ c.new-shares.result ++ share.Profiles (sort_count study.size Profile) ∷ []
    = c.in_ok-push.ensures.ok ∙ ap (λ (n : ℕ). c.new-shares.result ++ share.Profiles n ∷ []) (c.count.ensures.value ∙ ap (λ (s : Extent). sort_count s Profile) (sym c.requires))
    in
    let clauses : c.push-2.new.self ≡ c.add_axioms.new.shares ++ share.Clauses (length kept) ∷ []
    = c.in_ok-push-2.ensures.ok ∙ ap (λ (n : ℕ). c.add_axioms.new.shares ++ share.Clauses n ∷ []) c.count_all.ensures.value
    in
    let literals : c.push-3.new.self ≡ c.push-2.new.self ++ share.Literals (kept_literal_count kept) ∷ []
    = c.in_ok-push-3.ensures.ok ∙ ap (λ (n : ℕ). c.push-2.new.self ++ share.Literals n ∷ []) c.kept_literal_count.ensures.value
    in
    listed _ _ _ _ _ _ _ _ _ c.new-shares.ensures profiles c.in_ok-add_axioms.ensures clauses literals
