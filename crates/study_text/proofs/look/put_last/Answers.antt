use Rattle.std.proofs.Common.{◌≡◌, ◌∙◌, ap, ℕ, ◌++◌, length, Option}
use Rattle.lists.proofs.JoinLaws.{joined_4}
use Rattle.study_text.specs.declared.shares.Share.{Share}
use Rattle.study_text.specs.declared.shares.Share.TheVariants as share
use Rattle.study_text.specs.LookText.{nearest_line, share_line}
use Rattle.study_text.specs.Shares.{all_shares, kept_literal_count, nearest}
use Rattle.study_text.proofs.look.put_last.Goals as goal

pub returns : goal.returns
returns c =
    let study = c.args.study.now in
    let kept = c.args.ground.now in
    let clauses : c.put_share.new.out ≡ c.args.out.now ++ share_line (share.Clauses (length kept))
    = c.in_ok-put_share.ensures ∙ ap (λ (n : ℕ). c.args.out.now ++ share_line (share.Clauses n)) c.count_all.ensures.value
    in
    let literals : c.put_share-2.new.out ≡ c.put_share.new.out ++ share_line (share.Literals (kept_literal_count kept))
    = c.in_ok-put_share-2.ensures ∙ ap (λ (n : ℕ). c.put_share.new.out ++ share_line (share.Literals n)) c.kept_literal_count.ensures.value
    in
    let near : c.put_nearest.new.out ≡ c.put_share-2.new.out ++ nearest_line (nearest (all_shares study kept))
    = c.in_ok-put_nearest.ensures ∙ ap (λ (o : Option Share). c.put_share-2.new.out ++ nearest_line o) (c.nearest.ensures ∙ ap nearest (c.as_slice.ensures ∙ c.in_ok-shares.ensures))
    in
    joined_4 _ _ _ _ _ _ _ _ _ clauses literals near c.in_ok-append.ensures.ok
