use Rattle.std.proofs.Common.{◌≡◌, ◌∙◌, ap, sym, ℕ, List, ◌++◌}
use Rattle.std.specs.Prelude.{codes}
use Rattle.lists.proofs.JoinLaws.{from_none, joined_4}
use Rattle.vocab.specs.declared.kinds.Sort.TheVariants.{Profile}
use Rattle.vocab.specs.Size.{Extent, sort_count}
use Rattle.meaning.specs.Variables.{variable_count}
use Rattle.verdicts.specs.Report.{own_version}
use Rattle.report_text.specs.Pieces.{about_lines, lines_text}
use Rattle.study_text.specs.declared.shares.Share.TheVariants as share
use Rattle.study_text.specs.LookText.{look_lines, number_line, share_line}
use Rattle.study_text.proofs.look.look_at.Goals as goal

pub returns : goal.returns
returns g c =
    let study = c.args.study.now in
    let front : List ℕ = codes "bench study 1\n" ++ lines_text study (about_lines study (own_version study)) in
    let size : c.space-space.result.now ≡ study.size = c.space-space.ensures ∙ sym c.requires.size in
    let profiles : c.put_share.new.out ≡ c.new-lines.result ++ share_line (share.Profiles (sort_count study.size Profile))
    = c.in_ok-put_share.ensures ∙ ap (λ (n : ℕ). c.new-lines.result ++ share_line (share.Profiles n)) (c.count.ensures.value ∙ ap (λ (s : Extent). sort_count s Profile) size)
    in
    let variables : c.put_number_line.new.out ≡ c.put_share.new.out ++ number_line (codes "variables") (variable_count study.size)
    = c.in_ok-put_number_line.ensures ∙ ap (λ (n : ℕ). c.put_share.new.out ++ number_line (codes "variables") n) (c.variable_count.ensures ∙ ap variable_count (sym c.requires.size))
    in
    let lines = joined_4 _ _ _ _ _ _ _ _ _ profiles variables c.in_ok-put_axioms.ensures c.in_ok-put_last.ensures in
    ap (λ (l : List ℕ). front ++ l) (from_none _ _ _ lines c.new-lines.ensures ∙ ap (look_lines study) c.requires.clauses)
