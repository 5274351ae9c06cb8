use Rattle.std.proofs.Common.{◌≡◌}
use Rattle.std.specs.Prelude.{slice_get}
use Rattle.vocab.specs.declared.kinds.Sort.TheVariants.{Profile}
use Rattle.vocab.specs.Size.{sort_count}
use Rattle.rule_pages.specs.Names.{is_given}
use Rattle.rule_pages.proofs.RestLemmas.{all_from}
use Rattle.rule_pages.proofs.names.has_rule_name.Given as goal

-- those from here on tell of all
abbrev pub invariant-loop-p : goal.invariant-loop-p
invariant-loop-p g l =
    let size = g.K.OutcomeKind.size l.kind in
    let all = all_from (λ p. is_given size l.name p (slice_get l.table p)) (sort_count size Profile) in
    all l.p ≡ all 0
