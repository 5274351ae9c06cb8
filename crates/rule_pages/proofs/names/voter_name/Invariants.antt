use Rattle.std.proofs.Common.{◌≡◌}
use Rattle.rule_pages.specs.declared.names.RuleName.TheVariants.{Voter}
use Rattle.rule_pages.specs.Names.{has_rule_name}
use Rattle.rule_pages.proofs.RestLemmas.{first_from}
use Rattle.rule_pages.proofs.names.voter_name.Given as goal

-- those from here on tell of all
abbrev pub invariant-loop-voter : goal.invariant-loop-voter
invariant-loop-voter g l =
    let size = g.K.OutcomeKind.size l.kind in
    let first = first_from (λ i. has_rule_name size l.table (Voter l.role i)) size.voters in
    first l.voter ≡ first 0
