use Rattle.std.proofs.Common.{◌≡◌, ◌∙◌, rules, ap, sym, false, length}
use Rattle.std.specs.Prelude.{◌==◌}
use Rattle.std.specs.Vec.{vec_len}
use Rattle.report_files.proofs.LineLemmas.{no_rule_held}
use Rattle.verdicts.specs.Judge.{pieces, front}
use Rattle.report_files.proofs.reader.Reader.table.Goals as goal

pub returns-else-is_empty-clause-value : goal.returns-else-is_empty-clause-value
returns-else-is_empty-clause-value g c =
    let held = c.self.inside.held in
    let counted : vec_len held ≡ length held.items = search rules in
    let some : (length held.items == 0) ≡ false = ap (λ n. n == 0) (sym counted) ∙ sym c.is_empty.ensures ∙ c.if-is_empty.false in
    rw (← c.self.view_is) (λ text stands. no_rule_held c.self.inside.checker.study text held.items some stands.1)

pub returns-then-is_empty-clause-right : goal.returns-then-is_empty-clause-right
returns-then-is_empty-clause-right g c = rw (← c.self.view_is) (λ text stands. c.table.ensures.right (front (pieces text)) stands.0)
