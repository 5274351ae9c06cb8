use Rattle.std.proofs.Common.{sym, ◌∙◌}
use Rattle.clause_form.proofs.FormLaws.{both_shown}
use Rattle.clause_form.proofs.rows.both.Goals as goal

pub returns-in_ok-clauses-in-Some-Some : goal.returns-in_ok-clauses-in-Some-Some
returns-in_ok-clauses-in-Some-Some c = λ size xs ys p q. record {
  counted = c.sum-counts.ensures xs ys p.counted q.counted;
  shown = both_shown size xs ys c.args.a.now.clauses c.args.b.clauses c.in-Some-Some.first c.in-Some-Some.rest _ c.in-Some-Some.is-0 (sym c.into_clauses.ensures ∙ c.in-Some-Some.is-1)
      c.in_ok-clauses-in-Some-Some.ensures p.shown q.shown;
}
