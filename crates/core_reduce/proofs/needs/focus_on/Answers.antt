use Rattle.std.proofs.Common.{Bool, List, ap, ◌∙◌, map, filter}
use Rattle.cnf.specs.declared.derivations.Line.{Line}
use Rattle.clause_form.specs.Sources.{is_left}
use Rattle.clause_form.specs.Cited.{is_axiom_cited}
use Rattle.core_reduce.specs.Kept.{keeps}
use Rattle.core_reduce.specs.Moved.{moved_line}
use Rattle.core_reduce.proofs.CitedLaws.{is_focus}
use Rattle.core_reduce.proofs.needs.focus_on.Goals as goal

pub returns : goal.returns
returns c =
    is_focus c.args.clauses.now c.args.lines.now c.args.count c.in_ok-trimmed.trimmed c.clauses.result.now.clauses record { gone = c.in_ok-gone.gone; clauses = c.in_ok-rest.rest; proof = c.in_ok-proof.proof }
    c.clauses.ensures.clauses c.in_ok-trimmed.ensures.form c.in_ok-trimmed.ensures.no_new c.in_ok-trimmed.ensures.no_new_hint c.in_ok-trimmed.ensures.no_more
    c.in_ok-gone.ensures.count
    (λ a lt. c.in_ok-gone.ensures.cited a lt ∙ ap (λ (ls : List Line). is_axiom_cited c.args.clauses.now ls a) c.as_slice.ensures)
    (c.in_ok-rest.ensures ∙ ap (λ (g : List Bool). filter (is_left (keeps g)) c.args.clauses.now) c.as_slice-2.ensures.value)
    (c.in_ok-proof.ensures ∙ ap (λ (g : List Bool). map (moved_line (is_left (keeps g)) c.args.clauses.now) c.as_slice-4.result.now) c.as_slice-3.ensures.value ∙ ap (map (moved_line (is_left (keeps c.in_ok-gone.gone.items)) c.args.clauses.now)) c.as_slice-4.ensures)
