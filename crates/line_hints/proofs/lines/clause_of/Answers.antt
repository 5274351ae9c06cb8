use Rattle.std.proofs.Common.{arith, sym, ◌∙◌}
use Rattle.line_hints.specs.Ids.{all_added}
use Rattle.line_hints.proofs.UnderIds.{of_line, of_list, of_none}
use Rattle.line_hints.proofs.lines.clause_of.Goals as goal

pub returns-then-id-count : goal.returns-then-id-count
returns-then-id-count c =
    let least = c.if-id-eq0.false in
    let most = c.if-id-count.true in
    let from = c.from-count.ensures in
    let count = c.len.ensures.value in
    c.get.ensures ∙ sym (of_list c.args.clauses.now.clauses (all_added c.args.earlier.now) c.args.id (omega (arith, least)) (omega (arith, most, from, count)))

pub returns-then-place-earlier : goal.returns-then-place-earlier
returns-then-place-earlier c =
    let above = c.if-id-count.false in
    let within = c.if-place-earlier.true in
    let from = c.from-count.ensures in
    let count = c.len.ensures.value in
    c.clause_of_line.ensures
    ∙ sym (of_line c.args.clauses.now.clauses c.args.earlier.now c.args.id c.index-earlier-place.result
    (omega (arith, above, from, count)) (rw (from ∙ count) at within) (rw (from ∙ count) at c.index-earlier-place.is))

pub returns : goal.returns
returns c =
    let above = c.if-id-count.false in
    let beyond = c.if-place-earlier.false in
    let from = c.from-count.ensures in
    let count = c.len.ensures.value in
    sym (of_none c.args.clauses.now.clauses c.args.earlier.now c.args.id (omega (arith, above, from, count)) (omega (arith, beyond, from, count)))
