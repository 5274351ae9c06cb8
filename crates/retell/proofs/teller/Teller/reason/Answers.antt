use Rattle.std.proofs.Common.{◌≡◌, ◌+◌, ◌-◌, ◌≤◌, length, arith, sym, ◌∙◌, ap, subst, cond, le-leb}
use Rattle.std.specs.Prelude.{slice_get}
use Rattle.vocab.specs.Size.{Extent}
use Rattle.meaning.specs.declared.stories.Reason.TheVariants.{Lemma as ByLemma}
use Rattle.clause_form.specs.Sources.{clauses_in}
use Rattle.std.proofs.lemmas.List.{length-map}
use Rattle.retell.specs.Cited.{HasInstance}
use Rattle.retell.specs.Retold.{by_origin, by_source}
use Rattle.retell.proofs.CitedLaws.{instance_at, source_at}
use Rattle.retell.proofs.TrimmedLines.{sourced}
use Rattle.retell.proofs.teller.Teller.reason.Goals as goal

pub reason_by-requires-clause-instance : goal.reason_by-requires-clause-instance
reason_by-requires-clause-instance g c =
    let size : Extent = g.K.OutcomeKind.size c.args.self.now.kind.now in
    let axioms = c.args.self.now.study.now.axioms in
    let sources = c.args.self.now.clauses.now in
    subst (λ (z : Extent). HasInstance z axioms c.origin.result) (sym c.space.ensures)
    (instance_at size axioms sources (c.args.id - 1) c.origin.result (sourced c.args.self.now.size c.args.self.now.trimmed) c.origin.ensures)

pub returns-then-id-count : goal.returns-then-id-count
returns-then-id-count g c =
    let size : Extent = g.K.OutcomeKind.size c.args.self.now.kind.now in
    let axioms = c.args.self.now.study.now.axioms in
    let sources = c.args.self.now.clauses.now in
    let n : length (clauses_in sources) ≡ length sources = length-map _ _ in
    let m : length (clauses_in sources) ≡ length c.clauses.result.now.clauses = ap length c.clauses.ensures.clauses in
    let le : c.args.id ≤ length sources = omega (arith, n, m, c.len.ensures.value, c.from-count.ensures, c.if-id-count.true) in
    c.reason_by.ensures
    ∙ ap (λ (z : Extent). by_origin z axioms c.origin.result) c.space.ensures
    ∙ sym (ap (λ b. cond b (by_source size axioms (slice_get sources (c.args.id - 1))) (ByLemma (c.args.id - (length sources + 1)))) (le-leb _ _ le)
    ∙ source_at size axioms sources (c.args.id - 1) c.origin.result c.origin.ensures)
