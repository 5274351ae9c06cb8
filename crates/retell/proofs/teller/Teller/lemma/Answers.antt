use Rattle.std.proofs.Common.{◌≡◌, ◌<◌, ◌≤◌, ◌+◌, ◌∷◌, [], ◌++◌, length, map, take, get_or, arith, refl, ℕ, List, sym, ◌∙◌, ap, ap₂, subst}
use Rattle.std.proofs.lemmas.Option.{same_Some}
use Rattle.vocab.specs.Size.{Extent}
use Rattle.vocab.specs.declared.literals.Literal.{Literal}
use Rattle.cnf.specs.declared.derivations.Line.{Line}
use Rattle.cnf.specs.Fresh.{added_by}
use Rattle.cnf.specs.Signed.{Signed}
use Rattle.cnf.specs.Sat.{Clause, opposite_lit}
use Rattle.meaning.specs.Variables.{variable_count, literal_of}
use Rattle.meaning.specs.declared.stories.Lemma.{Lemma}
use Rattle.meaning.specs.declared.stories.Reason.{Reason}
use Rattle.retell.specs.Marked.{IsMarking}
use Rattle.retell.specs.Retold.{standing_of, suppose_of, reason_of, lemma_of}
use Rattle.retell.proofs.StepLaws.{AreStepsUpTo, roomy, some_hint, steps_start, next_step, last_step}
use Rattle.retell.proofs.TrimmedLines.{line_here}
use Rattle.retell.proofs.teller.Teller.lemma.Goals as goal

pub suppose-requires-clause-over : goal.suppose-requires-clause-over
suppose-requires-clause-over g c = λ κs out.
    (
    line_here c.args.self.now.size c.args.self.now.trimmed c.args.self.now.sentences c.args.at c.args.line.now c.requires.line (take c.args.at c.as_slice-lines.result.now) c.clause_in-clause.result.now c.hints_in-hints.result.now
    (ap (take c.args.at) c.as_slice-lines.ensures) c.clause_in-clause.ensures c.hints_in-hints.ensures
    ).over

pub suppose-requires-clause-plain : goal.suppose-requires-clause-plain
suppose-requires-clause-plain g c = λ κs out.
    (
    line_here c.args.self.now.size c.args.self.now.trimmed c.args.self.now.sentences c.args.at c.args.line.now c.requires.line (take c.args.at c.as_slice-lines.result.now) c.clause_in-clause.result.now c.hints_in-hints.result.now
    (ap (take c.args.at) c.as_slice-lines.ensures) c.clause_in-clause.ensures c.hints_in-hints.ensures
    ).plain

pub overflow_sub-end : goal.overflow_sub-end
overflow_sub-end g c =
    let size : Extent = g.K.OutcomeKind.size c.args.self.now.kind.now in
    let axioms = c.args.self.now.study.now.axioms in
    let sources = c.args.self.now.clauses.now in
    let earlier : List Line = take c.args.at c.as_slice-lines.result.now in
    let hints : List ℕ = c.hints_in-hints.result.now in
    let here = line_here c.args.self.now.size c.args.self.now.trimmed c.args.self.now.sentences c.args.at c.args.line.now c.requires.line earlier (added_by c.args.line.now.step) hints
    (ap (take c.args.at) c.as_slice-lines.ensures) refl c.hints_in-hints.ensures in
    let some : 1 ≤ length hints = some_hint size axioms sources earlier hints (map opposite_lit (added_by c.args.line.now.step)) here.trimmed in
    omega (arith, some)

pub loop-i-init : goal.loop-i-init
loop-i-init g c =
    let size : Extent = g.K.OutcomeKind.size c.args.self.now.kind.now in
    let axioms = c.args.self.now.study.now.axioms in
    let sources = c.args.self.now.clauses.now in
    let earlier : List Line = take c.args.at c.as_slice-lines.result.now in
    let clause : Clause = added_by c.args.line.now.step in
    let hints : List ℕ = c.hints_in-hints.result.now in
    let here = line_here c.args.self.now.size c.args.self.now.trimmed c.args.self.now.sentences c.args.at c.args.line.now c.requires.line earlier clause hints
    (ap (take c.args.at) c.as_slice-lines.ensures) refl c.hints_in-hints.ensures in
    let known : IsMarking c.args.marks.now.stamp c.suppose.new.marks.stamps.items (map opposite_lit clause) =
    subst (λ (ls : Clause). IsMarking c.args.marks.now.stamp c.suppose.new.marks.stamps.items (map opposite_lit ls)) c.clause_in-clause.ensures c.in_ok-suppose.ensures.known in
    record {
      stamp = c.suppose.ensures.stamp;
      room = c.suppose.ensures.room;
      some = some_hint size axioms sources earlier hints (map opposite_lit clause) here.trimmed;
      line = here;
      steps = subst (AreStepsUpTo size axioms sources earlier clause hints 0 c.args.marks.now.stamp c.suppose.new.marks.stamps.items)
          (sym c.in_ok-steps.ensures) (steps_start here.trimmed known);
    }

pub clause_of-cited-requires-clause-low : goal.clause_of-cited-requires-clause-low
clause_of-cited-requires-clause-low g c =
    let n = next_step c.loop-i.invariant.steps c.loop-i.invariant.some c.loop-i-test.true in
    n.low

pub clause_of-cited-requires-clause-high : goal.clause_of-cited-requires-clause-high
clause_of-cited-requires-clause-high g c =
    let n = next_step c.loop-i.invariant.steps c.loop-i.invariant.some c.loop-i-test.true in
    n.high

pub first_unknown-requires : goal.first_unknown-requires
first_unknown-requires g c =
    let n = next_step c.loop-i.invariant.steps c.loop-i.invariant.some c.loop-i-test.true in
    let room : variable_count (g.K.OutcomeKind.size c.args.self.now.kind.now) < length c.loop-i.marks.stamps.items = omega (arith, c.requires.blank.room, c.loop-i.invariant.room) in
    roomy (variable_count (g.K.OutcomeKind.size c.args.self.now.kind.now)) (length c.loop-i.marks.stamps.items) c.clause_of-cited.result.now room (n.over c.loop-i.invariant.line.cited_over c.clause_of-cited.result.now c.clause_of-cited.ensures)

pub unwrap-lit-requires : goal.unwrap-lit-requires
unwrap-lit-requires g c =
    let n = next_step c.loop-i.invariant.steps c.loop-i.invariant.some c.loop-i-test.true in
    let is = n.answer_is c.clause_of-cited.result.now c.clause_of-cited.ensures c.first_unknown.result
    (λ known l m e. c.first_unknown.ensures known l (subst (λ (s : ℕ). IsMarking s c.loop-i.marks.stamps.items known) (sym c.loop-i.invariant.stamp) m) e) in
    rw is refl

pub mark-requires : goal.mark-requires
mark-requires g c =
    let n = next_step c.loop-i.invariant.steps c.loop-i.invariant.some c.loop-i-test.true in
    let is = n.answer_is c.clause_of-cited.result.now c.clause_of-cited.ensures c.first_unknown.result
    (λ known l m e. c.first_unknown.ensures known l (subst (λ (s : ℕ). IsMarking s c.loop-i.marks.stamps.items known) (sym c.loop-i.invariant.stamp) m) e) in
    let same : c.unwrap-lit.result ≡ n.literal = same_Some c.unwrap-lit.result n.literal (sym c.unwrap-lit.ensures ∙ is) in
    let range = n.in_range c.loop-i.invariant.line.cited_over in
    let variable : c.unwrap-lit.result.variable ≡ n.literal.variable = ap (λ (l : Signed). l.variable) same in
    omega (arith, variable, range.1, c.requires.blank.room, c.loop-i.invariant.room)

pub literal-requires-clause-high : goal.literal-requires-clause-high
literal-requires-clause-high g c =
    let n = next_step c.loop-i.invariant.steps c.loop-i.invariant.some c.loop-i-test.true in
    let is = n.answer_is c.clause_of-cited.result.now c.clause_of-cited.ensures c.first_unknown.result
    (λ known l m e. c.first_unknown.ensures known l (subst (λ (s : ℕ). IsMarking s c.loop-i.marks.stamps.items known) (sym c.loop-i.invariant.stamp) m) e) in
    let same : c.unwrap-lit.result ≡ n.literal = same_Some c.unwrap-lit.result n.literal (sym c.unwrap-lit.ensures ∙ is) in
    let range = n.in_range c.loop-i.invariant.line.cited_over in
    let variable : c.unwrap-lit.result.variable ≡ n.literal.variable = ap (λ (l : Signed). l.variable) same in
    omega (arith, variable, range.1)

pub reason-requires-clause-low : goal.reason-requires-clause-low
reason-requires-clause-low g c =
    let n = next_step c.loop-i.invariant.steps c.loop-i.invariant.some c.loop-i-test.true in
    omega (arith, n.low)

pub reason-requires-clause-high : goal.reason-requires-clause-high
reason-requires-clause-high g c =
    let n = next_step c.loop-i.invariant.steps c.loop-i.invariant.some c.loop-i-test.true in
    omega (arith, n.high, c.loop-i.invariant.line.few)

pub loop-i-preserved : goal.loop-i-preserved
loop-i-preserved g c =
    let size : Extent = g.K.OutcomeKind.size c.args.self.now.kind.now in
    let axioms = c.args.self.now.study.now.axioms in
    let sources = c.args.self.now.clauses.now in
    let stamp : ℕ = c.args.marks.now.stamp in
    let before : List ℕ = c.loop-i.marks.stamps.items in
    let marked : List ℕ = c.mark.new.self.stamps.items in
    let n = next_step c.loop-i.invariant.steps c.loop-i.invariant.some c.loop-i-test.true in
    let is = n.answer_is c.clause_of-cited.result.now c.clause_of-cited.ensures c.first_unknown.result
    (λ known l m e. c.first_unknown.ensures known l (subst (λ (s : ℕ). IsMarking s c.loop-i.marks.stamps.items known) (sym c.loop-i.invariant.stamp) m) e) in
    let same : c.unwrap-lit.result ≡ n.literal = same_Some c.unwrap-lit.result n.literal (sym c.unwrap-lit.ensures ∙ is) in
    let one_more : (known : List Signed) → IsMarking stamp before known → IsMarking stamp marked (n.literal ∷ known) =
    λ known m. subst (λ (l : Signed). IsMarking stamp marked (l ∷ known)) same
    (subst (λ (s : ℕ). IsMarking s before known → IsMarking s marked (c.unwrap-lit.result ∷ known)) c.loop-i.invariant.stamp (c.mark.ensures.one_more known) m) in
    let literal : c.literal.result ≡ literal_of size n.literal = c.literal.ensures ∙ ap (literal_of size) same in
    let reason : c.reason.result ≡ reason_of size axioms sources (get_or c.hints_in-hints.result.now c.loop-i.i 0) = c.reason.ensures in
    record {
      stamp = c.mark.ensures.stamp ∙ c.loop-i.invariant.stamp;
      room = c.mark.ensures.room ∙ c.loop-i.invariant.room;
      some = c.loop-i.invariant.some;
      line = c.loop-i.invariant.line;
      steps = subst (AreStepsUpTo size axioms sources (take c.args.at c.as_slice-lines.result.now) (added_by c.args.line.now.step) c.hints_in-hints.result.now (c.loop-i.i + 1) stamp marked)
          (sym (c.in_ok-push.ensures.ok ∙ ap₂ (λ (l : Literal) (r : Reason). c.loop-i.steps ++ record { literal = l; reason = r } ∷ []) literal reason)) (n.more marked one_more);
    }

pub reason-requires-2-clause-low : goal.reason-requires-2-clause-low
reason-requires-2-clause-low g c =
    let n = last_step c.loop-i.invariant.steps c.loop-i.invariant.some c.loop-i-test.false c.loop-i.auto.i-end in
    omega (arith, n.low)

pub reason-requires-2-clause-high : goal.reason-requires-2-clause-high
reason-requires-2-clause-high g c =
    let n = last_step c.loop-i.invariant.steps c.loop-i.invariant.some c.loop-i-test.false c.loop-i.auto.i-end in
    omega (arith, n.high, c.loop-i.invariant.line.few)

pub returns-clause-lemma : goal.returns-clause-lemma
returns-clause-lemma g c =
    let size : Extent = g.K.OutcomeKind.size c.args.self.now.kind.now in
    let axioms = c.args.self.now.study.now.axioms in
    let sources = c.args.self.now.clauses.now in
    let n = last_step c.loop-i.invariant.steps c.loop-i.invariant.some c.loop-i-test.false c.loop-i.auto.i-end in
    let supposed = c.in_ok-suppose.ensures.suppose ∙ ap (suppose_of size) c.clause_in-clause.ensures in
    let last = c.reason-2.ensures ∙ n.reason in
    let lemma : Lemma = record { suppose = c.in_ok-suppose.suppose; steps = c.loop-i.steps; last = c.reason-2.result } in
    let told : lemma ≡ lemma_of size axioms sources (standing_of sources (take c.args.at c.as_slice-lines.result.now)) (added_by c.args.line.now.step) c.hints_in-hints.result.now =
    λ j. record { suppose = supposed j; steps = n.told j; last = last j } in
    told ∙ c.loop-i.invariant.line.lemma_is
