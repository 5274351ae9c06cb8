use Rattle.std.proofs.Common.{arith, sym, ap, subst, ◌∙◌, ◌≡◌, ◌+◌, ◌<◌, ℕ, List, [], ◌∷◌, ◌++◌, length}
use Rattle.cnf.specs.Signed.{Signed}
use Rattle.cnf.specs.declared.derivations.Line.{Line}
use Rattle.cdcl.specs.Search.{IsConflict, IsSearching}
use Rattle.cdcl.specs.Solver.{SolverState}
use Rattle.propagate.specs.Values.{UsesUpTo}
use Rattle.propagate.specs.TrailState.{TrailState, IsTrail, IsLearnable, cut_to}
use Rattle.cdcl.proofs.Solving.{IsSearching-learn, clause_count, learns}
use Rattle.cdcl.proofs.Whole.{IsSolver-learn}
use Rattle.cdcl.proofs.Rests.{UsesUpTo-asserting}
use Rattle.cdcl.proofs.solver.Solver.learn.Goals as goal

pub analyze-requires : goal.analyze-requires
analyze-requires c = record {
  marks = c.self.invariant.marks ∙ sym c.self.invariant.over;
  rests = c.self.invariant.rests;
  conflict = subst (λ (s : SolverState). IsConflict s.trail c.args.conflict) (sym c.self.view_is) c.requires.conflict;
  level = subst (λ (s : SolverState). 0 < s.trail.level) (sym c.self.view_is) c.requires.level;
}

pub raise_all-requires : goal.raise_all-requires
raise_all-requires c =
    let uses : UsesUpTo c.self.inside.trail.variables c.in_ok-learned.learned.clause.items = UsesUpTo-asserting c.self.inside.trail c.in_ok-learned.learned.clause.items _ c.self.invariant.form c.in_ok-learned.ensures.asserting in
    rw (c.as_slice.ensures.value, c.self.invariant.all.variables, ← c.self.invariant.over) (λ i d lt. (uses i d lt).up_to)

pub go_back-requires : goal.go_back-requires
go_back-requires c = let below = c.in_ok-learned.ensures.jumps.below in omega (arith, below)

pub learn-requires : goal.learn-requires
learn-requires c =
    let t : TrailState = c.self.inside.trail in
    let state : c.self-2.inside.trail ≡ cut_to t c.in_ok-learned.learned.level = ap (λ (s : SolverState). s.trail) c.self-2.view_is ∙ c.go_back.ensures.state in
    let searching : IsSearching c.args.clauses.now.clauses t.variables t c.args.lines.now = subst (λ (s : SolverState). IsSearching c.args.clauses.now.clauses s.trail.variables s.trail c.args.lines.now) (sym c.self.view_is) c.requires.searching in
    let same : t.variables ≡ c.self-2.inside.trail.variables = sym (ap (λ (x : TrailState). x.variables) state) in
    let uses : UsesUpTo t.variables c.in_ok-learned.learned.clause.items = UsesUpTo-asserting t c.in_ok-learned.learned.clause.items _ c.self.invariant.form c.in_ok-learned.ensures.asserting in
    let count : length c.self-2.inside.trail.clauses ≡ length c.args.clauses.now.clauses + length c.args.lines.now =
    ap (λ (x : TrailState). length x.clauses) state ∙ clause_count c.args.clauses.now.clauses t.variables t c.args.lines.now searching in
    record {
      room = let few = c.len-2.ensures.limits.few_clauses in omega (arith, few, count, c.requires.room);
      variables = rw (c.as_slice-2.ensures.value, ← same) (λ i d lt. (uses i d lt).up_to);
      learnable = rw (state, c.as_slice-2.ensures.value) c.in_ok-learned.ensures.jumps.learnable;
    }

-- a clause may be learned where it was learnable before the trail was cut back
learnable_here : (t now : TrailState) (level : ℕ) (clause slice : List Signed) → now ≡ cut_to t level → slice ≡ clause → IsLearnable (cut_to t level) clause → IsLearnable now slice
learnable_here t now level clause slice state same h = rw (state, same) h

pub invariant_of-self-in_err-push : goal.invariant_of-self-in_err-push
invariant_of-self-in_err-push c =
    IsSolver-learn c.self-2.inside.trail c.learn.new.self c.as_slice-2.result.now c.self-2.inside.order c.self-2.inside.seen c.self-2.inside.variables c.self-2.invariant
    (learnable_here c.self.inside.trail c.self-2.inside.trail c.in_ok-learned.learned.level c.in_ok-learned.learned.clause.items c.as_slice-2.result.now
    (ap (λ (s : SolverState). s.trail) c.self-2.view_is ∙ c.go_back.ensures.state) c.as_slice-2.ensures.value c.in_ok-learned.ensures.jumps.learnable)
    c.in_ok-learn.ensures.form c.in_ok-learn.ensures.state

pub invariant_of-self-3 : goal.invariant_of-self-3
invariant_of-self-3 c =
    IsSolver-learn c.self-2.inside.trail c.learn.new.self c.as_slice-2.result.now c.self-2.inside.order c.self-2.inside.seen c.self-2.inside.variables c.self-2.invariant
    (learnable_here c.self.inside.trail c.self-2.inside.trail c.in_ok-learned.learned.level c.in_ok-learned.learned.clause.items c.as_slice-2.result.now
    (ap (λ (s : SolverState). s.trail) c.self-2.view_is ∙ c.go_back.ensures.state) c.as_slice-2.ensures.value c.in_ok-learned.ensures.jumps.learnable)
    c.in_ok-learn.ensures.form c.in_ok-learn.ensures.state

pub returns-clause-searching : goal.returns-clause-searching
returns-clause-searching c =
    let t : TrailState = c.self.inside.trail in
    let clause : List Signed = c.in_ok-learned.learned.clause.items in
    let hints : List ℕ = c.in_ok-learned.learned.hints.items in
    let level : ℕ = c.in_ok-learned.learned.level in
    let number : ℕ = c.len.result + 1 in
    let id : ℕ = c.len-2.result + number in
    let searching : IsSearching c.args.clauses.now.clauses t.variables t c.args.lines.now = subst (λ (s : SolverState). IsSearching c.args.clauses.now.clauses s.trail.variables s.trail c.args.lines.now) (sym c.self.view_is) c.requires.searching in
    let high : 0 < t.level = subst (λ (s : SolverState). 0 < s.trail.level) (sym c.self.view_is) c.requires.level in
    let state : c.self-2.inside.trail ≡ cut_to t level = ap (λ (s : SolverState). s.trail) c.self-2.view_is ∙ c.go_back.ensures.state in
    let cut : IsTrail (cut_to t level) = subst IsTrail state c.self-2.invariant.form in
    let made : c.in_ok-last.last ≡ learns number id clause hints = c.in_ok-last.ensures in
    let all : c.push.new.self ≡ c.args.lines.now ++ learns number id clause hints ∷ [] = c.in_ok-push.ensures.ok ∙ ap (λ (x : Line). c.args.lines.now ++ x ∷ []) made in
    subst (λ (s : SolverState). IsSearching c.args.clauses.now.clauses s.trail.variables c.learn.new.self c.push.new.self) c.self.view_is
    (subst (λ (ls : List Line). IsSearching c.args.clauses.now.clauses t.variables c.learn.new.self ls) (sym all)
    (IsSearching-learn c.args.clauses.now.clauses t.variables t c.args.lines.now clause hints level number id c.learn.new.self searching high
    c.in_ok-learned.ensures.asserting c.in_ok-learned.ensures.jumps cut c.in_ok-learn.ensures.form (rw (state, c.as_slice-2.ensures.value) at c.in_ok-learn.ensures.state)
    (omega (arith, c.len.ensures)) (omega (arith, c.len-2.ensures.value))))
