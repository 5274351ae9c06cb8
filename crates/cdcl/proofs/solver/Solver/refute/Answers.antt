use Rattle.std.proofs.Common.{arith, sym, ap, subst, ◌∙◌, ◌≡◌, ◌+◌, ℕ, List, [], ◌∷◌, ◌++◌}
use Rattle.cnf.specs.declared.derivations.Line.{Line}
use Rattle.cdcl.specs.Hints.{FollowsBy}
use Rattle.cdcl.specs.Search.{IsConflict}
use Rattle.cdcl.specs.Solver.{SolverState}
use Rattle.cdcl.proofs.Solving.{Refutes, Refutes-from, learns}
use Rattle.cdcl.proofs.solver.Solver.refute.Goals as goal

pub root_hints-requires : goal.root_hints-requires
root_hints-requires c = record {
  conflict = subst (λ (s : SolverState). IsConflict s.trail c.args.conflict) (sym c.self.view_is) c.requires.conflict;
  level = subst (λ (s : SolverState). s.trail.level ≡ 0) (sym c.self.view_is) c.requires.level;
}

refutes : (c : goal.After-drop-hints-2) → Refutes c.args.clauses.now.clauses c.args.self.now.trail.variables c.push.new.self
refutes c =
    let hints : List ℕ = c.in_ok-hints.hints.items in
    let number : ℕ = c.len.result + 1 in
    let id : ℕ = c.len-2.result + number in
    let made : c.in_ok-last.last ≡ learns number id [] hints = rw (c.new.ensures, c.as_slice.ensures.value) at c.in_ok-last.ensures in
    let all : c.push.new.self ≡ c.args.lines.now ++ learns number id [] hints ∷ [] = c.in_ok-push.ensures.ok ∙ ap (λ (x : Line). c.args.lines.now ++ x ∷ []) made in
    let follows : FollowsBy c.args.self.now.trail.clauses [] hints = subst (λ (s : SolverState). FollowsBy s.trail.clauses [] hints) c.self.view_is c.in_ok-hints.ensures in
    subst (λ (ls : List Line). Refutes c.args.clauses.now.clauses c.args.self.now.trail.variables ls) (sym all)
    (Refutes-from c.args.clauses.now.clauses c.args.self.now.trail.variables c.args.self.now.trail c.args.lines.now hints number id c.requires.searching follows (omega (arith, c.len.ensures)) (omega (arith, c.len-2.ensures.value)))

pub returns-clause-accepted : goal.returns-clause-accepted
returns-clause-accepted c = (refutes c).accepted

pub returns-clause-over : goal.returns-clause-over
returns-clause-over c = (refutes c).over

pub returns-clause-numbered : goal.returns-clause-numbered
returns-clause-numbered c = (refutes c).numbered
