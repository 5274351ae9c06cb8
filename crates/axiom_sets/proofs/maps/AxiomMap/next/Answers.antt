-- A set that satisfies the clauses is one that the map does not cover, and a refutation of them says that there is none.
use Rattle.std.proofs.Common.{◌≡◌, sym, subst, ℕ, ◌≤◌, List, Bool, All, true}
use Rattle.std.specs.Prelude.{IsTrue, IsFalse}
use Rattle.cnf.specs.Assignment.{value_of}
use Rattle.cnf.specs.Derived.{IsAccepted}
use Rattle.cnf.specs.Sat.{Clause, is_satisfied}
use Rattle.cnf.specs.Signed.{Signed}
use Rattle.cdcl.specs.Answer.{IsSearchAnswer}
use Rattle.axiom_sets.specs.Sets.{is_set}
use Rattle.axiom_sets.specs.Maps.{covers}
use Rattle.axiom_sets.specs.Next.{chosen}
use Rattle.axiom_sets.proofs.AskLaws.{chosen_is_set, found_uncovered, refuted_covers, uncovered_over}
use Rattle.axiom_sets.proofs.maps.AxiomMap.next.Goals as goal

pub solve-requires-clause-range : goal.solve-requires-clause-range
solve-requires-clause-range c = subst (λ (cs : List Clause). All (λ (clause : Clause). All (λ (l : Signed). l.variable ≤ c.args.count) clause) cs) (sym c.in-Ok.ensures.ok) (uncovered_over c.args.count c.args.self.now c.requires.tidy)

pub returns-in-Found : goal.returns-in-Found
returns-in-Found c =
    let v : ℕ → Bool = value_of c.in-Found.bits in
    let answers = subst (IsSearchAnswer c.in-Ok.clauses.clauses c.args.count 1000000) c.in-Found.is c.in_ok-bits.ensures.answers in
    let sat = subst (λ (cs : List Clause). is_satisfied v cs ≡ true) c.in-Ok.ensures.ok answers.1 in
    let is : c.in_ok-set-in-Found.set ≡ chosen v c.args.count = c.in_ok-set-in-Found.ensures in (
      subst (λ (s : List ℕ). IsTrue (is_set c.args.count s)) (sym is) (chosen_is_set v c.args.count),
      subst (λ (s : List ℕ). IsFalse (covers c.args.self.now s)) (sym is) (found_uncovered c.args.count c.args.self.now c.requires.tidy v sat),
    )

pub returns-in-Refuted : goal.returns-in-Refuted
returns-in-Refuted c =
    let answers = subst (IsSearchAnswer c.in-Ok.clauses.clauses c.args.count 1000000) c.in-Refuted.is c.in_ok-bits.ensures.answers in
    refuted_covers c.args.count c.args.self.now c.requires.tidy c.in-Refuted.field-0 (subst (λ (cs : List Clause). IsAccepted cs c.in-Refuted.field-0) c.in-Ok.ensures.ok answers.0)
