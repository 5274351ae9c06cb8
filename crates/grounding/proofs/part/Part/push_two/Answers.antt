use Rattle.std.proofs.Common.{◌≡◌, ◌∙◌, ◌∷◌, [], ap, ap₂, sym, subst, true, ℕ, List}
use Rattle.cnf.specs.Sat.{Clause}
use Rattle.clause_form.specs.Sources.{clauses_in}
use Rattle.clause_form.proofs.SourceLaws.{clauses-sourced}
use Rattle.grounding.specs.Distinct.{is_seen}
use Rattle.grounding.specs.Parts.{with_origin}
use Rattle.grounding.proofs.PartLaws.{pushed-there, recent-there, same-repeat}
use Rattle.grounding.proofs.part.Part.push_two.Goals as goal

pub returns-then-is_recent : goal.returns-then-is_recent
returns-then-is_recent c =
    let inside = c.self.inside in
    let found = c.is_recent.ensures c.if-is_recent.true in
    let there = recent-there inside.clauses inside.recent.items found.0 (c.literal_code.result, c.literal_code-2.result) c.self.invariant.1 (rw c.as_slice.ensures.value at found.1) (rw c.as_slice.ensures.value at found.2) in
    let seen : is_seen inside.clauses (c.args.first ∷ c.args.second ∷ []) ≡ true = there c.literal_code.ensures.some c.args.first c.args.second (sym c.literal_code.ensures.code) (sym c.literal_code-2.ensures.code) in
    let clauses : clauses_in c.args.self.now ≡ inside.clauses = ap clauses_in (sym c.self.view_is) ∙ clauses-sourced inside.clauses inside.origins.items c.self.invariant.0 in
    same-repeat c.args.self.now (with_origin (c.args.first ∷ c.args.second ∷ []) c.args.origin)
    (subst (λ (cs : List Clause). is_seen cs (c.args.first ∷ c.args.second ∷ []) ≡ true) (sym clauses) seen)

pub invariant_of-self : goal.invariant_of-self
invariant_of-self c =
    let inside = c.self-2.inside in (
      c.self-2.invariant.0,
      c.remember.ensures inside.clauses c.self-2.invariant.1
          (pushed-there inside.clauses inside.origins.items c.args.self.now c.args.first c.args.second c.args.origin (c.literal_code.result, c.literal_code-2.result) c.self-2.invariant.0 (c.self-2.view_is ∙ c.in_ok-push.ensures.ok)
          (ap₂ (λ (m n : ℕ). (m, n)) c.literal_code.ensures.code c.literal_code-2.ensures.code)),
    )

pub invariant_of-self-2 : goal.invariant_of-self-2
invariant_of-self-2 c =
    let inside = c.self-2.inside in (
      c.self-2.invariant.0,
      c.remember.ensures inside.clauses c.self-2.invariant.1
          (pushed-there inside.clauses inside.origins.items c.args.self.now c.args.first c.args.second c.args.origin (c.literal_code.result, c.literal_code-2.result) c.self-2.invariant.0 (c.self-2.view_is ∙ c.in_ok-push.ensures.ok)
          (ap₂ (λ (m n : ℕ). (m, n)) c.literal_code.ensures.code c.literal_code-2.ensures.code)),
    )
