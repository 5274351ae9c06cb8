-- What is read off an entry: its variable and its reason are in range.
use Rattle.std.proofs.Common.{subst, ◌≡◌, ℕ, ◌<◌, ◌≤◌, [], length, get_or, take, ap, sym, arith, refl, Option, Some, None}
use Rattle.std.specs.Coded.{le_prop}
use Rattle.std.specs.Prelude.{All, IfSome, option_and_then}
use Rattle.std.proofs.Math.Logic.{∥∥₁_elim}
use Rattle.cnf.specs.Sat.{Clause}
use Rattle.cnf.specs.Signed.{Signed}
use Rattle.propagate.specs.declared.entry.Entry.{Entry}
use Rattle.propagate.specs.Entries.{entry_of, IsForcedBy}
use Rattle.propagate.specs.TrailState.{TrailState, IsTrail, clause_at}
use Rattle.propagate.specs.Values.{UsesUpTo}
use Rattle.propagate.proofs.Holding.{All-entry_of}

-- the variable of the literal at a place
pub variable_within : (t : TrailState) (p : ℕ) (l : Signed) → ∥ IsTrail t ∥₁ → p < length t.entries → ((d : Entry) → l ≡ (get_or t.entries p d).literal) → l.variable ≤ t.variables
variable_within t p l h lt at = ∥∥₁_elim h le_prop (λ (form : IsTrail t).
    let d : Entry = record { literal = l; level = 0; reason = None } in
    let most = (form.in_range p d lt).most in
    let v : l.variable ≡ (get_or t.entries p d).literal.variable = ap (λ (x : Signed). x.variable) (at d) in
    omega (arith, v, most))

-- the variables of a clause
clause_in : (t : TrailState) (k : ℕ) (clause : Clause) → IsTrail t → k < length t.clauses → clause ≡ clause_at t k → UsesUpTo t.variables clause
clause_in t k clause form lt at = subst (UsesUpTo t.variables) (sym at) (form.clauses_in_range k [] lt)

pub clause_within : (t : TrailState) (n k : ℕ) (clause : Clause) → ∥ IsTrail t ∥₁ → n ≡ t.variables → k < length t.clauses → clause ≡ clause_at t k → UsesUpTo n clause
clause_within t n k clause h count lt at = subst (λ (m : ℕ). UsesUpTo m clause) (sym count) (λ i d here. record {
  from_one = ∥∥₁_elim h le_prop (λ (form : IsTrail t). (clause_in t k clause form lt at i d here).from_one);
  up_to = ∥∥₁_elim h le_prop (λ (form : IsTrail t). (clause_in t k clause form lt at i d here).up_to);
})

-- the reason of an entry
abbrev pub HasReasonWithin : TrailState → Entry → Type 0
HasReasonWithin t e = (k : ℕ) → e.reason ≡ Some k → k < length t.clauses

reasons_within : (t : TrailState) → IsTrail t → All (HasReasonWithin t) t.entries
reasons_within t form p d lt k e =
    (subst (λ (o : Option ℕ). IsForcedBy t.clauses (take p t.entries) (get_or t.entries p d).literal o) e (form.follows p d lt).forced).0

reason_of : (t : TrailState) (v k : ℕ) (o : Option Entry) → IsTrail t → entry_of t.entries v ≡ o → Some k ≡ option_and_then (λ (e : Entry). e.reason) o → k < length t.clauses
reason_of t v k None form e h = absurd (cc)
reason_of t v k (Some x) form e h = All-entry_of (HasReasonWithin t) t.entries v x (reasons_within t form) e k (sym h)

pub reason_within : (t : TrailState) (v k : ℕ) → ∥ IsTrail t ∥₁ → Some k ≡ option_and_then (λ (e : Entry). e.reason) (entry_of t.entries v) → k < length t.clauses
reason_within t v k h e = ∥∥₁_elim h le_prop (λ (form : IsTrail t). reason_of t v k (entry_of t.entries v) form refl e)

pub reason_if : (t : TrailState) (v : ℕ) (o : Option ℕ) → ∥ IsTrail t ∥₁ → o ≡ option_and_then (λ (e : Entry). e.reason) (entry_of t.entries v) → IfSome o (λ k. k < length t.clauses)
reason_if t v None form h = tt
reason_if t v (Some k) form h = reason_within t v k form h
