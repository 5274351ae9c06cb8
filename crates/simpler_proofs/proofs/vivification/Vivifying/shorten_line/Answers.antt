use Rattle.std.proofs.Common.{ap, refl, sym, subst, ◌∙◌, ◌≡◌, true, List, ℕ, get_or}
use Rattle.std.proofs.lemmas.Option.{get_or_from_slice_get}
use Rattle.cnf.specs.Signed.{Signed}
use Rattle.cnf.specs.Fresh.{added_by, is_over}
use Rattle.cnf.specs.declared.derivations.Line.{Line}
use Rattle.cnf.specs.declared.derivations.Step.{Step}
use Rattle.simpler_proofs.proofs.Passing.{each_at, over_left, parts_left}
use Rattle.simpler_proofs.proofs.vivification.Vivifying.shorten_line.Goals as goal

pub shorten-requires-clause-over : goal.shorten-requires-clause-over
shorten-requires-clause-over c =
    let s = c.args.self.now in
    let given : List Line = s.given.now.lines.now in
    let n : ℕ = s.given.now.formula.now.variables in
    let line : Line = c.get.result.now in
    let at : get_or given c.args.k line ≡ line = get_or_from_slice_get given c.args.k line line c.get.ensures in
    let clause : added_by (get_or given c.args.k line).step ≡ c.as_slice.result.now = ap (λ (l : Line). added_by l.step) at ∙ ap (λ (s : Step). added_by s) c.in-Add.is ∙ sym c.as_slice.ensures in
    let over : is_over n (added_by (get_or given c.args.k line).step) ≡ true = each_at (is_over n) given c.args.k line s.given.now.over c.requires.place in
    subst (λ (v : ℕ). is_over v c.as_slice.result.now ≡ true) (sym s.variables) (subst (λ (ls : List Signed). is_over n ls ≡ true) clause over)

pub invariant_of-self : goal.invariant_of-self
invariant_of-self c =
    let s = c.args.self.now in
    let given : List Line = s.given.now.lines.now in
    let n : ℕ = s.given.now.formula.now.variables in
    let line : Line = c.get.result.now in
    let at : get_or given c.args.k line ≡ line = get_or_from_slice_get given c.args.k line line c.get.ensures in
    let clause : added_by (get_or given c.args.k line).step ≡ c.as_slice.result.now = ap (λ (l : Line). added_by l.step) at ∙ ap (λ (s : Step). added_by s) c.in-Add.is ∙ sym c.as_slice.ensures in
    let over : is_over n (added_by (get_or given c.args.k line).step) ≡ true = each_at (is_over n) given c.args.k line s.given.now.over c.requires.place in
    let lines = s.draft.lines.items in
    let more = c.shorten.new.self.lines.items in
    record {
      variables = c.shorten.ensures.variables ∙ s.variables;
      over = over_left n n lines more c.as_slice.result.now refl (subst (λ (ls : List Signed). is_over n ls ≡ true) clause over) s.over c.shorten.ensures.passes;
      parts = parts_left given lines more c.args.k line c.as_slice.result.now c.requires.place clause s.parts c.shorten.ensures.passes;
    }
