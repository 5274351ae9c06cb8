use Rattle.std.proofs.Common.{arith, ◌≤◌, ◌<◌, ◌+◌, ◌∙◌, ℕ, ap, sym, length, replicate, false, List}
use Rattle.std.specs.Prelude.{Bool, All}
use Rattle.std.proofs.lemmas.List.Elements.{All-weaker}
use Rattle.cdcl.specs.Seen.{marks_of}
use Rattle.cdcl.proofs.Stamps.{none_marked, none_marked_at_first, count_of}
use Rattle.cdcl.proofs.seen.Seen.clear.Goals as goal

pub returns-then-self : goal.returns-then-self
returns-then-self c =
    ap (λ (xs : List ℕ). marks_of 1 xs) c.clear_stamps.ensures ∙ none_marked_at_first (length c.self.inside.stamps.items)
    ∙ ap (λ n. replicate n false) (sym (count_of c.self.inside.round c.self.inside.stamps.items) ∙ ap (λ (xs : List Bool). length xs) c.self.view_is)

pub returns : goal.returns
returns c =
    let low : All (λ s. s < c.self.inside.round + 1) c.self.inside.stamps.items = All-weaker (λ s. s ≤ c.self.inside.round) (λ s. s < c.self.inside.round + 1) (λ s e. omega arith) c.self.inside.stamps.items c.self.invariant in
    none_marked (c.self.inside.round + 1) c.self.inside.stamps.items low
    ∙ ap (λ n. replicate n false) (sym (count_of c.self.inside.round c.self.inside.stamps.items) ∙ ap (λ (xs : List Bool). length xs) c.self.view_is)
