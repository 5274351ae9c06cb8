use Rattle.std.proofs.Common.{◌≡◌, sym, ◌∙◌, ap, subst, ◌<◌, ◌≤◌, true, List, length, get_or, set, false, arith}
use Rattle.std.specs.Vec.{vec_capacity}
use Rattle.std.proofs.lemmas.Option.{get_or_from_slice_get}
use Rattle.vocab.specs.declared.literals.Literal.{Literal}
use Rattle.vocab.specs.Literal.{has}
use Rattle.worlds.specs.Boards.{IsBoard, without_literal, are_distinct, mark_of}
use Rattle.worlds.proofs.BoardLemmas.{board_without, remove-without, without-none, without-last, last_is_new}
use Rattle.worlds.proofs.boards.Board.remove.Goals as goal

-- the literals that are left
taken : (c : goal.After-remove-gone) → c.remove-gone.new.self.items ≡ without_literal c.args.literal.now c.self.inside.literals.items
taken c =
    let items = c.self.inside.literals.items in
    let within : c.place_of-place.result < length items = rw c.as_slice.ensures.value at c.place_of-place.ensures.within in
    let at_place : get_or items c.place_of-place.result c.args.literal.now ≡ c.args.literal.now = get_or_from_slice_get items c.place_of-place.result c.args.literal.now c.args.literal.now (rw c.as_slice.ensures.value at c.place_of-place.ensures.there) in
    c.remove-gone.ensures.items ∙ remove-without c.args.literal.now items c.place_of-place.result c.self.invariant.distinct within at_place

pub invariant_of-self : goal.invariant_of-self
invariant_of-self c =
    let items = c.self.inside.literals.items in
    let marks = c.self.inside.marks.items in
    let held : items ≡ c.args.self.now.literals = ap (λ k. k.literals) c.self.view_is in
    let there : has items c.args.literal.now ≡ true = subst (λ (r : List Literal). has r c.args.literal.now ≡ true) (sym held) (sym c.has.ensures ∙ c.if-has.true) in
    let same : vec_capacity c.self.inside.literals ≤ vec_capacity c.remove-gone.new.self = omega (arith, c.remove-gone.ensures.capacity) in
    let board : IsBoard c.self.inside.size (without_literal c.args.literal.now items) (vec_capacity c.remove-gone.new.self) (set marks (mark_of c.args.literal.now) false) =
    board_without c.self.inside.size items (vec_capacity c.self.inside.literals) marks c.self.invariant c.args.literal.now (vec_capacity c.remove-gone.new.self) there same in
    rw c.mark_of-mark.ensures (subst (λ (r : List Literal). IsBoard c.self.inside.size r (vec_capacity c.remove-gone.new.self) (set marks (mark_of c.args.literal.now) false)) (sym (taken c)) board)

pub returns-then-has-clause-literals : goal.returns-then-has-clause-literals
returns-then-has-clause-literals c = taken c ∙ ap (λ (r : List Literal). without_literal c.args.literal.now r) (ap (λ k. k.literals) c.self.view_is)

pub returns-then-has-clause-undoes : goal.returns-then-has-clause-undoes
returns-then-has-clause-undoes c = λ known e.
    let is = ap (λ k. k.literals) c.self.view_is ∙ e in
    taken c ∙ ap (λ (r : List Literal). without_literal c.args.literal.now r) is
    ∙ without-last c.args.literal.now known (last_is_new c.args.literal.now known (subst (λ (r : List Literal). are_distinct r ≡ true) is c.self.invariant.distinct))

pub returns-else-has-clause-literals : goal.returns-else-has-clause-literals
returns-else-has-clause-literals c = sym (without-none c.args.literal.now c.args.self.now.literals (sym c.has.ensures ∙ c.if-has.false))
