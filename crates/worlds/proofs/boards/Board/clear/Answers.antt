use Rattle.std.proofs.Common.{◌≡◌, ◌<◌, ◌≤◌, List, length, subst, arith, rules, ◌++◌, ◌∷◌, []}
use Rattle.std.specs.Vec.{vec_capacity, vec_len}
use Rattle.vocab.specs.declared.literals.Literal.{Literal}
use Rattle.worlds.specs.Boards.{IsBoard, mark_of}
use Rattle.worlds.proofs.BoardLemmas.{last_mark, board_before}
use Rattle.worlds.proofs.boards.Board.clear.Goals as goal

pub index_mut-requires : goal.index_mut-requires
index_mut-requires c =
    let cap = vec_capacity c.loop-literal.self-inside.literals in
    let marks = c.loop-literal.self-inside.marks.items in
    let board : IsBoard c.loop-literal.self-inside.size (c.pop.new.self.items ++ c.in-Some.literal ∷ []) cap marks =
    subst (λ (r : List Literal). IsBoard c.loop-literal.self-inside.size r cap marks) c.in-Some.ensures.items c.loop-literal.invariant.1 in
    let within : mark_of c.in-Some.literal < length marks = last_mark c.loop-literal.self-inside.size c.pop.new.self.items c.in-Some.literal cap marks board in
    let counted : length marks ≡ vec_len c.loop-literal.self-inside.marks = search rules in
    omega (arith, c.mark_of-mark.ensures, within, counted)

pub loop-literal-preserved : goal.loop-literal-preserved
loop-literal-preserved c =
    let cap = vec_capacity c.loop-literal.self-inside.literals in
    let marks = c.loop-literal.self-inside.marks.items in
    let board : IsBoard c.loop-literal.self-inside.size (c.pop.new.self.items ++ c.in-Some.literal ∷ []) cap marks =
    subst (λ (r : List Literal). IsBoard c.loop-literal.self-inside.size r cap marks) c.in-Some.ensures.items c.loop-literal.invariant.1 in
    let same : cap ≤ vec_capacity c.pop.new.self = omega (arith, c.in-Some.ensures.capacity) in
    (c.loop-literal.invariant.0, rw c.mark_of-mark.ensures (board_before c.loop-literal.self-inside.size c.pop.new.self.items c.in-Some.literal cap marks board (vec_capacity c.pop.new.self) same))
