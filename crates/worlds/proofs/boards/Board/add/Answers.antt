use Rattle.std.proofs.Common.{◌≡◌, true, false, rules}
use Rattle.std.specs.Vec.{vec_capacity}
use Rattle.vocab.specs.Literal.{has}
use Rattle.meaning.specs.Literals.{is_literal}
use Rattle.worlds.proofs.BoardLemmas.{board_with}
use Rattle.worlds.proofs.boards.Board.add.Goals as goal

pub invariant_of-self : goal.invariant_of-self
invariant_of-self c =
    let own : is_literal c.self.inside.size c.args.literal.now ≡ true = search rules in
    let fresh : has c.self.inside.literals.items c.args.literal.now ≡ false = search rules in
    rw (c.in-Ok.ensures.items, c.mark_of-mark.ensures) (
    board_with c.self.inside.size c.self.inside.literals.items (vec_capacity c.self.inside.literals) c.self.inside.marks.items c.self.invariant
    c.args.literal.now (vec_capacity c.push.new.self) own fresh c.in-Ok.ensures.capacity)
