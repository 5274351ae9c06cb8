use Rattle.std.proofs.Common.{◌≡◌, ◌+◌, [], take, drop}
use Rattle.meaning.specs.StoryFaults.{suppose_fault}
use Rattle.story.proofs.lemmas.CheckableLemma.suppose_all.Given as goal

-- the lines so far have no fault, and their literals are on the board
abbrev pub invariant-loop-literal : goal.invariant-loop-literal
invariant-loop-literal g l = record {
  size : l.board.size ≡ l.fn.board.size;
  literals : l.board.literals ≡ take l.literal-index l.literals;
  place : l.place ≡ l.literal-index + 1;
  rest : suppose_fault l.self.final_one 1 [] l.literals ≡ suppose_fault l.self.final_one l.place l.board.literals (drop l.literal-index l.literals);
}
