use Rattle.std.proofs.Common.{◌≡◌, take}
use Rattle.joined_sentences.proofs.joining.are_same.Given as goal

-- the facts so far are the same
abbrev pub invariant-loop-place : goal.invariant-loop-place
invariant-loop-place l = take l.place l.left ≡ take l.place l.right
