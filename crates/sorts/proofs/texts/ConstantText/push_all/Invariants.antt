use Rattle.std.proofs.Common.{◌≡◌, ◌++◌, take}
use Rattle.sorts.proofs.texts.ConstantText.push_all.Given as goal

-- the bytes before the place stand at the end
abbrev pub invariant-loop-byte : goal.invariant-loop-byte
invariant-loop-byte l = l.self ≡ l.fn.self ++ take l.byte-index l.bytes
