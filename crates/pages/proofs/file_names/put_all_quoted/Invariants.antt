use Rattle.std.proofs.Common.{◌≡◌, ◌++◌, take}
use Rattle.std.specs.List.{flat_map}
use Rattle.pages.specs.FileNames.{shell_quoted}
use Rattle.pages.proofs.file_names.put_all_quoted.Given as goal

-- the bytes so far were added
abbrev pub invariant-loop-byte : goal.invariant-loop-byte
invariant-loop-byte l = l.word ≡ l.initial.word ++ flat_map shell_quoted (take l.byte-index l.name)
