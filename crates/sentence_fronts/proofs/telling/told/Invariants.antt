use Rattle.std.proofs.Common.{◌≡◌, List, take}
use Rattle.syntax.specs.declared.lexemes.Lexeme.{Lexeme}
use Rattle.sentence_fronts.specs.LexemeKinds.{all_kinds}
use Rattle.sentence_fronts.specs.Fronts.{TellsKinds}
use Rattle.sentence_fronts.specs.Expected.{Expects}
use Rattle.sentence_fronts.proofs.telling.told.Given as goal

abbrev pub invariant-loop-kind : goal.invariant-loop-kind
invariant-loop-kind l = (l.kind-items ≡ all_kinds) × ((before : List Lexeme) → Expects before l.stack → TellsKinds before (take l.kind-index l.kind-items) l.next)
