use Rattle.std.proofs.Common.{sym, ◌∙◌}
use Rattle.std.proofs.lemmas.Bool.{false≢true}
use Rattle.axiom_library.proofs.Entries.{text_readable, only_memory}
use Rattle.axiom_library.proofs.finding.find.Goals.{in-NoMemory, in_default-matches}
use Rattle.axiom_library.proofs.finding.find.Goals as goal

pub prove-unreachable-requires : goal.prove-unreachable-requires
prove-unreachable-requires c =
    let reads = text_readable c.args.kind c.bytes.result.now c.in-Some.text.now (sym (c.in-Some.ensures)) in
    elim c.match-matches.branch [
      | in-NoMemory w ↦ false≢true (sym c.if-prove.true ∙ w.matches-is)
      | in_default-matches w ↦ only_memory c.in-Some.text.now reads.tree c.in-Err.fault reads.reads (c.in-Err.ensures) w.in_default-matches.not-NoMemory
    ]
