use Rattle.std.proofs.Common.{◌≡◌, arith, subst, sym, List}
use Rattle.meaning.specs.StudyClauses.{Sourced}
use Rattle.grounding.specs.Parts.{KeepSame}
use Rattle.grounding.specs.Pieces.{IsKeptPart, sources_of}
use Rattle.grounding.proofs.PartLaws.{same-after}
use Rattle.grounding.proofs.SourceLemmas.{sources-add}
use Rattle.grounding.proofs.parts.clauses_of_all.Goals as goal

pub loop-start-preserved : goal.loop-start-preserved
loop-start-preserved g c =
    let stretch = c.args.stretch.now in
    let numbered = stretch.numbered.now in
    let size = g.K.OutcomeKind.size numbered.kind.now in
    let sentence = numbered.named.now.sentence in
    let start = c.loop-start.start in
    let made = c.loop-start.invariant in
    let before = sources_of size sentence numbered.base stretch.from start in
    let more = sources_of size sentence numbered.base start c.min-end.result in
    record {
      rising = omega (arith, made.rising, made.within);
      within = omega (arith, made.within);
      kept = subst (λ (ss : List Sourced). KeepSame c.push_piece.new.part ss) (sym (sources-add size sentence numbered.base stretch.from start c.min-end.result made.rising (omega (arith, made.within))))
          (same-after c.push_piece.new.part c.loop-start.part more before c.in_ok-push_piece.ensures made.kept);
    }

pub returns : goal.returns
returns g c =
    let stretch = c.args.stretch.now in
    let numbered = stretch.numbered.now in
    let size = g.K.OutcomeKind.size numbered.kind.now in
    let sentence = numbered.named.now.sentence in
    let made = c.loop-start.invariant in
    let whole : c.loop-start.start ≡ stretch.to = omega (arith, made.within) in
    subst (λ (part : List Sourced). IsKeptPart size sentence numbered.base stretch.from stretch.to part) (sym c.forget.ensures)
    (subst (λ n. IsKeptPart size sentence numbered.base stretch.from n c.loop-start.part) whole made.kept)
