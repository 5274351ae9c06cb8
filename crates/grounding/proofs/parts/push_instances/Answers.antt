use Rattle.std.proofs.Common.{◌≡◌, ◌+◌, ◌++◌, ◌∙◌, append-nil, append_assoc, ap, arith, refl, subst, sym, List}
use Rattle.meaning.specs.StudyClauses.{Sourced}
use Rattle.grounding.specs.Parts.{KeepSame}
use Rattle.grounding.specs.Pieces.{sources_at, sources_of}
use Rattle.grounding.proofs.PartLaws.{same-after, same-of}
use Rattle.grounding.proofs.PieceLaws.{one_more}
use Rattle.grounding.proofs.SourceLemmas.{sources-none}
use Rattle.grounding.proofs.parts.push_instances.Goals as goal

pub loop-k-init : goal.loop-k-init
loop-k-init g c =
    let piece = c.args.piece.now in
    let numbered = piece.numbered.now in
    let none = sources-none (g.K.OutcomeKind.size numbered.kind.now) numbered.named.now.sentence numbered.base piece.from (piece.from + 0) (omega arith) in
    same-of (sym (ap (λ ss. c.args.part.now ++ ss) none ∙ append-nil c.args.part.now))

pub loop-k-preserved : goal.loop-k-preserved
loop-k-preserved g c =
    let piece = c.args.piece.now in
    let numbered = piece.numbered.now in
    let size = g.K.OutcomeKind.size numbered.kind.now in
    let rows = sources_at size numbered.named.now.sentence numbered.base in
    let number = piece.from + c.loop-k.k in
    let old = c.args.part.now in
    let before = sources_of size numbered.named.now.sentence numbered.base piece.from number in
    let next : number + 1 ≡ piece.from + (c.loop-k.k + 1) = omega arith in
    let all : (old ++ before) ++ rows number ≡ old ++ sources_of size numbered.named.now.sentence numbered.base piece.from (piece.from + (c.loop-k.k + 1)) =
    append_assoc old before (rows number)
    ∙ ap (λ ss. old ++ ss) (one_more rows piece.from number before (rows number) (omega arith) refl refl ∙ ap (sources_of size numbered.named.now.sentence numbered.base piece.from) next) in
    subst (λ (ss : List Sourced). KeepSame c.push_instance.new.part ss) all
    (same-after c.push_instance.new.part c.loop-k.part (rows number) (old ++ before) c.in_ok-push_instance.ensures c.loop-k.invariant)

pub returns : goal.returns
returns g c =
    let piece = c.args.piece.now in
    let numbered = piece.numbered.now in
    let size = g.K.OutcomeKind.size numbered.kind.now in
    let whole : piece.from + c.loop-k.k ≡ piece.to = omega (arith, c.loop-k-test.false, piece.rising) in
    subst (λ n. KeepSame c.loop-k.part (c.args.part.now ++ sources_of size numbered.named.now.sentence numbered.base piece.from n)) whole c.loop-k.invariant
