use Rattle.std.proofs.Common.{◌≡◌, sym, subst, true}
use Rattle.vocab.specs.Size.{Extent}
use Rattle.meaning.specs.Literals.{is_literal}
use Rattle.meaning.specs.Variables.{literal_of}
use Rattle.meaning.proofs.VariableLaws.{are_variables}
use Rattle.worlds.proofs.exclusion.is_broken.Goals as goal

pub has-requires : goal.has-requires
has-requires g c =
    let size : Extent = g.K.OutcomeKind.size c.args.known.now.kind.now in
    let own : is_literal size (literal_of size c.args.lit) ≡ true = (are_variables size).literal c.args.lit c.requires.low c.requires.high in
    rw c.literal-literal.ensures (subst (λ (e : Extent). is_literal e (literal_of size c.args.lit) ≡ true) (sym c.args.known.now.same) own)

pub holds-requires-clause-literal : goal.holds-requires-clause-literal
holds-requires-clause-literal g c = rw c.literal-literal.ensures ((are_variables (g.K.OutcomeKind.size c.args.known.now.kind.now)).literal c.args.lit c.requires.low c.requires.high)
