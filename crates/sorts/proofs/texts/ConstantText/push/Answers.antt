use Rattle.std.proofs.Common.{◌≡◌, ap, length, take, arith}
use Rattle.vocab.specs.InPlace.{length-take-padded}
use Rattle.profiles.proofs.TextLemmas.{IsPadded-set}
use Rattle.sorts.proofs.texts.ConstantText.push.Goals as goal

pub invariant_of-self : goal.invariant_of-self
invariant_of-self c =
    let whole : length (take c.self.inside.len c.self.inside.cells) ≡ c.self.inside.len = length-take-padded 34 c.self.inside.len c.self.inside.cells c.self.invariant in
    let same : length (take c.self.inside.len c.self.inside.cells) ≡ length c.args.self.now = ap length c.self.view_is in
    IsPadded-set 34 c.self.inside.len c.self.inside.cells c.args.byte c.self.invariant (omega arith)
