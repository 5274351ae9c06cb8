use Rattle.std.proofs.Common.{◌∙◌, ap, set, true, List}
use Rattle.std.specs.Prelude.{Bool}
use Rattle.cdcl.proofs.Stamps.{marked}
use Rattle.cdcl.proofs.seen.Seen.mark.Goals as goal

pub returns : goal.returns
returns c = marked c.self.inside.round c.self.inside.stamps.items c.args.place ∙ ap (λ (xs : List Bool). set xs c.args.place true) c.self.view_is
