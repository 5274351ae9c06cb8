use Rattle.std.proofs.Common.{◌++◌, ◌∙◌, ap, false, sym, true}
use Rattle.std.proofs.lemmas.List.{append-nil}
use Rattle.vocab.specs.Tree.{tree_of}
use Rattle.meaning.specs.Written.{write_out}
use Rattle.clause_form.specs.Wide.{numbered}
use Rattle.clause_form.proofs.KnownLaws.{plus_false, plus_true}
use Rattle.clause_form.proofs.SideLaws.{known_side}
use Rattle.clause_form.proofs.SoundLaws.{sound}
use Rattle.clause_form.proofs.forms.open_clauses.Goals as goal

pub side_of-requires-clause-sound : goal.side_of-requires-clause-sound
side_of-requires-clause-sound g c = λ κs out. sound (g.K.OutcomeKind.size c.args.kind.now) (tree_of c.args.body.now) c.args.env.now c.requires.fits

pub returns-in-Known-true : goal.returns-in-Known-true
returns-in-Known-true g c =
    let k = c.in-Known-true in
    let size = g.K.OutcomeKind.size c.args.kind.now in
    let w = write_out size (tree_of c.args.body.now) c.args.env.now in
    let e = plus_true w (known_side size true c.in_ok-plus.plus k.field-0 true w k.is k.field-0-test c.in_ok-plus.ensures) in
    sym (append-nil c.args.out.now) ∙ ap (λ r. c.args.out.now ++ numbered size r) (sym e)

pub returns-in_ok-push-in-Known-false : goal.returns-in_ok-push-in-Known-false
returns-in_ok-push-in-Known-false g c =
    let k = c.in-Known-false in
    let size = g.K.OutcomeKind.size c.args.kind.now in
    let w = write_out size (tree_of c.args.body.now) c.args.env.now in
    let e = plus_false w (known_side size true c.in_ok-plus.plus k.field-0 false w k.is k.field-0-test c.in_ok-plus.ensures) in
    c.in_ok-push-in-Known-false.ensures.ok ∙ ap (λ r. c.args.out.now ++ numbered size r) (sym e)
