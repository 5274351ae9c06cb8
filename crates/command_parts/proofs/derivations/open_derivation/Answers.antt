use Rattle.std.proofs.Common.{◌≡◌, Some}
use Rattle.command_parts.proofs.OpenLemmas.{if_some}
use Rattle.command_parts.proofs.derivations.open_derivation.Goals as goal

pub returns-in-Ok-read_lrat-clause-derived : goal.returns-in-Ok-read_lrat-clause-derived
returns-in-Ok-read_lrat-clause-derived g c = record {
  bytes = c.in-Ok.bytes;
  fits = c.in-Ok.ensures.within;
  gives = rw c.as_slice.ensures at c.in-Ok-read_lrat.ensures.ok;
  held = λ files e. if_some (g.S.Shelf.files c.args.shelf.now) (λ files. files c.args.name.now ≡ Some c.in-Ok.bytes) files c.in-Ok.ensures.bytes e;
  over = c.in-Ok-read_lrat.ensures.over;
  numbers = c.in-Ok-read_lrat.ensures.numbered;
  few = c.in-Ok-read_lrat.ensures.few;
}
