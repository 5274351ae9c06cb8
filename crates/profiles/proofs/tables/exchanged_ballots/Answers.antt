use Rattle.profiles.proofs.TableLemmas.{exchanged_at}
use Rattle.profiles.proofs.tables.exchanged_ballots.Goals as goal

pub returns : goal.returns
returns c = λ b h. exchanged_at c.args.alternatives.number c.args.x c.args.y b c.args.alternatives.some c.args.alternatives.few c.requires.x c.requires.y h
