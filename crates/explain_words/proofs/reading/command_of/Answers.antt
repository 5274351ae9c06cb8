use Rattle.std.proofs.Common.{◌∙◌, rules}
use Rattle.clap.specs.Words.{app_of, subcommand_rows_of}
use Rattle.words.specs.Words.{texts}
use Rattle.explain_words.proofs.RequestLemmas.{taken, refused}
use Rattle.explain_words.proofs.reading.command_of.Goals as goal

pub returns-in-Ok-clause-command : goal.returns-in-Ok-clause-command
returns-in-Ok-clause-command c = c.command_in.ensures.command ∙ taken (app_of c.in_ok-explain.explain) (texts c.args.words.now) (subcommand_rows_of c.in-Ok.matches) c.in_ok-explain.ensures c.in-Ok.ensures.kinds (λ simple. (c.in-Ok.ensures.matches simple).1)

pub returns-clause-command : goal.returns-clause-command
returns-clause-command c = refused (app_of c.in_ok-explain.explain) (texts c.args.words.now) c.in-Err.error c.in_ok-explain.ensures (λ e. search rules) c.in-Err.ensures.kinds
