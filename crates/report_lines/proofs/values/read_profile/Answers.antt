use Rattle.report_lines.proofs.ValueLemmas.{profile_found, profile_missing}
use Rattle.report_lines.proofs.values.read_profile.Goals as goal

pub returns-in-Ok : goal.returns-in-Ok
returns-in-Ok c = profile_found c.args.space.now c.spaces_have_sizes.ensures c.args.word.now c.in-Ok.profile c.in-Ok.ensures.ok

pub returns-in-Err : goal.returns-in-Err
returns-in-Err c = profile_missing c.args.space.now c.spaces_have_sizes.ensures c.args.word.now c.in-Err.ensures.refused
