use Rattle.instance_totals.proofs.TotalLemmas.{all_narrow}
use Rattle.instance_totals.proofs.totals.check_total.Goals as goal

pub with_instances-requires-clause-narrow : goal.with_instances-requires-clause-narrow
with_instances-requires-clause-narrow g c κs within = all_narrow c.args.setting.now.study.now c.requires.narrow
