use Rattle.std.proofs.Common.{◌∙◌, ap, not}
use Rattle.grounding.proofs.SeenLaws.{keys-after, keys-have}
use Rattle.grounding.proofs.distinct.is_new_key.Goals as goal
use Rattle.grounding.proofs.distinct.is_new_key.Goals.{in-Ok, in-Err}

pub returns-clause-fresh : goal.returns-clause-fresh
returns-clause-fresh c = elim c.match-insert.branch [
  | in-Ok w ↦ rw w.result-is (w.in-Ok.ensures.added ∙ ap not (keys-have (λ k. k.items) c.in_ok-key.key _ c.in_ok-key.ensures c.args.others.now.keys))
  | in-Err w ↦ rw w.result-is (record {})
]

pub returns-clause-keys : goal.returns-clause-keys
returns-clause-keys c = elim c.match-insert.branch [
  | in-Ok w ↦ rw w.result-is (keys-after (λ k. k.items) c.in_ok-key.key _ c.in_ok-key.ensures c.args.others.now.keys c.insert.new.self.keys w.in-Ok.ensures.keys)
  | in-Err w ↦ rw w.result-is (record {})
]
