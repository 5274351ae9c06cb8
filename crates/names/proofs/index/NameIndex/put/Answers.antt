use Rattle.names.proofs.FoundNames.{finds_one_more}
use Rattle.names.proofs.index.NameIndex.put.Goals as goal

pub returns : goal.returns
returns c = λ names finds. rw c.in_ok-insert.ensures.entries
    (finds_one_more c.args.self.now.places.entries c.in_ok-key.key c.args.place c.args.name.now names c.in_ok-key.ensures.items finds)
