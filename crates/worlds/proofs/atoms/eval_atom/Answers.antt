use Rattle.worlds.proofs.atoms.eval_atom.Goals as goal

pub returns-in-Majority : goal.returns-in-Majority
returns-in-Majority g c =
    let given = c.known-in-Majority.ensures in
    record { ok = rw (c.in-Majority.is, ← c.has_majority.ensures) given.ok; err = given.err; same = given.same }
