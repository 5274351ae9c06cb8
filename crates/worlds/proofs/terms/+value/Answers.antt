use Rattle.vocab.specs.declared.kinds.Sort.TheVariants.{Voter, Alt, Ballot, Profile}
use Rattle.vocab.specs.Tree.{term_tree, Var}
use Rattle.worlds.proofs.ConditionLemmas.{variable_bound, value_in_range, with_parts, swap_voters_parts, swap_alts_parts, swap_parts}
use Rattle.worlds.proofs.terms.+value.Goals as goal

pub get-requires : goal.get-requires
get-requires t c = variable_bound c.args.space.now c.in-Var.level c.args.env.now (rw c.in-Var.is at c.requires)

pub returns-in-Var-clause-in_range : goal.returns-in-Var-clause-in_range
returns-in-Var-clause-in_range t c = λ sort at. rw c.get.ensures (value_in_range c.args.space.now sort (Var c.in-Var.level) c.args.env.now (rw c.in-Var.is at at))

pub with-requires-clause-profile : goal.with-requires-clause-profile
with-requires-clause-profile t c =
    let part = (with_parts c.args.space.now (term_tree c.in-With.p.value) (term_tree c.in-With.i.value) (term_tree c.in-With.b.value) c.args.env.now (rw c.in-With.is at c.requires)).0 in
    c.value.ensures.in_range Profile (rw c.deref.ensures part)

pub with-requires-clause-voter : goal.with-requires-clause-voter
with-requires-clause-voter t c =
    let part = (with_parts c.args.space.now (term_tree c.in-With.p.value) (term_tree c.in-With.i.value) (term_tree c.in-With.b.value) c.args.env.now (rw c.in-With.is at c.requires)).1 in
    c.value-in-With.ensures.in_range Voter (rw c.deref-in-With.ensures part)

pub with-requires-clause-ballot : goal.with-requires-clause-ballot
with-requires-clause-ballot t c =
    let part = (with_parts c.args.space.now (term_tree c.in-With.p.value) (term_tree c.in-With.i.value) (term_tree c.in-With.b.value) c.args.env.now (rw c.in-With.is at c.requires)).2 in
    c.value-in-With-2.ensures.in_range Ballot (rw c.deref-in-With-2.ensures part)

pub swap_voters-requires-clause-profile : goal.swap_voters-requires-clause-profile
swap_voters-requires-clause-profile t c =
    let part = (swap_voters_parts c.args.space.now (term_tree c.in-SwapVoters.p.value) (term_tree c.in-SwapVoters.i.value) (term_tree c.in-SwapVoters.j.value) c.args.env.now (rw c.in-SwapVoters.is at c.requires)).0 in
    c.value-in-SwapVoters.ensures.in_range Profile (rw c.deref-in-SwapVoters.ensures part)

pub swap_voters-requires-clause-i : goal.swap_voters-requires-clause-i
swap_voters-requires-clause-i t c =
    let part = (swap_voters_parts c.args.space.now (term_tree c.in-SwapVoters.p.value) (term_tree c.in-SwapVoters.i.value) (term_tree c.in-SwapVoters.j.value) c.args.env.now (rw c.in-SwapVoters.is at c.requires)).1 in
    c.value-in-SwapVoters-2.ensures.in_range Voter (rw c.deref-in-SwapVoters-2.ensures part)

pub swap_voters-requires-clause-j : goal.swap_voters-requires-clause-j
swap_voters-requires-clause-j t c =
    let part = (swap_voters_parts c.args.space.now (term_tree c.in-SwapVoters.p.value) (term_tree c.in-SwapVoters.i.value) (term_tree c.in-SwapVoters.j.value) c.args.env.now (rw c.in-SwapVoters.is at c.requires)).2 in
    c.value-in-SwapVoters-3.ensures.in_range Voter (rw c.deref-in-SwapVoters-3.ensures part)

pub swap_alts-requires-clause-profile : goal.swap_alts-requires-clause-profile
swap_alts-requires-clause-profile t c =
    let part = (swap_alts_parts c.args.space.now (term_tree c.in-SwapAlts.p.value) (term_tree c.in-SwapAlts.x.value) (term_tree c.in-SwapAlts.y.value) c.args.env.now (rw c.in-SwapAlts.is at c.requires)).0 in
    c.value-in-SwapAlts.ensures.in_range Profile (rw c.deref-in-SwapAlts.ensures part)

pub swap_alts-requires-clause-x : goal.swap_alts-requires-clause-x
swap_alts-requires-clause-x t c =
    let part = (swap_alts_parts c.args.space.now (term_tree c.in-SwapAlts.p.value) (term_tree c.in-SwapAlts.x.value) (term_tree c.in-SwapAlts.y.value) c.args.env.now (rw c.in-SwapAlts.is at c.requires)).1 in
    c.value-in-SwapAlts-2.ensures.in_range Alt (rw c.deref-in-SwapAlts-2.ensures part)

pub swap_alts-requires-clause-y : goal.swap_alts-requires-clause-y
swap_alts-requires-clause-y t c =
    let part = (swap_alts_parts c.args.space.now (term_tree c.in-SwapAlts.p.value) (term_tree c.in-SwapAlts.x.value) (term_tree c.in-SwapAlts.y.value) c.args.env.now (rw c.in-SwapAlts.is at c.requires)).2 in
    c.value-in-SwapAlts-3.ensures.in_range Alt (rw c.deref-in-SwapAlts-3.ensures part)

pub swap_alts-requires-clause-all : goal.swap_alts-requires-clause-all
swap_alts-requires-clause-all t c =
    (swap_alts_parts c.args.space.now (term_tree c.in-SwapAlts.p.value) (term_tree c.in-SwapAlts.x.value) (term_tree c.in-SwapAlts.y.value) c.args.env.now (rw c.in-SwapAlts.is at c.requires)).3

pub swap-requires-clause-x : goal.swap-requires-clause-x
swap-requires-clause-x t c =
    let part = (swap_parts c.args.space.now (term_tree c.in-Swap.x.value) (term_tree c.in-Swap.y.value) (term_tree c.in-Swap.z.value) c.args.env.now (rw c.in-Swap.is at c.requires)).0 in
    c.value-in-Swap.ensures.in_range Alt (rw c.deref-in-Swap.ensures part)

pub swap-requires-clause-y : goal.swap-requires-clause-y
swap-requires-clause-y t c =
    let part = (swap_parts c.args.space.now (term_tree c.in-Swap.x.value) (term_tree c.in-Swap.y.value) (term_tree c.in-Swap.z.value) c.args.env.now (rw c.in-Swap.is at c.requires)).1 in
    c.value-in-Swap-2.ensures.in_range Alt (rw c.deref-in-Swap-2.ensures part)

pub swap-requires-clause-z : goal.swap-requires-clause-z
swap-requires-clause-z t c =
    let part = (swap_parts c.args.space.now (term_tree c.in-Swap.x.value) (term_tree c.in-Swap.y.value) (term_tree c.in-Swap.z.value) c.args.env.now (rw c.in-Swap.is at c.requires)).2 in
    c.value-in-Swap-3.ensures.in_range Alt (rw c.deref-in-Swap-3.ensures part)
