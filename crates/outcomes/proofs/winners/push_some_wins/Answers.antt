use Rattle.std.proofs.Common.{◌≡◌, ℕ, ap, subst, OnOk, length, inl, inr, arith}
use Rattle.cnf.specs.ClauseList.{with_clause}
use Rattle.cnf.specs.Sat.{Clause}
use Rattle.outcomes.specs.Rows.{some_wins}
use Rattle.outcomes.proofs.FrameRows.{winners_of}
use Rattle.outcomes.proofs.winners.push_some_wins.Goals as goal

pub returns-clause-ok : goal.returns-clause-ok
returns-clause-ok c =
    let all = winners_of c.args.at.alternatives.number c.args.at.profile c.args.at.alternatives.few c.winner_lit.result c.winner_lit-2.result c.winner_lit-3.result c.winner_lit-4.result c.winner_lit-5.result c.winner_lit.ensures c.winner_lit-2.ensures c.winner_lit-3.ensures c.winner_lit-4.ensures c.winner_lit-5.ensures in
    let Adds : Clause → Type 0 = λ row. OnOk c.push.result (c.push.new.self ≡ with_clause c.args.out.now row c.from.result) in
    let Added : ℕ → Type 0 = λ origin. OnOk c.push.result (c.push.new.self ≡ with_clause c.args.out.now (some_wins c.args.at.alternatives.number c.args.at.profile) origin) in
    subst Added c.from.ensures (subst Adds all c.push.ensures.ok)

pub returns-clause-full : goal.returns-clause-full
returns-clause-full c = λ e.
    let all = winners_of c.args.at.alternatives.number c.args.at.profile c.args.at.alternatives.few c.winner_lit.result c.winner_lit-2.result c.winner_lit-3.result c.winner_lit-4.result c.winner_lit-5.result c.winner_lit.ensures c.winner_lit-2.ensures c.winner_lit-3.ensures c.winner_lit-4.ensures c.winner_lit-5.ensures in
    elim (c.push.ensures.full.0 e) [ inl h ↦ inl h | inr h ↦ inr (omega (arith, h, ap length all)) ]
