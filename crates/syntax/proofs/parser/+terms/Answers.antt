use Rattle.std.proofs.Common.{◌≡◌, refl, ap, ◌∙◌, arith}
use Rattle.std.proofs.lemmas.Grind.{common_steps}
use Rattle.syntax.specs.Fronts.{before}
use Rattle.vocab.specs.NamedView.{named_terms_tree}
use Rattle.std.proofs.lemmas.Result.{err_from_is_err_and}
use Rattle.syntax.proofs.Readings.{front, no_term_quoted, term_at_variable, no_term_call, term_at_call, term_at_voter, term_at_alternative, term_at_ballot, no_list_end, list_goes_on, list_ended}
use Rattle.syntax.proofs.Views.{named_term_tree-Var, named_term_tree-Voter, named_term_tree-Alt, named_term_tree-Ballot, named_term_tree-Call, named_terms_tree-none, named_terms_tree-push}
use Rattle.syntax.proofs.parser.+terms.Goals as goal

pub term-returns-then-not-is_free-clause-none : goal.term-returns-then-not-is_free-clause-none
term-returns-then-not-is_free-clause-none t c = grind (arith, common_steps, no_term_quoted)

pub term-returns-in_default-after-clause-found : goal.term-returns-in_default-after-clause-found
term-returns-in_default-after-clause-found t c = rw named_term_tree-Var (term_at_variable _ _ _ (front c.in-Some.ensures c.in-Word.is) (c.is_free.ensures.0 (rw c.if-not-is_free.false refl)) c.in_default-after.ensures)

pub term-returns-in_err-end-in-Word-clause-none : goal.term-returns-in_err-end-in-Word-clause-none
term-returns-in_err-end-in-Word-clause-none t c =
    let p = err_from_is_err_and c.from_residual.result c.from_residual.ensures.1 in
    rw (p.1, p.2) (λ is. no_term_call _ _ _ _ (front c.in-Some.ensures c.in-Word.is) c.in-Some-after.ensures (c.in_err-end-in-Word.ensures.none (cc)))

pub term-returns-in_ok-end-in-Word-clause-found : goal.term-returns-in_ok-end-in-Word-clause-found
term-returns-in_ok-end-in-Word-clause-found t c =
    let d = c.in_ok-end-in-Word.ensures.found in
    let fresh = named_terms_tree-none c.new-parts.result c.new-parts.ensures in
    let listed : named_terms_tree c.terms.new.parts ≡ d.terms = d.added ∙ ap (λ ts. before ts d.terms) fresh in
    rw (named_term_tree-Call, listed) (term_at_call _ _ _ _ _ _ (front c.in-Some.ensures c.in-Word.is) c.in-Some-after.ensures (c.is_free.ensures.0 (rw c.if-not-is_free.false refl)) d.spelled)

pub term-returns-in-Voter-clause-found : goal.term-returns-in-Voter-clause-found
term-returns-in-Voter-clause-found t c = rw named_term_tree-Voter (term_at_voter _ _ _ (front c.in-Some.ensures c.in-Voter.is))

pub term-returns-in-Alt-clause-found : goal.term-returns-in-Alt-clause-found
term-returns-in-Alt-clause-found t c = rw named_term_tree-Alt (term_at_alternative _ _ _ (front c.in-Some.ensures c.in-Alt.is))

pub term-returns-in-Ballot-clause-found : goal.term-returns-in-Ballot-clause-found
term-returns-in-Ballot-clause-found t c = rw named_term_tree-Ballot (term_at_ballot _ _ _ (front c.in-Some.ensures c.in-Ballot.is))

pub terms-returns-in-Some-clause-found : goal.terms-returns-in-Some-clause-found
terms-returns-in-Some-clause-found t c =
    let pushed = named_terms_tree-push c.args.parts.now c.push.new.self c.in_ok-first.first c.in_ok-push.ensures.ok in
    list_goes_on c.terms.result _ _ _ _ _ _ _ c.in_ok-first.ensures.found c.in-Some.ensures pushed c.terms.ensures.found

pub terms-returns-in-Some-after-clause-found : goal.terms-returns-in-Some-after-clause-found
terms-returns-in-Some-after-clause-found t c =
    let pushed = named_terms_tree-push c.args.parts.now c.push.new.self c.in_ok-first.first c.in_ok-push.ensures.ok in
    list_ended _ _ _ _ _ _ c.in_ok-first.ensures.found c.in-Some-after.ensures pushed

pub terms-returns-in-None-clause-none : goal.terms-returns-in-None-clause-none
terms-returns-in-None-clause-none t c = λ _. no_list_end _ _ _ c.in_ok-first.ensures.found c.in_default.ensures c.in-None.ensures
