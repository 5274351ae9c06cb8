use Rattle.syntax.proofs.Starting.{computed_starts}
use Rattle.sentence_fronts.proofs.Walking.{walks_start, walks_more, shorter, stops_refused, stops_at_none}
use Rattle.sentence_fronts.proofs.fronts.walk.Goals as goal

pub loop-lexeme-init : goal.loop-lexeme-init
loop-lexeme-init c = walks_start _ _ _ c.requires c.after_blanks-rest.ensures.lexed c.after_blanks-rest.ensures.bare c.after_blanks-rest.ensures.within

pub returns-then-not-branch-clause-stops : goal.returns-then-not-branch-clause-stops
returns-then-not-branch-clause-stops c =
    stops_refused _ _ _ _ _ _ (computed_starts _ _ _ c.in-Some.ensures) c.kind_of.ensures (c.in_ok-take_lexeme.ensures.no c.if-not-branch.true) (c.in_ok-take_lexeme.ensures.same c.if-not-branch.true)

pub loop-lexeme-smaller : goal.loop-lexeme-smaller
loop-lexeme-smaller c = shorter _ _ _ _ (computed_starts _ _ _ c.in-Some.ensures) c.after_blanks-rest-in-Some.ensures.within

pub loop-lexeme-preserved : goal.loop-lexeme-preserved
loop-lexeme-preserved c =
    walks_more _ _ _ _ _ _ _ _ c.loop-lexeme.invariant (computed_starts _ _ _ c.in-Some.ensures) c.kind_of.ensures (c.in_ok-take_lexeme.ensures.yes c.if-not-branch.false)
    c.after_blanks-rest-in-Some.ensures.lexed c.after_blanks-rest-in-Some.ensures.bare c.after_blanks-rest-in-Some.ensures.within

pub returns-clause-stops : goal.returns-clause-stops
returns-clause-stops c = stops_at_none _ _ c.in_default.ensures
