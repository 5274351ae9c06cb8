use Rattle.std.proofs.Common.{arith, sym, ◌∙◌}
use Rattle.syntax.proofs.Lexings.{so_far_blank, so_far_more, few_lexed, many_lexed, stuck, starts_longer}
use Rattle.syntax.proofs.Starting.{computed_starts}
use Rattle.syntax.proofs.lexer.lexed.Goals.{then-count-lt-LEXEMES+in_ok-push, else-count-lt-LEXEMES}
use Rattle.syntax.proofs.lexer.lexed.Goals as goal
use Rattle.std.proofs.lemmas.List.{nil_from_length}

pub loop-c-preserved-then-is_blank_byte : goal.loop-c-preserved-then-is_blank_byte
loop-c-preserved-then-is_blank_byte c = so_far_blank _ _ _ _ _ _ c.loop-c.invariant c.in-Some.ensures.cases.0 (sym c.is_blank_byte.ensures ∙ c.if-is_blank_byte.true)

pub returns-in_default-first_lexeme : goal.returns-in_default-first_lexeme
returns-in_default-first_lexeme c = (stuck _ _ _ _ _ _ c.loop-c.invariant c.in-Some.ensures.cases.0 (sym c.is_blank_byte.ensures ∙ c.if-is_blank_byte.false) c.in_default-first_lexeme.ensures, tt)

pub loop-c-smaller : goal.loop-c-smaller
loop-c-smaller c = starts_longer _ _ _ (computed_starts _ _ _ c.in-Some-first_lexeme.ensures)

pub loop-c-preserved : goal.loop-c-preserved
loop-c-preserved c =
    so_far_more _ _ _ _ _ _ _ c.loop-c.invariant (computed_starts _ _ _ c.in-Some-first_lexeme.ensures)
    (λ h. elim c.if-count-lt-LEXEMES.branch [ then-count-lt-LEXEMES+in_ok-push w ↦ w.found-is ∙ w.in_ok-push.ensures.ok | else-count-lt-LEXEMES w ↦ absurd (omega arith) ])

pub returns-then-count-gt-LEXEMES : goal.returns-then-count-gt-LEXEMES
returns-then-count-gt-LEXEMES c = (many_lexed _ _ _ _ c.loop-c.invariant (nil_from_length _ c.in_default.ensures.cases) c.if-count-gt-LEXEMES.true, tt)

pub returns : goal.returns
returns c = few_lexed _ _ _ _ c.loop-c.invariant (nil_from_length _ c.in_default.ensures.cases) (omega arith)
