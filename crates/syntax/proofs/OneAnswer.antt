-- A text has one answer.
use Rattle.std.proofs.Common.{◌≡◌, ℕ, ◌<◌, List, length, refl, sym, ap, ◌∙◌, subst, arith, Result, Ok, Err}
use Rattle.vocab.specs.NamedTree.{NamedTree}
use Rattle.syntax.specs.declared.lexemes.Lexeme.{Lexeme}
use Rattle.syntax.specs.declared.faults.SyntaxFault.{SyntaxFault}
use Rattle.syntax.specs.declared.faults.SyntaxFault.TheVariants as fault
use Rattle.syntax.specs.Lexemes.{IsLexed, IsStuck}
use Rattle.syntax.specs.Grammar.{Reads}
use Rattle.syntax.specs.Sentence.{AreFew, HasReading, IsAnswer}
use Rattle.vocab.specs.NamedDepth.{named_depth, quantifiers}
use Rattle.syntax.proofs.Unique.{one_reading}
use Rattle.syntax.proofs.Lexings.{one_halt}

same_lexemes : (text : List ℕ) (ks ls : List Lexeme) → IsLexed text ks → IsLexed text ls → ks ≡ ls
same_lexemes text ks ls d e = (one_halt d e tt tt).0

-- a stuck text has no lexemes
stuck_or_lexed : (text : List ℕ) (offset : ℕ) (ls : List Lexeme) → IsStuck text offset → IsLexed text ls → ⊥
stuck_or_lexed text offset ls s d = let both = (one_halt s.lexed d (s.not_blank, s.none) tt).1 in cc

same_place : (text : List ℕ) (m n : ℕ) → IsStuck text m → IsStuck text n → m ≡ n
same_place text m n s t =
    let both = ap length (one_halt s.lexed t.lexed (s.not_blank, s.none) (t.not_blank, t.none)).1 in
    let a = s.place in let b = t.place in omega arith

few_or_many : (text : List ℕ) (ks ls : List Lexeme) → AreFew text ks → IsLexed text ls → 600 < length ls → ⊥
few_or_many text ks ls a d h = let few = a.few in let same = ap length (same_lexemes text ks ls a.lexed d) in omega arith

pub same_tree : (text : List ℕ) (f g : NamedTree) → HasReading text f → HasReading text g → f ≡ g
same_tree text f g r s = one_reading r.reads (subst (λ l. Reads l g) (same_lexemes text s.lexemes r.lexemes s.are.lexed r.are.lexed) s.reads)

read_or_not : (text : List ℕ) (ls : List Lexeme) (f : NamedTree) → AreFew text ls → ((g : NamedTree) → Reads ls g → ⊥) → HasReading text f → ⊥
read_or_not text ls f a never r = never f (subst (λ l. Reads l f) (same_lexemes text r.lexemes ls r.are.lexed a.lexed) r.reads)

-- A text has at most one answer, want of memory aside.
pub one_answer : (text : List ℕ) (a b : Result NamedTree SyntaxFault) → IsAnswer text a → IsAnswer text b → a ≡ b
one_answer text (Ok f1) (Ok f2) h k = ap Ok (same_tree text f1 f2 h.reading k.reading)
one_answer text (Ok f1) (Err (fault.Lexeme n2)) h k = absurd (stuck_or_lexed text n2 h.reading.lexemes k.0 h.reading.are.lexed)
one_answer text (Ok f1) (Err (fault.Long n2)) h k = absurd (let many : 600 < length k.0.0 = let e = k.0.2 in let m = k.0.3 in omega arith in few_or_many text h.reading.lexemes k.0.0 h.reading.are k.0.1 many)
one_answer text (Ok f1) (Err fault.NoReading) h k = absurd (read_or_not text k.0.0 f1 k.0.1 k.0.2 h.reading)
one_answer text (Ok f1) (Err fault.Deep) h k = absurd (let e = same_tree text f1 k.0.0 h.reading k.0.1 in let d = ap named_depth e in let n = ap quantifiers e in let x1 = h.shallow in let y1 = h.few_variables in let x2 = k.0.2 in omega arith)
one_answer text (Ok f1) (Err fault.Variables) h k = absurd (let e = same_tree text f1 k.0.0 h.reading k.0.1 in let d = ap named_depth e in let n = ap quantifiers e in let x1 = h.shallow in let y1 = h.few_variables in let x2 = k.0.2 in let y2 = k.0.3 in omega arith)
one_answer text (Err (fault.Lexeme n1)) (Ok f2) h k = absurd (stuck_or_lexed text n1 k.reading.lexemes h.0 k.reading.are.lexed)
one_answer text (Err (fault.Lexeme n1)) (Err (fault.Lexeme n2)) h k = ap (λ n. Err (fault.Lexeme n)) (same_place text n1 n2 h.0 k.0)
one_answer text (Err (fault.Lexeme n1)) (Err (fault.Long n2)) h k = absurd (stuck_or_lexed text n1 k.0.0 h.0 k.0.1)
one_answer text (Err (fault.Lexeme n1)) (Err fault.NoReading) h k = absurd (stuck_or_lexed text n1 k.0.0 h.0 k.0.1.lexed)
one_answer text (Err (fault.Lexeme n1)) (Err fault.Deep) h k = absurd (stuck_or_lexed text n1 k.0.1.lexemes h.0 k.0.1.are.lexed)
one_answer text (Err (fault.Lexeme n1)) (Err fault.Variables) h k = absurd (stuck_or_lexed text n1 k.0.1.lexemes h.0 k.0.1.are.lexed)
one_answer text (Err (fault.Long n1)) (Ok f2) h k = absurd (let many : 600 < length h.0.0 = let e = h.0.2 in let m = h.0.3 in omega arith in few_or_many text k.reading.lexemes h.0.0 k.reading.are h.0.1 many)
one_answer text (Err (fault.Long n1)) (Err (fault.Lexeme n2)) h k = absurd (stuck_or_lexed text n2 h.0.0 k.0 h.0.1)
one_answer text (Err (fault.Long n1)) (Err (fault.Long n2)) h k = ap (λ n. Err (fault.Long n)) (sym h.0.2 ∙ ap length (same_lexemes text h.0.0 k.0.0 h.0.1 k.0.1) ∙ k.0.2)
one_answer text (Err (fault.Long n1)) (Err fault.NoReading) h k = absurd (let many : 600 < length h.0.0 = let e = h.0.2 in let m = h.0.3 in omega arith in few_or_many text k.0.0 h.0.0 k.0.1 h.0.1 many)
one_answer text (Err (fault.Long n1)) (Err fault.Deep) h k = absurd (let many : 600 < length h.0.0 = let e = h.0.2 in let m = h.0.3 in omega arith in few_or_many text k.0.1.lexemes h.0.0 k.0.1.are h.0.1 many)
one_answer text (Err (fault.Long n1)) (Err fault.Variables) h k = absurd (let many : 600 < length h.0.0 = let e = h.0.2 in let m = h.0.3 in omega arith in few_or_many text k.0.1.lexemes h.0.0 k.0.1.are h.0.1 many)
one_answer text (Err fault.NoReading) (Ok f2) h k = absurd (read_or_not text h.0.0 f2 h.0.1 h.0.2 k.reading)
one_answer text (Err fault.NoReading) (Err (fault.Lexeme n2)) h k = absurd (stuck_or_lexed text n2 h.0.0 k.0 h.0.1.lexed)
one_answer text (Err fault.NoReading) (Err (fault.Long n2)) h k = absurd (let many : 600 < length k.0.0 = let e = k.0.2 in let m = k.0.3 in omega arith in few_or_many text h.0.0 k.0.0 h.0.1 k.0.1 many)
one_answer text (Err fault.NoReading) (Err fault.NoReading) h k = refl
one_answer text (Err fault.NoReading) (Err fault.Deep) h k = absurd (read_or_not text h.0.0 k.0.0 h.0.1 h.0.2 k.0.1)
one_answer text (Err fault.NoReading) (Err fault.Variables) h k = absurd (read_or_not text h.0.0 k.0.0 h.0.1 h.0.2 k.0.1)
one_answer text (Err fault.Deep) (Ok f2) h k = absurd (let e = same_tree text h.0.0 f2 h.0.1 k.reading in let d = ap named_depth e in let n = ap quantifiers e in let x1 = h.0.2 in let x2 = k.shallow in let y2 = k.few_variables in omega arith)
one_answer text (Err fault.Deep) (Err (fault.Lexeme n2)) h k = absurd (stuck_or_lexed text n2 h.0.1.lexemes k.0 h.0.1.are.lexed)
one_answer text (Err fault.Deep) (Err (fault.Long n2)) h k = absurd (let many : 600 < length k.0.0 = let e = k.0.2 in let m = k.0.3 in omega arith in few_or_many text h.0.1.lexemes k.0.0 h.0.1.are k.0.1 many)
one_answer text (Err fault.Deep) (Err fault.NoReading) h k = absurd (read_or_not text k.0.0 h.0.0 k.0.1 k.0.2 h.0.1)
one_answer text (Err fault.Deep) (Err fault.Deep) h k = refl
one_answer text (Err fault.Deep) (Err fault.Variables) h k = absurd (let e = same_tree text h.0.0 k.0.0 h.0.1 k.0.1 in let d = ap named_depth e in let n = ap quantifiers e in let x1 = h.0.2 in let x2 = k.0.2 in let y2 = k.0.3 in omega arith)
one_answer text (Err fault.Variables) (Ok f2) h k = absurd (let e = same_tree text h.0.0 f2 h.0.1 k.reading in let d = ap named_depth e in let n = ap quantifiers e in let x1 = h.0.2 in let y1 = h.0.3 in let x2 = k.shallow in let y2 = k.few_variables in omega arith)
one_answer text (Err fault.Variables) (Err (fault.Lexeme n2)) h k = absurd (stuck_or_lexed text n2 h.0.1.lexemes k.0 h.0.1.are.lexed)
one_answer text (Err fault.Variables) (Err (fault.Long n2)) h k = absurd (let many : 600 < length k.0.0 = let e = k.0.2 in let m = k.0.3 in omega arith in few_or_many text h.0.1.lexemes k.0.0 h.0.1.are k.0.1 many)
one_answer text (Err fault.Variables) (Err fault.NoReading) h k = absurd (read_or_not text k.0.0 h.0.0 k.0.1 k.0.2 h.0.1)
one_answer text (Err fault.Variables) (Err fault.Deep) h k = absurd (let e = same_tree text h.0.0 k.0.0 h.0.1 k.0.1 in let d = ap named_depth e in let n = ap quantifiers e in let x1 = h.0.2 in let y1 = h.0.3 in let x2 = k.0.2 in omega arith)
one_answer text (Err fault.Variables) (Err fault.Variables) h k = refl
one_answer text (Err fault.NoMemory) b h k = absurd (h.1 refl)
one_answer text a (Err fault.NoMemory) h k = absurd (k.1 refl)
