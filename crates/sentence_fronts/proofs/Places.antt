-- What a stack says of the sentences that begin with some lexemes.
use Rattle.std.proofs.Common.{◌≡◌, ℕ, true, false, List, [], ◌∷◌, ◌++◌, refl, sym, ◌∙◌, subst, append_assoc, append-nil, ◌+◌, ◌≤◌, ◌<◌, length, take, get_or}
use Rattle.std.specs.List.{list_all}
use Rattle.std.proofs.lemmas.List.{take_more, take_all}
use Rattle.vocab.specs.NamedTree.{NamedTree}
use Rattle.syntax.specs.declared.lexemes.Lexeme.{Lexeme}
use Rattle.syntax.specs.Grammar.{Reads}
use Rattle.sentence_fronts.specs.declared.expected.Symbol.{Symbol}
use Rattle.sentence_fronts.specs.declared.expected.Symbol.TheVariants as symbol
use Rattle.sentence_fronts.specs.declared.lexeme_kinds.LexemeKind.{LexemeKind}
use Rattle.sentence_fronts.specs.declared.lexeme_kinds.LexemeKind.TheVariants as kind
use Rattle.sentence_fronts.specs.LexemeKinds.{kind_of}
use Rattle.sentence_fronts.specs.Expected.{Derives, a_formula, may_end, Leads, Expects}
use Rattle.sentence_fronts.specs.Fronts.{IsFront, EachMay, IsKindTold, IsPassed, TellsKinds, no_more, told, passed}
use Rattle.sentence_fronts.proofs.Moves.{one}
use Rattle.sentence_fronts.proofs.Backs.{one_of}
use Rattle.sentence_fronts.proofs.Hopes.{formula_of}
use Rattle.sentence_fronts.proofs.Stacks.{complete_of, completes_ends}

tree_of : {ls : List Lexeme} → Derives symbol.Formula ls [] → (f : NamedTree) × Reads ls f
tree_of (a_formula {f} d) = (f, d)

pub expects_start : Expects [] (symbol.Formula ∷ [])
expects_start = record {
  on = λ rest f r. one (a_formula r);
  back = λ rest g. tree_of (one_of symbol.Formula rest [] g);
  some = (_, one (formula_of []));
  settled = refl;
}

pub expects_more : (before : List Lexeme) (stack new : List Symbol) (l : Lexeme) (k : LexemeKind) → Expects before stack → kind_of l ≡ k → Leads stack k new → Expects (before ++ l ∷ []) new
expects_more before stack new l k x e leads = record {
  on = λ rest f r. leads.on l rest e (x.on (l ∷ rest) f (subst (λ m. Reads m f) (append_assoc before (l ∷ []) rest) r));
  back = λ rest g. (let r = x.back (l ∷ rest) (leads.back l rest e g) in (r.0, subst (λ m. Reads m r.0) (sym (append_assoc before (l ∷ []) rest)) r.1));
  some = leads.some x.some.0 x.some.1;
  settled = leads.settled;
}

pub front_of : (before : List Lexeme) (stack : List Symbol) → Expects before stack → IsFront before
front_of before stack x = let r = x.back x.some.0 x.some.1 in record { rest = x.some.0; tree = r.0; reads = r.1 }

pub each_may : (before : List Lexeme) (stack new : List Symbol) (k : LexemeKind) → Expects before stack → Leads stack k new → EachMay before k
each_may before stack new k x leads l e = front_of (before ++ l ∷ []) new (expects_more before stack new l k x e leads)

pub may_end_there : (before : List Lexeme) (stack : List Symbol) → Expects before stack → list_all may_end stack ≡ true → (f : NamedTree) × Reads before f
may_end_there before stack x h = let r = x.back [] (complete_of stack h) in (r.0, subst (λ m. Reads m r.0) (append-nil before) r.1)

pub may_not_end_there : (before : List Lexeme) (stack : List Symbol) → Expects before stack → list_all may_end stack ≡ false → (f : NamedTree) → Reads before f → ⊥
may_not_end_there before stack x h f r = let e = completes_ends stack (x.on [] f (subst (λ m. Reads m f) (sym (append-nil before)) r)) in cc

pub tells_told : (before : List Lexeme) (ks ts : List LexemeKind) (k : LexemeKind) → TellsKinds before ks ts → IsKindTold before k → TellsKinds before (ks ++ k ∷ []) (ts ++ k ∷ [])
tells_told before [] [] k no_more t = told t no_more
tells_told before [] (i ∷ ts) k r t = elim r [ ]
tells_told before (j ∷ ks) (i ∷ ts) k (told h r) t = told h (tells_told before ks ts k r t)
tells_told before (j ∷ ks) ts k (passed h r) t = passed h (tells_told before ks ts k r t)

pub tells_passed : (before : List Lexeme) (ks ts : List LexemeKind) (k : LexemeKind) → TellsKinds before ks ts → IsPassed before k → TellsKinds before (ks ++ k ∷ []) ts
tells_passed before [] [] k no_more t = passed t no_more
tells_passed before [] (i ∷ ts) k r t = elim r [ ]
tells_passed before (j ∷ ks) (i ∷ ts) k (told h r) t = told h (tells_passed before ks ts k r t)
tells_passed before (j ∷ ks) ts k (passed h r) t = passed h (tells_passed before ks ts k r t)

pub told_more : (before : List Lexeme) (ks next new : List LexemeKind) (i : ℕ) (k : LexemeKind) → i < length ks → TellsKinds before (take i ks) next → IsKindTold before (get_or ks i k) → new ≡ next ++ get_or ks i k ∷ [] → TellsKinds before (take (i + 1) ks) new
told_more before ks next new i k lt r t e =
    let more : TellsKinds before (take i ks ++ get_or ks i k ∷ []) (next ++ get_or ks i k ∷ []) = tells_told before (take i ks) next (get_or ks i k) r t in
    subst (λ ts. TellsKinds before (take (i + 1) ks) ts) (sym e) (subst (λ js. TellsKinds before js (next ++ get_or ks i k ∷ [])) (sym (take_more ks i k lt)) more)

pub passed_more : (before : List Lexeme) (ks next new : List LexemeKind) (i : ℕ) (k : LexemeKind) → i < length ks → TellsKinds before (take i ks) next → IsPassed before (get_or ks i k) → new ≡ next → TellsKinds before (take (i + 1) ks) new
passed_more before ks next new i k lt r t e =
    let more : TellsKinds before (take i ks ++ get_or ks i k ∷ []) next = tells_passed before (take i ks) next (get_or ks i k) r t in
    subst (λ ts. TellsKinds before (take (i + 1) ks) ts) (sym e) (subst (λ js. TellsKinds before js next) (sym (take_more ks i k lt)) more)

pub told_all : (before : List Lexeme) (ks all next : List LexemeKind) (i : ℕ) → length ks ≤ i → ks ≡ all → TellsKinds before (take i ks) next → TellsKinds before all next
told_all before ks all next i le e r = subst (λ js. TellsKinds before js next) (take_all i ks le ∙ e) r
