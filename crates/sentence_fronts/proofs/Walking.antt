-- How far a sentence goes along with a text.
use Rattle.std.proofs.Common.{◌≡◌, ℕ, ◌-◌, ◌≤◌, ◌<◌, true, not, List, [], ◌∷◌, ◌++◌, length, refl, sym, ap, ◌∙◌, subst, arith, None, append_assoc, append-nil}
use Rattle.syntax.specs.declared.lexemes.Lexeme.{Lexeme}
use Rattle.syntax.specs.Grammar.{Reads}
use Rattle.syntax.specs.Lexemes.{Starts, Lexes, no_more, blank, one_more, is_white_space, starts_without}
use Rattle.syntax.specs.Scanning.{lexeme_at}
use Rattle.syntax.proofs.Starting.{none_starts, one_start}
use Rattle.syntax.proofs.Lexings.{starts_longer, starts_not_blank}
use Rattle.sentence_fronts.specs.declared.expected.Symbol.{Symbol}
use Rattle.sentence_fronts.specs.declared.expected.Symbol.TheVariants as symbol
use Rattle.sentence_fronts.specs.declared.lexeme_kinds.LexemeKind.{LexemeKind}
use Rattle.sentence_fronts.specs.LexemeKinds.{kind_of, all_kinds}
use Rattle.sentence_fronts.specs.Expected.{RefusesKind, Leads, Expects, Walks, IsStop}
use Rattle.sentence_fronts.specs.Fronts.{IsFront, IsFurthest, TellsKinds}
use Rattle.sentence_fronts.proofs.Places.{expects_start, expects_more, front_of}

-- ---- blanks

-- What is left follows blanks.
pub record Skips (text rest : List ℕ) : Type 0 where
  pub lexed : (ls : List Lexeme) (end : List ℕ) → Lexes rest ls end → Lexes text ls end
  pub within : length rest ≤ length text

pub skips_more : (text rest more : List ℕ) (c : ℕ) → Skips text rest → rest ≡ c ∷ more → is_white_space c ≡ true → Skips text more
skips_more text rest more c s e b = record {
  lexed = λ ls end d. s.lexed ls end (subst (λ r. Lexes r ls end) (sym e) (blank b d));
  within = (let w = s.within in let n = ap length e in omega arith);
}

bare_not_blank : (c : ℕ) (bytes : List ℕ) → starts_without is_white_space (c ∷ bytes) ≡ true → is_white_space c ≡ true → ⊥
bare_not_blank c bytes h b = let k : not true ≡ true = rw b at h in cc

-- ---- steps along the text

pub walks_start : (text rest : List ℕ) (stack : List Symbol) → stack ≡ symbol.Formula ∷ [] → ((ls : List Lexeme) (end : List ℕ) → Lexes rest ls end → Lexes text ls end) → starts_without is_white_space rest ≡ true → length rest ≤ length text → Walks text stack rest
walks_start text rest stack e lexed bare within = record {
  before = [];
  lexed = lexed;
  bare = bare;
  expects = subst (λ s. Expects [] s) (sym e) expects_start;
  within = within;
}

pub walks_more : (text rest more left : List ℕ) (stack new : List Symbol) (l : Lexeme) (k : LexemeKind) → Walks text stack rest → Starts rest l more → k ≡ kind_of l → Leads stack k new
    → ((ls : List Lexeme) (end : List ℕ) → Lexes left ls end → Lexes more ls end) → starts_without is_white_space left ≡ true → length left ≤ length more → Walks text new left
walks_more text rest more left stack new l k w s e leads lexed bare within = record {
  before = w.before ++ l ∷ [];
  lexed = λ ls end d. subst (λ b. Lexes text b end) (sym (append_assoc w.before (l ∷ []) ls)) (w.lexed (l ∷ ls) end (one_more s (lexed ls end d)));
  bare = bare;
  expects = expects_more w.before stack new l k w.expects (sym e) leads;
  within = (let a = w.within in let b = starts_longer rest more l s in omega arith);
}

pub shorter : (rest more left : List ℕ) (l : Lexeme) → Starts rest l more → length left ≤ length more → length left < length rest
shorter rest more left l s h = let b = starts_longer rest more l s in omega arith

pub stops_at_none : (rest : List ℕ) (stack : List Symbol) → lexeme_at rest ≡ None → IsStop rest stack
stops_at_none rest stack h l more s = absurd (none_starts rest h l more s)

pub stops_refused : (rest more : List ℕ) (old stack : List Symbol) (l : Lexeme) (k : LexemeKind) → Starts rest l more → k ≡ kind_of l → RefusesKind old k → stack ≡ old → IsStop rest stack
stops_refused rest more old stack l k s e refuses same m end t =
    let one = one_start rest more end l m s t in
    subst (λ x. RefusesKind x (kind_of m)) (sym same) (subst (λ x. RefusesKind old (kind_of x)) one.0 (subst (λ x. RefusesKind old x) e refuses))

-- ---- the furthest place

-- The second list is no longer than the first, or goes on where the first ends.
data GoesFurther (rest : List ℕ) (xs ys : List Lexeme) : Type 0 where
  no_longer : length ys ≤ length xs → GoesFurther rest xs ys
  further : (l : Lexeme) (more : List ℕ) (zs : List Lexeme) → Starts rest l more → ys ≡ xs ++ l ∷ zs → GoesFurther rest xs ys

further_more : (rest : List ℕ) (k l : Lexeme) (ks ls : List Lexeme) → k ≡ l → GoesFurther rest ks ls → GoesFurther rest (k ∷ ks) (l ∷ ls)
further_more rest k l ks ls e (no_longer h) = no_longer (omega arith)
further_more rest k l ks ls e (further a more zs s h) = further a more zs s (ap (λ x. l ∷ x) h ∙ ap (λ x. x ∷ (ks ++ a ∷ zs)) (sym e))

goes_further : {text rest end : List ℕ} {xs ys : List Lexeme} → Lexes text xs rest → starts_without is_white_space rest ≡ true → Lexes text ys end → GoesFurther rest xs ys
goes_further no_more b no_more = no_longer (omega arith)
goes_further no_more b (blank {c = c} {bytes = bs} h e) = absurd (bare_not_blank c bs b h)
goes_further no_more b (one_more {more = m} {l = l} {ls = ls} s e) = further l m ls s refl
goes_further (blank h d) b no_more = no_longer (omega arith)
goes_further (blank h d) b (blank k e) = goes_further d b e
goes_further (blank {c = c} {bytes = bs} h d) b (one_more {more = m} {l = l} s e) = absurd (starts_not_blank c bs m l h s)
goes_further (one_more s d) b no_more = no_longer (omega arith)
goes_further (one_more {more = m} {l = l} s d) b (blank {c = c} {bytes = bs} h e) = absurd (starts_not_blank c bs m l h s)
goes_further {text} {rest} {end} (one_more {more = m} {l = k} {ls = ks} s d) b (one_more {more = n} {l = l} {ls = ls} t e) =
    let same = one_start text m n k l s t in
    further_more rest k l ks ls same.0 (goes_further d b (subst (λ r. Lexes r ls end) (sym same.1) e))

beyond : (stack : List Symbol) (before ls zs : List Lexeme) (l : Lexeme) → Expects before stack → IsFront ls → ls ≡ before ++ l ∷ zs → RefusesKind stack (kind_of l) → ⊥
beyond stack before ls zs l x front e refuses =
    let r = subst (λ m. Reads m front.tree) (ap (λ m. m ++ front.rest) e ∙ append_assoc before (l ∷ zs) front.rest) front.reads in
    refuses l (zs ++ front.rest) refl (x.on (l ∷ (zs ++ front.rest)) front.tree r)

pub furthest_place : (text rest : List ℕ) (stack : List Symbol) (next : List LexemeKind) (offset : ℕ) → Walks text stack rest → IsStop rest stack → ((before : List Lexeme) → Expects before stack → TellsKinds before all_kinds next) → offset ≡ length text - length rest → IsFurthest text offset next
furthest_place text rest stack next offset w stop tells at =
    let lexed : Lexes text w.before rest = subst (λ b. Lexes text b rest) (append-nil w.before) (w.lexed [] rest no_more) in
    record {
      before = w.before;
      rest = rest;
      lexed = lexed;
      bare = w.bare;
      place = (let a = w.within in omega arith);
      front = front_of w.before stack w.expects;
      longest = λ ls end d front.
          elim (goes_further lexed w.bare d) [
            | no_longer h ↦ h
            | further l more zs s e ↦ absurd (beyond stack w.before ls zs l w.expects front e (stop l more s))
          ];
      tells = tells w.before w.expects;
    }
