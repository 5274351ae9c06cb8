-- A tree that some text reads as is read again from its canonical text.
use Rattle.std.proofs.Common.{◌≡◌, ℕ, ◌+◌, ◌-◌, ◌/◌, ◌%◌, ◌^◌, ◌≤◌, ◌<◌, Bool, true, false, not, ◌&&◌, List, [], ◌∷◌, ◌++◌, length, refl, sym, ◌∙◌, ap, subst, ltb-true, arith, append_assoc, append-nil, codes, decimal, nat_le, nat_lt, ◌||◌, ◌==◌, leb-true}
use Rattle.std.proofs.lemmas.Bool.{ltb-false, and_parts}
use Rattle.std.proofs.lemmas.Bool.Decides.{nat_tests}
use Rattle.std.proofs.lemmas.Fmt.{decimal_digit, decimal_step}
use Rattle.vocab.specs.Name.{is_lower, is_digit, is_name_byte, has_name_shape}
use Rattle.vocab.specs.NamedTree as tree
use Rattle.vocab.specs.NamedTree.{NamedTermTree, NamedTermTrees, NamedTree}
use Rattle.vocab.specs.declared.kinds.Sort.{Sort}
use Rattle.vocab.specs.declared.kinds.Sort.TheVariants as sort
use Rattle.syntax.specs.declared.lexemes.Joint.{Joint}
use Rattle.syntax.specs.declared.lexemes.Joint.TheVariants as joint
use Rattle.syntax.specs.declared.lexemes.Quantifier.{Quantifier}
use Rattle.syntax.specs.declared.lexemes.Quantifier.TheVariants as quantifier
use Rattle.syntax.specs.declared.lexemes.Lexeme.{Lexeme}
use Rattle.syntax.specs.declared.lexemes.Lexeme.TheVariants as lexeme
use Rattle.syntax.specs.Grammar.{IsFree, IsTerm, IsTerms, variable, call, voter, alternative, ballot, last_term, more_terms, pred, equal, IsFormula, quantified, negation, group, atom, IsChain, last_part, more_parts, joined_by, bound, word_of_sort}
use Rattle.syntax.specs.Lexemes.{IsLexed, IsSpelled, IsVoterText, IsBallotText, IsRunEnd, Lexes, no_more, blank, one_more, starts_without}
use Rattle.syntax.specs.Sentence.{IsSentence}
use Rattle.vocab.specs.NamedDepth.{named_depth, quantifiers}
use Rattle.vocab.proofs.DigitLaws.{digit_from, digit_range}
use Rattle.syntax.specs.Canonical.{term_text, more_text, canonical_text}

-- ---- trees of which each part has a spelling

pub record IsWord (n : List ℕ) : Type 0 where
  pub shape : has_name_shape n ≡ true
  pub short : length n ≤ 16

abbrev mutual
  pub IsWritableTerm : NamedTermTree → Type 0
  IsWritableTerm (tree.Var n) = IsFree n × IsWord n
  IsWritableTerm (tree.Voter n) = n < 1000
  IsWritableTerm (tree.Alt a) = a < 26
  IsWritableTerm (tree.Ballot b) = IsBallotText b
  IsWritableTerm (tree.Call n ts) = IsFree n × IsWord n × IsWritableList ts

  pub IsWritableList : NamedTermTrees → Type 0
  IsWritableList tree.NoArguments = ⊥
  IsWritableList (tree.Argument t ts) = IsWritableTerm t × AreWritable ts

  pub AreWritable : NamedTermTrees → Type 0
  AreWritable tree.NoArguments = Unit {0}
  AreWritable (tree.Argument t ts) = IsWritableTerm t × AreWritable ts

abbrev pub IsWritable : NamedTree → Type 0
IsWritable (tree.Pred n ts) = IsFree n × IsWord n × IsWritableList ts
IsWritable (tree.Equal s t) = IsWritableTerm s × IsWritableTerm t
IsWritable (tree.Not f) = IsWritable f
IsWritable (tree.Both f g) = IsWritable f × IsWritable g
IsWritable (tree.Either f g) = IsWritable f × IsWritable g
IsWritable (tree.Implies f g) = IsWritable f × IsWritable g
IsWritable (tree.Same f g) = IsWritable f × IsWritable g
IsWritable (tree.All n s f) = IsFree n × IsWord n × IsWritable f
IsWritable (tree.Exists n s f) = IsFree n × IsWord n × IsWritable f

-- ---- the canonical lexemes, before others

abbrev mutual
  pub term_lexemes : NamedTermTree → List Lexeme → List Lexeme
  term_lexemes (tree.Var n) rest = lexeme.Word n ∷ rest
  term_lexemes (tree.Voter n) rest = lexeme.Voter n ∷ rest
  term_lexemes (tree.Alt a) rest = lexeme.Alt a ∷ rest
  term_lexemes (tree.Ballot b) rest = lexeme.Ballot b ∷ rest
  term_lexemes (tree.Call n ts) rest = lexeme.Word n ∷ lexeme.Open ∷ list_lexemes ts rest

  pub list_lexemes : NamedTermTrees → List Lexeme → List Lexeme
  list_lexemes tree.NoArguments rest = lexeme.Close ∷ rest
  list_lexemes (tree.Argument t ts) rest = term_lexemes t (more_lexemes ts rest)

  pub more_lexemes : NamedTermTrees → List Lexeme → List Lexeme
  more_lexemes tree.NoArguments rest = lexeme.Close ∷ rest
  more_lexemes (tree.Argument t ts) rest = lexeme.Comma ∷ term_lexemes t (more_lexemes ts rest)

abbrev pub tree_lexemes : NamedTree → List Lexeme → List Lexeme
tree_lexemes (tree.Pred n ts) rest = lexeme.Word n ∷ lexeme.Open ∷ list_lexemes ts rest
tree_lexemes (tree.Equal s t) rest = term_lexemes s (lexeme.Equals ∷ term_lexemes t rest)
tree_lexemes (tree.Not f) rest = lexeme.Not ∷ tree_lexemes f rest
tree_lexemes (tree.Both f g) rest = lexeme.Open ∷ tree_lexemes f (lexeme.And ∷ tree_lexemes g (lexeme.Close ∷ rest))
tree_lexemes (tree.Either f g) rest = lexeme.Open ∷ tree_lexemes f (lexeme.Or ∷ tree_lexemes g (lexeme.Close ∷ rest))
tree_lexemes (tree.Implies f g) rest = lexeme.Open ∷ tree_lexemes f (lexeme.Implies ∷ tree_lexemes g (lexeme.Close ∷ rest))
tree_lexemes (tree.Same f g) rest = lexeme.Open ∷ tree_lexemes f (lexeme.Same ∷ tree_lexemes g (lexeme.Close ∷ rest))
tree_lexemes (tree.All n s f) rest = lexeme.Word (codes "all") ∷ lexeme.Word n ∷ lexeme.Colon ∷ lexeme.Word (word_of_sort s) ∷ lexeme.Dot ∷ tree_lexemes f rest
tree_lexemes (tree.Exists n s f) rest = lexeme.Word (codes "some") ∷ lexeme.Word n ∷ lexeme.Colon ∷ lexeme.Word (word_of_sort s) ∷ lexeme.Dot ∷ tree_lexemes f rest

-- ---- they read as the tree

mutual
  term_derived : (t : NamedTermTree) (rest : List Lexeme) → IsWritableTerm t → IsTerm (term_lexemes t rest) t rest
  term_derived (tree.Var n) rest w = variable w.0
  term_derived (tree.Voter n) rest w = voter
  term_derived (tree.Alt a) rest w = alternative
  term_derived (tree.Ballot b) rest w = ballot
  term_derived (tree.Call n tree.NoArguments) rest w = absurd w.2
  term_derived (tree.Call n (tree.Argument t ts)) rest w = call w.0 (list_derived ts rest w.2.1 t (term_lexemes t (more_lexemes ts rest)) (term_derived t (more_lexemes ts rest) w.2.0))

  list_derived : (ts : NamedTermTrees) (rest : List Lexeme) → AreWritable ts → (t : NamedTermTree) (ls : List Lexeme) → IsTerm ls t (more_lexemes ts rest) → IsTerms ls (tree.Argument t ts) rest
  list_derived tree.NoArguments rest w t ls d = last_term d
  list_derived (tree.Argument u us) rest w t ls d = more_terms d (list_derived us rest w.1 u (term_lexemes u (more_lexemes us rest)) (term_derived u (more_lexemes us rest) w.0))

pub tree_derived : (f : NamedTree) (rest : List Lexeme) → IsWritable f → IsFormula (tree_lexemes f rest) f rest
tree_derived (tree.Pred n tree.NoArguments) rest w = absurd w.2
tree_derived (tree.Pred n (tree.Argument t ts)) rest w = atom (pred w.0 (list_derived ts rest w.2.1 t (term_lexemes t (more_lexemes ts rest)) (term_derived t (more_lexemes ts rest) w.2.0)))
tree_derived (tree.Equal s t) rest w = atom (equal (term_derived s (lexeme.Equals ∷ term_lexemes t rest) w.0) (term_derived t rest w.1))
tree_derived (tree.Not f) rest w = negation (tree_derived f rest w)
tree_derived (tree.Both f g) rest w = group joint.Both (tree_derived f (lexeme.And ∷ tree_lexemes g (lexeme.Close ∷ rest)) w.0) (last_part (tree_derived g (lexeme.Close ∷ rest) w.1))
tree_derived (tree.Either f g) rest w = group joint.Either (tree_derived f (lexeme.Or ∷ tree_lexemes g (lexeme.Close ∷ rest)) w.0) (last_part (tree_derived g (lexeme.Close ∷ rest) w.1))
tree_derived (tree.Implies f g) rest w = group joint.Implies (tree_derived f (lexeme.Implies ∷ tree_lexemes g (lexeme.Close ∷ rest)) w.0) (last_part (tree_derived g (lexeme.Close ∷ rest) w.1))
tree_derived (tree.Same f g) rest w = group joint.Same (tree_derived f (lexeme.Same ∷ tree_lexemes g (lexeme.Close ∷ rest)) w.0) (last_part (tree_derived g (lexeme.Close ∷ rest) w.1))
tree_derived (tree.All n s f) rest w = quantified quantifier.All s refl w.0 refl (tree_derived f rest w.2)
tree_derived (tree.Exists n s f) rest w = quantified quantifier.Exists s refl w.0 refl (tree_derived f rest w.2)

-- ---- what is read has a spelling

abbrev AreSpelled : List Lexeme → Type 0
AreSpelled [] = Unit {0}
AreSpelled (l ∷ ls) = ((text : List ℕ) × IsSpelled l text) × AreSpelled ls

spelled_lexed : {text rest : List ℕ} {ls : List Lexeme} → Lexes text ls rest → AreSpelled ls
spelled_lexed no_more = tt
spelled_lexed (blank b d) = spelled_lexed d
spelled_lexed (one_more s d) = ((s.text, s.spelled), spelled_lexed d)

are_writable : (ts : NamedTermTrees) → IsWritableList ts → AreWritable ts
are_writable tree.NoArguments w = absurd w
are_writable (tree.Argument t ts) w = w

-- a number of at most three digits is below 1000
voter_small : (n : ℕ) (digits : List ℕ) → IsVoterText n digits → n < 1000
voter_small n [] v = let e = v.number in omega arith
voter_small n (a ∷ []) v = let p = and_parts (is_digit a) true v.each in let x = digit_range a p.0 in let e = v.number in omega arith
voter_small n (a ∷ b ∷ []) v =
    let p = and_parts (is_digit a) (is_digit b && true) v.each in
    let q = and_parts (is_digit b) true p.1 in
    let x = digit_range a p.0 in let y = digit_range b q.0 in let e = v.number in omega arith
voter_small n (a ∷ b ∷ c ∷ []) v =
    let p = and_parts (is_digit a) (is_digit b && (is_digit c && true)) v.each in
    let q = and_parts (is_digit b) (is_digit c && true) p.1 in
    let r = and_parts (is_digit c) true q.1 in
    let x = digit_range a p.0 in let y = digit_range b q.0 in let z = digit_range c r.0 in let e = v.number in omega arith
voter_small n (a ∷ b ∷ c ∷ d ∷ more) v = absurd (let few = v.few in omega arith)

alternative_small : (a c : ℕ) → is_lower c ≡ true → a ≡ c - 97 → a < 26
alternative_small a c low e = let p = and_parts (nat_le 97 c) (nat_le c 122) low in let x = leb-true 97 c p.0 in let y = leb-true c 122 p.1 in omega arith

mutual
  term_writable : {ls rest : List Lexeme} {t : NamedTermTree} → IsTerm ls t rest → AreSpelled ls → IsWritableTerm t × AreSpelled rest
  term_writable (variable f) s = ((f, record { shape = s.0.1.1; short = s.0.1.2 }), s.1)
  term_writable (call f d) s = let more = list_writable d s.1.1 in ((f, record { shape = s.0.1.1; short = s.0.1.2 }, more.0), more.1)
  term_writable (voter {n = n}) s = (voter_small n s.0.1.0 s.0.1.2, s.1)
  term_writable (alternative {n = n}) s = (alternative_small n s.0.1.0 s.0.1.2 s.0.1.3, s.1)
  term_writable ballot s = (s.0.1.1, s.1)

  list_writable : {ls rest : List Lexeme} {ts : NamedTermTrees} → IsTerms ls ts rest → AreSpelled ls → IsWritableList ts × AreSpelled rest
  list_writable (last_term d) s = let one = term_writable d s in ((one.0, tt), one.1.1)
  list_writable (more_terms {ts = us} d ds) s = let one = term_writable d s in let more = list_writable ds one.1.1 in ((one.0, are_writable us more.0), more.1)

-- ---- the canonical text is the canonical lexemes

word_lexed : (n tail : List ℕ) (ls : List Lexeme) (end : List ℕ) → IsWord n → starts_without is_name_byte tail ≡ true → Lexes tail ls end → Lexes (n ++ tail) (lexeme.Word n ∷ ls) end
word_lexed n tail ls end w stop d = one_more (record { text = n; whole = refl; spelled = (refl, w.shape, w.short); longest = stop }) d

joined_writable : (j : Joint) (f g : NamedTree) → IsWritable f → IsWritable g → IsWritable (joined_by j f g)
joined_writable joint.Both f g w v = (w, v)
joined_writable joint.Either f g w v = (w, v)
joined_writable joint.Implies f g w v = (w, v)
joined_writable joint.Same f g w v = (w, v)

bound_writable : (q : Quantifier) (n : List ℕ) (s : Sort) (f : NamedTree) → IsFree n → IsWord n → IsWritable f → IsWritable (bound q n s f)
bound_writable quantifier.All n s f b w v = (b, w, v)
bound_writable quantifier.Exists n s f b w v = (b, w, v)

mutual
  pub tree_writable : {ls rest : List Lexeme} {f : NamedTree} → IsFormula ls f rest → AreSpelled ls → IsWritable f × AreSpelled rest
  tree_writable (quantified {name} {f} q s a b c d) g = let body = tree_writable d g.1.1.1.1.1 in (bound_writable q name s f b (record { shape = g.1.0.1.1; short = g.1.0.1.2 }) body.0, body.1)
  tree_writable (negation d) s = tree_writable d s.1
  tree_writable (group {f = f} {g = g} j d c) s = let left = tree_writable d s.1 in let right = chain_writable c left.1.1 in (joined_writable j f g left.0 right.0, right.1)
  tree_writable (atom (pred f d)) s = let more = list_writable d s.1.1 in ((f, record { shape = s.0.1.1; short = s.0.1.2 }, more.0), more.1)
  tree_writable (atom (equal d e)) s = let left = term_writable d s in let right = term_writable e left.1.1 in ((left.0, right.0), right.1)

  chain_writable : {j : Joint} {ls rest : List Lexeme} {f : NamedTree} → IsChain j ls f rest → AreSpelled ls → IsWritable f × AreSpelled rest
  chain_writable (last_part d) s = let one = tree_writable d s in (one.0, one.1.1)
  chain_writable {j} (more_parts {f = f} {g = g} o d c) s = let left = tree_writable d s in let right = chain_writable c left.1.1 in (joined_writable j f g left.0 right.0, right.1)

mark_lexed : (l : Lexeme) (text more : List ℕ) (ls : List Lexeme) (end : List ℕ) → IsSpelled l text → IsRunEnd l more → Lexes more ls end → Lexes (text ++ more) (l ∷ ls) end
mark_lexed l text more ls end spelled stop d = one_more (record { text = text; whole = refl; spelled = spelled; longest = stop }) d

-- a mark between blanks
between : (l : Lexeme) (text more : List ℕ) (ls : List Lexeme) (end : List ℕ) → IsSpelled l text → IsRunEnd l (32 ∷ more) → Lexes more ls end → Lexes (32 ∷ (text ++ 32 ∷ more)) (l ∷ ls) end
between l text more ls end spelled stop d = blank refl (mark_lexed l text (32 ∷ more) ls end spelled stop (blank refl d))

one_digit : (n : ℕ) → n < 10 → IsVoterText n (decimal n)
one_digit n high =
    let first = digit_from n high in
    rw (decimal_digit n high) (record { each = rw first refl; some = omega arith; few = omega arith; number = omega arith })

two_places : (n : ℕ) → 10 ≤ n → n < 100 → decimal n ≡ (48 + n / 10) ∷ (48 + n % 10) ∷ []
two_places n low high =
    let fits : n < 2 ^ 64 = omega (arith, high) in
    let front : n / 10 < 10 = omega (arith, high) in
    decimal_step n low fits ∙ ap (λ (ds : List ℕ). ds ++ (48 + n % 10) ∷ []) (decimal_digit (n / 10) front)

two_digits : (n : ℕ) → 10 ≤ n → n < 100 → IsVoterText n (decimal n)
two_digits n low high =
    let first = digit_from (n / 10) (omega (arith, high)) in
    let second = digit_from (n % 10) (omega arith) in
    rw (two_places n low high) (record { each = rw (first, second) refl; some = omega arith; few = omega arith; number = omega arith })

three_digits : (n : ℕ) → 100 ≤ n → n < 1000 → IsVoterText n (decimal n)
three_digits n low high =
    let fits : n < 2 ^ 64 = omega (arith, high) in
    let two : 10 ≤ n = omega (arith, low) in
    let front = two_places (n / 10) (omega (arith, low)) (omega (arith, high)) in
    let text : decimal n ≡ (48 + n / 10 / 10) ∷ (48 + n / 10 % 10) ∷ (48 + n % 10) ∷ [] = decimal_step n two fits ∙ ap (λ (ds : List ℕ). ds ++ (48 + n % 10) ∷ []) front in
    let first = digit_from (n / 10 / 10) (omega (arith, high)) in
    let second = digit_from (n / 10 % 10) (omega arith) in
    let third = digit_from (n % 10) (omega arith) in
    rw text (record { each = rw (first, second, third) refl; some = omega arith; few = omega arith; number = omega arith })

decimal_at : (n : ℕ) → n < 1000 → (b c : Bool) → nat_lt n 10 ≡ b → nat_lt n 100 ≡ c → IsVoterText n (decimal n)
decimal_at n h true c t u = one_digit n (ltb-true n 10 t)
decimal_at n h false true t u = two_digits n (ltb-false n 10 t) (ltb-true n 100 u)
decimal_at n h false false t u = three_digits n (ltb-false n 100 u) h

decimal_voter : (n : ℕ) → n < 1000 → IsVoterText n (decimal n)
decimal_voter n h = decimal_at n h (nat_lt n 10) (nat_lt n 100) refl refl

not_digit : (a b c : Bool) → not (a || b || c) ≡ true → not b ≡ true
not_digit true b c h = absurd cc
not_digit false true c h = absurd cc
not_digit false false c h = refl

digits_end : (tail : List ℕ) → starts_without is_name_byte tail ≡ true → starts_without is_digit tail ≡ true
digits_end [] h = refl
digits_end (c ∷ tail) h = not_digit (is_lower c) (is_digit c) (c == 95) h

letter_of : (a : ℕ) → a < 26 → is_lower ((97 + a) % 256) ≡ true
letter_of a h =
    let m : (97 + a) % 256 ≡ 97 + a = omega arith in
    let x : nat_le 97 (97 + a) ≡ true = grind (arith, nat_tests) in
    let y : nat_le (97 + a) 122 ≡ true = grind (arith, nat_tests) in
    rw (m, x, y) refl

call_text : (n a tail : List ℕ) → (((n ++ (40 ∷ [])) ++ a) ++ (41 ∷ [])) ++ tail ≡ n ++ (40 ∷ (a ++ 41 ∷ tail))
call_text n a tail = simp append_assoc

more_stops : (ts : NamedTermTrees) (tail : List ℕ) → starts_without is_name_byte (more_text ts ++ 41 ∷ tail) ≡ true
more_stops tree.NoArguments tail = refl
more_stops (tree.Argument t ts) tail = refl

mutual
  term_lexed : (t : NamedTermTree) (tail : List ℕ) (ls : List Lexeme) (end : List ℕ) → IsWritableTerm t → starts_without is_name_byte tail ≡ true → Lexes tail ls end → Lexes (term_text t ++ tail) (term_lexemes t ls) end
  term_lexed (tree.Var n) tail ls end w stop d = word_lexed n tail ls end w.1 stop d
  term_lexed (tree.Voter n) tail ls end w stop d = one_more (record { text = 35 ∷ decimal n; whole = refl; spelled = (decimal n, refl, decimal_voter n w); longest = digits_end tail stop }) d
  term_lexed (tree.Alt a) tail ls end w stop d = one_more (record { text = 64 ∷ ((97 + a) % 256) ∷ []; whole = refl; spelled = ((97 + a) % 256, refl, letter_of a w, omega arith); longest = stop }) d
  term_lexed (tree.Ballot b) tail ls end w stop d = one_more (record { text = 60 ∷ (b ++ 62 ∷ []); whole = refl; spelled = (refl, w); longest = tt }) d
  term_lexed (tree.Call n tree.NoArguments) tail ls end w stop d = absurd w.2
  term_lexed (tree.Call n (tree.Argument t ts)) tail ls end w stop d =
      let others = more_lexed ts tail ls end w.2.1 d in
      let parts = term_lexed t (more_text ts ++ 41 ∷ tail) (more_lexemes ts ls) end w.2.0 (more_stops ts tail) others in
      let list : Lexes ((term_text t ++ more_text ts) ++ 41 ∷ tail) (term_lexemes t (more_lexemes ts ls)) end = rw append_assoc parts in
      let whole = word_lexed n (40 ∷ ((term_text t ++ more_text ts) ++ 41 ∷ tail)) (lexeme.Open ∷ term_lexemes t (more_lexemes ts ls)) end w.1 refl
      (mark_lexed lexeme.Open (40 ∷ []) ((term_text t ++ more_text ts) ++ 41 ∷ tail) (term_lexemes t (more_lexemes ts ls)) end refl tt list) in
      subst (λ x. Lexes x (lexeme.Word n ∷ lexeme.Open ∷ term_lexemes t (more_lexemes ts ls)) end) (sym (call_text n (term_text t ++ more_text ts) tail)) whole

  more_lexed : (ts : NamedTermTrees) (tail : List ℕ) (ls : List Lexeme) (end : List ℕ) → AreWritable ts → Lexes tail ls end → Lexes (more_text ts ++ 41 ∷ tail) (more_lexemes ts ls) end
  more_lexed tree.NoArguments tail ls end w d = mark_lexed lexeme.Close (41 ∷ []) tail ls end refl tt d
  more_lexed (tree.Argument t ts) tail ls end w d =
      let others = more_lexed ts tail ls end w.1 d in
      let parts = term_lexed t (more_text ts ++ 41 ∷ tail) (more_lexemes ts ls) end w.0 (more_stops ts tail) others in
      let list : Lexes ((term_text t ++ more_text ts) ++ 41 ∷ tail) (term_lexemes t (more_lexemes ts ls)) end = rw append_assoc parts in
      mark_lexed lexeme.Comma (44 ∷ []) (32 ∷ ((term_text t ++ more_text ts) ++ 41 ∷ tail)) (term_lexemes t (more_lexemes ts ls)) end refl tt (blank refl list)

equal_text : (a b tail : List ℕ) → ((a ++ codes " = ") ++ b) ++ tail ≡ a ++ (32 ∷ 61 ∷ 32 ∷ (b ++ tail))
equal_text a b tail = simp append_assoc

group_text : (a m b tail : List ℕ) → (((((40 ∷ []) ++ a) ++ m) ++ b) ++ (41 ∷ [])) ++ tail ≡ 40 ∷ (a ++ (m ++ (b ++ 41 ∷ tail)))
group_text a m b tail = simp append_assoc

bound_text : (q n w f tail : List ℕ) → (((((q ++ n) ++ codes ": ") ++ w) ++ codes ". ") ++ f) ++ tail ≡ q ++ (n ++ (58 ∷ 32 ∷ (w ++ (46 ∷ 32 ∷ (f ++ tail)))))
bound_text q n w f tail = simp append_assoc

all_word : IsWord (codes "all")
all_word = record { shape = refl; short = omega arith }

some_word : IsWord (codes "some")
some_word = record { shape = refl; short = omega arith }

sort_word : (s : Sort) → IsWord (word_of_sort s)
sort_word sort.Voter = record { shape = refl; short = omega arith }
sort_word sort.Alt = record { shape = refl; short = omega arith }
sort_word sort.Ballot = record { shape = refl; short = omega arith }
sort_word sort.Profile = record { shape = refl; short = omega arith }

group_lexed : (l : Lexeme) (mark a b tail : List ℕ) (left right : List Lexeme → List Lexeme) (ls : List Lexeme) (end : List ℕ) → IsSpelled l mark → IsRunEnd l (32 ∷ (b ++ 41 ∷ tail)) → Lexes tail ls end
    → (Lexes (41 ∷ tail) (lexeme.Close ∷ ls) end → Lexes (b ++ 41 ∷ tail) (right (lexeme.Close ∷ ls)) end)
    → (Lexes (32 ∷ (mark ++ 32 ∷ (b ++ 41 ∷ tail))) (l ∷ right (lexeme.Close ∷ ls)) end → Lexes (a ++ (32 ∷ (mark ++ 32 ∷ (b ++ 41 ∷ tail)))) (left (l ∷ right (lexeme.Close ∷ ls))) end)
    → Lexes (40 ∷ (a ++ (32 ∷ (mark ++ 32 ∷ (b ++ 41 ∷ tail))))) (lexeme.Open ∷ left (l ∷ right (lexeme.Close ∷ ls))) end
group_lexed l mark a b tail left right ls end spelled stop d of_right of_left =
    let close = mark_lexed lexeme.Close (41 ∷ []) tail ls end refl tt d in
    let middle = between l mark (b ++ 41 ∷ tail) (right (lexeme.Close ∷ ls)) end spelled stop (of_right close) in
    mark_lexed lexeme.Open (40 ∷ []) (a ++ (32 ∷ (mark ++ 32 ∷ (b ++ 41 ∷ tail)))) (left (l ∷ right (lexeme.Close ∷ ls))) end refl tt (of_left middle)

bound_lexed : (q n f tail : List ℕ) (s : Sort) (ls : List Lexeme) (end : List ℕ) → IsWord q → IsWord n → Lexes (f ++ tail) ls end
    → Lexes (q ++ (32 ∷ (n ++ (58 ∷ 32 ∷ (word_of_sort s ++ (46 ∷ 32 ∷ (f ++ tail))))))) (lexeme.Word q ∷ lexeme.Word n ∷ lexeme.Colon ∷ lexeme.Word (word_of_sort s) ∷ lexeme.Dot ∷ ls) end
bound_lexed q n f tail s ls end wq wn d =
    let dot = mark_lexed lexeme.Dot (46 ∷ []) (32 ∷ (f ++ tail)) ls end refl tt (blank refl d) in
    let sorted = word_lexed (word_of_sort s) (46 ∷ 32 ∷ (f ++ tail)) (lexeme.Dot ∷ ls) end (sort_word s) refl dot in
    let colon = mark_lexed lexeme.Colon (58 ∷ []) (32 ∷ (word_of_sort s ++ (46 ∷ 32 ∷ (f ++ tail)))) (lexeme.Word (word_of_sort s) ∷ lexeme.Dot ∷ ls) end refl tt (blank refl sorted) in
    let named = word_lexed n (58 ∷ 32 ∷ (word_of_sort s ++ (46 ∷ 32 ∷ (f ++ tail)))) (lexeme.Colon ∷ lexeme.Word (word_of_sort s) ∷ lexeme.Dot ∷ ls) end wn refl colon in
    word_lexed q (32 ∷ (n ++ (58 ∷ 32 ∷ (word_of_sort s ++ (46 ∷ 32 ∷ (f ++ tail)))))) (lexeme.Word n ∷ lexeme.Colon ∷ lexeme.Word (word_of_sort s) ∷ lexeme.Dot ∷ ls) end wq refl (blank refl named)

tree_lexed : (f : NamedTree) (tail : List ℕ) (ls : List Lexeme) (end : List ℕ) → IsWritable f → starts_without is_name_byte tail ≡ true → Lexes tail ls end → Lexes (canonical_text f ++ tail) (tree_lexemes f ls) end
tree_lexed (tree.Pred n ts) tail ls end w stop d = term_lexed (tree.Call n ts) tail ls end w stop d
tree_lexed (tree.Equal s t) tail ls end w stop d =
    let right = term_lexed t tail ls end w.1 stop d in
    let middle = between lexeme.Equals (61 ∷ []) (term_text t ++ tail) (term_lexemes t ls) end refl tt right in
    let whole = term_lexed s (32 ∷ 61 ∷ 32 ∷ (term_text t ++ tail)) (lexeme.Equals ∷ term_lexemes t ls) end w.0 refl middle in
    subst (λ x. Lexes x (term_lexemes s (lexeme.Equals ∷ term_lexemes t ls)) end) (sym (equal_text (term_text s) (term_text t) tail)) whole
tree_lexed (tree.Not f) tail ls end w stop d = mark_lexed lexeme.Not (33 ∷ []) (canonical_text f ++ tail) (tree_lexemes f ls) end refl tt (tree_lexed f tail ls end w stop d)
tree_lexed (tree.Both f g) tail ls end w stop d =
    subst (λ x. Lexes x (tree_lexemes (tree.Both f g) ls) end) (sym (group_text (canonical_text f) (codes " & ") (canonical_text g) tail))
    (group_lexed lexeme.And (codes "&") (canonical_text f) (canonical_text g) tail (tree_lexemes f) (tree_lexemes g) ls end refl tt d
    (λ c. tree_lexed g (41 ∷ tail) (lexeme.Close ∷ ls) end w.1 refl c)
    (λ c. tree_lexed f (32 ∷ (codes "&" ++ 32 ∷ (canonical_text g ++ 41 ∷ tail))) (lexeme.And ∷ tree_lexemes g (lexeme.Close ∷ ls)) end w.0 refl c))
tree_lexed (tree.Either f g) tail ls end w stop d =
    subst (λ x. Lexes x (tree_lexemes (tree.Either f g) ls) end) (sym (group_text (canonical_text f) (codes " | ") (canonical_text g) tail))
    (group_lexed lexeme.Or (codes "|") (canonical_text f) (canonical_text g) tail (tree_lexemes f) (tree_lexemes g) ls end refl tt d
    (λ c. tree_lexed g (41 ∷ tail) (lexeme.Close ∷ ls) end w.1 refl c)
    (λ c. tree_lexed f (32 ∷ (codes "|" ++ 32 ∷ (canonical_text g ++ 41 ∷ tail))) (lexeme.Or ∷ tree_lexemes g (lexeme.Close ∷ ls)) end w.0 refl c))
tree_lexed (tree.Implies f g) tail ls end w stop d =
    subst (λ x. Lexes x (tree_lexemes (tree.Implies f g) ls) end) (sym (group_text (canonical_text f) (codes " -> ") (canonical_text g) tail))
    (group_lexed lexeme.Implies (codes "->") (canonical_text f) (canonical_text g) tail (tree_lexemes f) (tree_lexemes g) ls end refl tt d
    (λ c. tree_lexed g (41 ∷ tail) (lexeme.Close ∷ ls) end w.1 refl c)
    (λ c. tree_lexed f (32 ∷ (codes "->" ++ 32 ∷ (canonical_text g ++ 41 ∷ tail))) (lexeme.Implies ∷ tree_lexemes g (lexeme.Close ∷ ls)) end w.0 refl c))
tree_lexed (tree.Same f g) tail ls end w stop d =
    subst (λ x. Lexes x (tree_lexemes (tree.Same f g) ls) end) (sym (group_text (canonical_text f) (codes " <-> ") (canonical_text g) tail))
    (group_lexed lexeme.Same (codes "<->") (canonical_text f) (canonical_text g) tail (tree_lexemes f) (tree_lexemes g) ls end refl tt d
    (λ c. tree_lexed g (41 ∷ tail) (lexeme.Close ∷ ls) end w.1 refl c)
    (λ c. tree_lexed f (32 ∷ (codes "<->" ++ 32 ∷ (canonical_text g ++ 41 ∷ tail))) (lexeme.Same ∷ tree_lexemes g (lexeme.Close ∷ ls)) end w.0 refl c))
tree_lexed (tree.All n s f) tail ls end w stop d =
    subst (λ x. Lexes x (tree_lexemes (tree.All n s f) ls) end) (sym (bound_text (codes "all ") n (word_of_sort s) (canonical_text f) tail))
    (bound_lexed (codes "all") n (canonical_text f) tail s (tree_lexemes f ls) end all_word w.1 (tree_lexed f tail ls end w.2 stop d))
tree_lexed (tree.Exists n s f) tail ls end w stop d =
    subst (λ x. Lexes x (tree_lexemes (tree.Exists n s f) ls) end) (sym (bound_text (codes "some ") n (word_of_sort s) (canonical_text f) tail))
    (bound_lexed (codes "some") n (canonical_text f) tail s (tree_lexemes f ls) end some_word w.1 (tree_lexed f tail ls end w.2 stop d))

-- the canonical text is the canonical lexemes
pub text_lexed : (f : NamedTree) → IsWritable f → IsLexed (canonical_text f) (tree_lexemes f [])
text_lexed f w = subst (λ x. Lexes x (tree_lexemes f []) []) (append-nil (canonical_text f)) (tree_lexed f [] [] [] w refl no_more)

-- a tree of which each part has a spelling is read from its canonical text, where it is within the limits
pub writable_read : (f : NamedTree) → IsWritable f → length (tree_lexemes f []) ≤ 600 → named_depth f ≤ 64 → quantifiers f ≤ 12 → IsSentence (canonical_text f) f
writable_read f w few shallow few_variables = record {
  reading = record { lexemes = tree_lexemes f []; are = record { lexed = text_lexed f w; few = few }; reads = tree_derived f [] w };
  shallow = shallow;
  few_variables = few_variables;
}

pub round_trip : (text : List ℕ) (f : NamedTree) → IsSentence text f → ((ls : List Lexeme) → IsLexed (canonical_text f) ls → length ls ≤ 600) → IsSentence (canonical_text f) f
round_trip text f s few =
    let w = (tree_writable s.reading.reads (spelled_lexed s.reading.are.lexed)).0 in
    writable_read f w (few (tree_lexemes f []) (text_lexed f w)) s.shallow s.few_variables
