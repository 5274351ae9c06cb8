-- The computed lexeme is the one that is spelled at the front of the bytes.
use Rattle.std.proofs.Common.{◌≡◌, ℕ, suc, ◌+◌, ◌-◌, ◌≤◌, Bool, true, false, cond, ◌&&◌, ◌==◌, List, [], ◌∷◌, ◌++◌, length, take, drop, refl, sym, ap, ◌∙◌, subst, arith, not, nat_le, Option, Some, None, append_assoc, eqb-true, leb-true}
use Rattle.std.specs.List.{list_all, take_while, prefix_len}
use Rattle.std.proofs.lemmas.List.Sums.{take_while-cons}
use Rattle.std.proofs.lemmas.Bool.Decides.{nat_tests}
use Rattle.std.proofs.Math.Seq.{take-append_seam, drop-append_seam}
use Rattle.std.proofs.lemmas.List.{take-append-drop}
use Rattle.std.proofs.lemmas.List.Folds.{length-prefix_len}
use Rattle.std.proofs.lemmas.Bool.{and_parts}
use Rattle.vocab.specs.Name.{is_lower, is_digit, is_name_byte, has_name_shape}
use Rattle.syntax.specs.declared.lexemes.Lexeme.{Lexeme}
use Rattle.syntax.specs.declared.lexemes.Lexeme.TheVariants as lexeme
use Rattle.syntax.specs.Lexemes.{IsSpelled, IsVoterText, IsBallotText, IsRunEnd, Starts, NoLexeme, continued_number, starts_without}
use Rattle.syntax.specs.Scanning.{run_length, lexeme_at, word_at, voter_at, alternative_at, ballot_at, closed_ballot, arrow_at, angle_at, mark_at}
use Rattle.syntax.proofs.Runs.{run_taken, name_run_shape, run_each, lower_goes_on}

-- ---- what is spelled is computed

stop_if : (b : Bool) (c : ℕ) (xs : List ℕ) → not b ≡ true → cond b (c ∷ xs) [] ≡ []
stop_if true c xs h = cc
stop_if false c xs h = refl

run_stops : (p : ℕ → Bool) (rest : List ℕ) → starts_without p rest ≡ true → take_while p rest ≡ []
run_stops p [] h = refl
run_stops p (c ∷ rest) h = take_while-cons p c rest ∙ stop_if (p c) c (take_while p rest) h

pub run_whole : (p : ℕ → Bool) (xs rest : List ℕ) → list_all p xs ≡ true → starts_without p rest ≡ true → take_while p (xs ++ rest) ≡ xs
run_whole p [] rest h k = run_stops p rest k
run_whole p (x ∷ xs) rest h k =
    let each = and_parts (p x) (list_all p xs) h in
    take_while-cons p x (xs ++ rest) ∙ rw each.0 (ap (λ l. x ∷ l) (run_whole p xs rest each.1 k))

-- the run, its length and the rest
pub record IsSplit (p : ℕ → Bool) (xs rest : List ℕ) : Type 0 where
  pub count : run_length p (xs ++ rest) ≡ length xs
  pub run : take (run_length p (xs ++ rest)) (xs ++ rest) ≡ xs
  pub after : drop (run_length p (xs ++ rest)) (xs ++ rest) ≡ rest

pub split : (p : ℕ → Bool) (xs rest : List ℕ) → list_all p xs ≡ true → starts_without p rest ≡ true → IsSplit p xs rest
split p xs rest h k =
    let count : run_length p (xs ++ rest) ≡ length xs = ap length (run_whole p xs rest h k) in
    record { count = count; run = rw count (take-append_seam xs rest); after = rw count (drop-append_seam xs rest) }

word_computed : (name rest : List ℕ) → list_all is_name_byte name ≡ true → length name ≤ 16 → starts_without is_name_byte rest ≡ true → word_at (name ++ rest) ≡ Some (lexeme.Word name, rest)
word_computed name rest each short stop =
    let s = split is_name_byte name rest each stop in
    let fits : nat_le (length name) 16 ≡ true = grind (arith, nat_tests) in
    rw (s.count, fits, take-append_seam, drop-append_seam) refl

voter_computed : (n : ℕ) (digits rest : List ℕ) → IsVoterText n digits → starts_without is_digit rest ≡ true → voter_at (digits ++ rest) ≡ Some (lexeme.Voter n, rest)
voter_computed n digits rest v stop =
    let s = split is_digit digits rest v.each stop in
    let some : nat_le 1 (length digits) ≡ true = let h = v.some in grind (arith, nat_tests) in
    let few : nat_le (length digits) 3 ≡ true = let h = v.few in grind (arith, nat_tests) in
    rw (s.count, some, few, take-append_seam, drop-append_seam, ← v.number) refl

ballot_computed : (letters rest : List ℕ) → IsBallotText letters → ballot_at (letters ++ 62 ∷ rest) ≡ Some (lexeme.Ballot letters, rest)
ballot_computed letters rest b =
    let s = split is_lower letters (62 ∷ rest) b.each refl in
    let some : nat_le 1 (length letters) ≡ true = let h = b.some in grind (arith, nat_tests) in
    let few : nat_le (length letters) 8 ≡ true = let h = b.few in grind (arith, nat_tests) in
    rw (s.run, s.after, some, few) refl

-- A word begins with a letter, and a letter is no mark.
shaped : (name : List ℕ) → has_name_shape name ≡ true → (c : ℕ) × (cs : List ℕ) × (name ≡ c ∷ cs) × (is_lower c ≡ true) × (list_all is_name_byte name ≡ true)
shaped [] h = cc
shaped (c ∷ cs) h = let p = and_parts (is_lower c) (list_all is_name_byte cs) h in (c, cs, refl, p.0, rw (lower_goes_on c p.0, p.1) refl)

lower_first : (c : ℕ) (rest : List ℕ) → is_lower c ≡ true → lexeme_at (c ∷ rest) ≡ word_at (c ∷ rest)
lower_first c rest h = rw h refl

word_starts : (name rest : List ℕ) → has_name_shape name ≡ true → length name ≤ 16 → starts_without is_name_byte rest ≡ true → lexeme_at (name ++ rest) ≡ Some (lexeme.Word name, rest)
word_starts name rest h short stop =
    let s = shaped name h in
    let whole : name ++ rest ≡ s.0 ∷ (s.1 ++ rest) = ap (λ l. l ++ rest) s.2 in
    ap lexeme_at whole ∙ lower_first s.0 (s.1 ++ rest) s.3 ∙ ap word_at (sym whole) ∙ word_computed name rest s.4 short stop

not_dash : (c : ℕ) → is_lower c ≡ true → (c == 45) ≡ false
not_dash c h = let p = and_parts (nat_le 97 c) (nat_le c 122) h in grind (arith, nat_tests)

ballot_first : (letters rest : List ℕ) → IsBallotText letters → angle_at (letters ++ 62 ∷ rest) ≡ ballot_at (letters ++ 62 ∷ rest)
ballot_first [] rest b = let h = b.some in absurd (omega arith)
ballot_first (c ∷ cs) rest b = let p = and_parts (is_lower c) (list_all is_lower cs) b.each in rw (not_dash c p.0) refl

pub starts_computed : (l : Lexeme) (bytes rest : List ℕ) → Starts bytes l rest → lexeme_at bytes ≡ Some (l, rest)
starts_computed (lexeme.Word name) bytes rest s = ap lexeme_at (s.whole ∙ ap (λ t. t ++ rest) s.spelled.0) ∙ word_starts name rest s.spelled.1 s.spelled.2 s.longest
starts_computed (lexeme.Voter n) bytes rest s = ap lexeme_at (s.whole ∙ ap (λ t. t ++ rest) s.spelled.1) ∙ voter_computed n s.spelled.0 rest s.spelled.2 s.longest
starts_computed (lexeme.Alt a) bytes rest s =
    let c = s.spelled.0 in
    let at : alternative_at (c ∷ rest) ≡ Some (lexeme.Alt a, rest) = rw (s.spelled.2, s.longest, ← s.spelled.3) refl in
    ap lexeme_at (s.whole ∙ ap (λ t. t ++ rest) s.spelled.1) ∙ at
starts_computed (lexeme.Ballot letters) bytes rest s =
    ap lexeme_at (s.whole ∙ ap (λ t. t ++ rest) s.spelled.0) ∙ ap angle_at (append_assoc letters (62 ∷ []) rest) ∙ ballot_first letters rest s.spelled.1 ∙ ballot_computed letters rest s.spelled.1
starts_computed p bytes rest s = ap lexeme_at (s.whole ∙ ap (λ t. t ++ rest) s.spelled)

abbrev Found : Type 0
Found = Option (Lexeme × List ℕ)

abbrev found : Lexeme → List ℕ → Found
found l rest = Some (l, rest)

some_pair : {x y : Lexeme} {a b : List ℕ} → found x a ≡ found y b → (x ≡ y) × (a ≡ b)
some_pair {x} {y} {a} {b} h = let e : ◌≡◌ {A = Lexeme × List ℕ} (x, a) (y, b) = cc in (ap (λ p. p.0) e, ap (λ p. p.1) e)

-- At most one lexeme begins.
pub one_start : (bytes xs ys : List ℕ) (k l : Lexeme) → Starts bytes k xs → Starts bytes l ys → (k ≡ l) × (xs ≡ ys)
one_start bytes xs ys k l s t = some_pair (sym (starts_computed k bytes xs s) ∙ starts_computed l bytes ys t)

pub none_starts : (bytes : List ℕ) → lexeme_at bytes ≡ None → NoLexeme bytes
none_starts bytes h l rest s = let a = starts_computed l bytes rest s in cc

-- ---- what is computed is spelled

spelled_so : {bytes bs rest : List ℕ} {m l : Lexeme} → Starts bytes m bs → found m bs ≡ found l rest → Starts bytes l rest
spelled_so {bytes} {bs} {rest} {m} {l} s h = let p = some_pair h in subst (λ k. Starts bytes k rest) p.0 (subst (λ r. Starts bytes m r) p.1 s)

test_step : (G : Type 0) (b : Bool) (x y z : Option (Lexeme × List ℕ)) → cond b x y ≡ z → (b ≡ true → x ≡ z → G) → (y ≡ z → G) → G
test_step G true x y z h this other = this refl h
test_step G false x y z h this other = other h

mark_step : (c d : ℕ) (m l : Lexeme) (bs rest : List ℕ) (y : Option (Lexeme × List ℕ)) → IsSpelled m (d ∷ []) → IsRunEnd m bs → cond (c == d) (Some (m, bs)) y ≡ Some (l, rest) → (y ≡ Some (l, rest) → Starts (c ∷ bs) l rest) → Starts (c ∷ bs) l rest
mark_step c d m l bs rest y spelled end h other =
    test_step (Starts (c ∷ bs) l rest) (c == d) (Some (m, bs)) y (Some (l, rest)) h
    (λ e k. spelled_so (record { text = d ∷ []; whole = ap (λ b. b ∷ bs) (eqb-true c d e); spelled = spelled; longest = end }) k)
    other

arrow_found : (m l : Lexeme) (bs rest : List ℕ) → arrow_at m bs ≡ Some (l, rest) → (m ≡ l) × (bs ≡ 62 ∷ rest)
arrow_found m l [] rest h = absurd cc
arrow_found m l (c ∷ bs) rest h =
    test_step ((m ≡ l) × (c ∷ bs ≡ 62 ∷ rest)) (c == 62) (Some (m, bs)) None (Some (l, rest)) h
    (λ e k. let p = some_pair k in (p.0, ap (λ b. b ∷ bs) (eqb-true c 62 e) ∙ ap (λ r. 62 ∷ r) p.1))
    (λ k. absurd cc)

-- ---- runs

after_first : (p : ℕ → Bool) (b : Bool) (c : ℕ) (bytes : List ℕ) → p c ≡ b → starts_without p (drop (prefix_len p bytes) bytes) ≡ true → starts_without p (drop (cond b (1 + prefix_len p bytes) 0) (c ∷ bytes)) ≡ true
after_first p true c bytes h k = let e : 1 + prefix_len p bytes ≡ suc (prefix_len p bytes) = omega arith in rw e k
after_first p false c bytes h k = rw h refl

after_run : (p : ℕ → Bool) (bytes : List ℕ) → starts_without p (drop (prefix_len p bytes) bytes) ≡ true
after_run p [] = refl
after_run p (c ∷ bytes) = after_first p (p c) c bytes refl (after_run p bytes)

rest_stops : (p : ℕ → Bool) (bytes : List ℕ) → starts_without p (drop (run_length p bytes) bytes) ≡ true
rest_stops p bytes = ap (λ k. starts_without p (drop k bytes)) (length-prefix_len p bytes) ∙ after_run p bytes

run_count : (p : ℕ → Bool) (bytes : List ℕ) → length (take (run_length p bytes) bytes) ≡ run_length p bytes
run_count p bytes = ap length (run_taken p bytes)

word_found : (bytes rest : List ℕ) (l : Lexeme) (c : ℕ) (cs : List ℕ) → bytes ≡ c ∷ cs → is_lower c ≡ true → word_at bytes ≡ Some (l, rest) → Starts bytes l rest
word_found bytes rest l c cs e low h =
    let k = run_length is_name_byte bytes in
    test_step (Starts bytes l rest) (nat_le k 16) (found (lexeme.Word (take k bytes)) (drop k bytes)) None (found l rest) h
    (λ fits same. spelled_so (record {
      text = take k bytes;
      whole = sym (take-append-drop k bytes);
      spelled = (refl, name_run_shape bytes c cs e low, (let short = leb-true k 16 fits in let count = run_count is_name_byte bytes in omega arith));
      longest = rest_stops is_name_byte bytes;
    }) same)
    (λ same. absurd cc)

voter_found : (bytes rest : List ℕ) (l : Lexeme) → voter_at bytes ≡ Some (l, rest) → Starts (35 ∷ bytes) l rest
voter_found bytes rest l h =
    let k = run_length is_digit bytes in
    let count = run_count is_digit bytes in
    test_step (Starts (35 ∷ bytes) l rest) (nat_le 1 k && nat_le k 3) (found (lexeme.Voter (continued_number 0 (take k bytes))) (drop k bytes)) None (found l rest) h
    (λ fits same.
    let both = and_parts (nat_le 1 k) (nat_le k 3) fits in
    let some = leb-true 1 k both.0 in
    let few = leb-true k 3 both.1 in
    spelled_so (record {
      text = 35 ∷ take k bytes;
      whole = ap (λ t. 35 ∷ t) (sym (take-append-drop k bytes));
      spelled = (take k bytes, refl, record { each = run_each is_digit bytes; some = omega arith; few = omega arith; number = refl });
      longest = rest_stops is_digit bytes;
    }) same)
    (λ same. absurd cc)

alternative_found : (bytes rest : List ℕ) (l : Lexeme) → alternative_at bytes ≡ Some (l, rest) → Starts (64 ∷ bytes) l rest
alternative_found [] rest l h = absurd cc
alternative_found (c ∷ bytes) rest l h =
    test_step (Starts (64 ∷ c ∷ bytes) l rest) (is_lower c && starts_without is_name_byte bytes) (found (lexeme.Alt (c - 97)) bytes) None (found l rest) h
    (λ fits same.
    let both = and_parts (is_lower c) (starts_without is_name_byte bytes) fits in
    spelled_so (record { text = 64 ∷ c ∷ []; whole = refl; spelled = (c, refl, both.0, refl); longest = both.1 }) same)
    (λ same. absurd cc)

closed_found : (letters tail rest : List ℕ) (l : Lexeme) → list_all is_lower letters ≡ true → closed_ballot letters tail ≡ Some (l, rest) → Starts (60 ∷ (letters ++ tail)) l rest
closed_found letters [] rest l each h = absurd cc
closed_found letters (c ∷ tail) rest l each h =
    test_step (Starts (60 ∷ (letters ++ c ∷ tail)) l rest) (c == 62 && nat_le 1 (length letters) && nat_le (length letters) 8) (found (lexeme.Ballot letters) tail) None (found l rest) h
    (λ fits same.
    let outer = and_parts (c == 62 && nat_le 1 (length letters)) (nat_le (length letters) 8) fits in
    let inner = and_parts (c == 62) (nat_le 1 (length letters)) outer.0 in
    let close = eqb-true c 62 inner.0 in
    spelled_so (record {
      text = 60 ∷ (letters ++ 62 ∷ []);
      whole = ap (λ t. 60 ∷ t) (ap (λ b. letters ++ b ∷ tail) close ∙ sym (append_assoc letters (62 ∷ []) tail));
      spelled = (refl, record { each = each; some = leb-true 1 (length letters) inner.1; few = leb-true (length letters) 8 outer.1 });
      longest = tt;
    }) same)
    (λ same. absurd cc)

ballot_found : (bytes rest : List ℕ) (l : Lexeme) → ballot_at bytes ≡ Some (l, rest) → Starts (60 ∷ bytes) l rest
ballot_found bytes rest l h =
    let k = run_length is_lower bytes in
    subst (λ b. Starts (60 ∷ b) l rest) (take-append-drop k bytes) (closed_found (take k bytes) (drop k bytes) rest l (run_each is_lower bytes) h)

angle_found : (bytes rest : List ℕ) (l : Lexeme) → angle_at bytes ≡ Some (l, rest) → Starts (60 ∷ bytes) l rest
angle_found [] rest l h = absurd cc
angle_found (c ∷ bytes) rest l h =
    test_step (Starts (60 ∷ c ∷ bytes) l rest) (c == 45) (arrow_at lexeme.Same bytes) (ballot_at (c ∷ bytes)) (found l rest) h
    (λ e same.
    let a = arrow_found lexeme.Same l bytes rest same in
    subst (λ m. Starts (60 ∷ c ∷ bytes) m rest) a.0 (record {
      text = 60 ∷ 45 ∷ 62 ∷ [];
      whole = ap (λ b. 60 ∷ b ∷ bytes) (eqb-true c 45 e) ∙ ap (λ b. 60 ∷ 45 ∷ b) a.1;
      spelled = refl;
      longest = tt;
    }))
    (λ same. ballot_found (c ∷ bytes) rest l same)

mark_found : (c : ℕ) (bs rest : List ℕ) (l : Lexeme) → mark_at c bs ≡ Some (l, rest) → Starts (c ∷ bs) l rest
mark_found c bs rest l h =
    mark_step c 40 lexeme.Open l bs rest _ refl tt h (λ h1.
    mark_step c 41 lexeme.Close l bs rest _ refl tt h1 (λ h2.
    mark_step c 44 lexeme.Comma l bs rest _ refl tt h2 (λ h3.
    mark_step c 58 lexeme.Colon l bs rest _ refl tt h3 (λ h4.
    mark_step c 46 lexeme.Dot l bs rest _ refl tt h4 (λ h5.
    mark_step c 61 lexeme.Equals l bs rest _ refl tt h5 (λ h6.
    mark_step c 33 lexeme.Not l bs rest _ refl tt h6 (λ h7.
    mark_step c 38 lexeme.And l bs rest _ refl tt h7 (λ h8.
    mark_step c 124 lexeme.Or l bs rest _ refl tt h8 (λ h9.
    test_step (Starts (c ∷ bs) l rest) (c == 45) (arrow_at lexeme.Implies bs) _ (found l rest) h9
    (λ e same.
    let a = arrow_found lexeme.Implies l bs rest same in
    subst (λ m. Starts (c ∷ bs) m rest) a.0 (record {
      text = 45 ∷ 62 ∷ [];
      whole = ap (λ b. b ∷ bs) (eqb-true c 45 e) ∙ ap (λ b. 45 ∷ b) a.1;
      spelled = refl;
      longest = tt;
    }))
    (λ h10.
    test_step (Starts (c ∷ bs) l rest) (c == 60) (angle_at bs) _ (found l rest) h10
    (λ e same. subst (λ b. Starts (b ∷ bs) l rest) (sym (eqb-true c 60 e)) (angle_found bs rest l same))
    (λ h11.
    test_step (Starts (c ∷ bs) l rest) (c == 35) (voter_at bs) _ (found l rest) h11
    (λ e same. subst (λ b. Starts (b ∷ bs) l rest) (sym (eqb-true c 35 e)) (voter_found bs rest l same))
    (λ h12.
    test_step (Starts (c ∷ bs) l rest) (c == 64) (alternative_at bs) None (found l rest) h12
    (λ e same. subst (λ b. Starts (b ∷ bs) l rest) (sym (eqb-true c 64 e)) (alternative_found bs rest l same))
    (λ same. absurd cc)))))))))))))

pub computed_starts : (bytes rest : List ℕ) (l : Lexeme) → lexeme_at bytes ≡ Some (l, rest) → Starts bytes l rest
computed_starts [] rest l h = absurd cc
computed_starts (c ∷ bs) rest l h =
    test_step (Starts (c ∷ bs) l rest) (is_lower c) (word_at (c ∷ bs)) (mark_at c bs) (found l rest) h
    (λ low same. word_found (c ∷ bs) rest l c bs refl low same)
    (λ same. mark_found c bs rest l same)
