-- What is written of clauses is read again.
use Rattle.std.proofs.Common.{◌≡◌, refl, sym, ap, ◌∙◌, ℕ, suc, ◌+◌, ◌≤◌, Bool, true, false, not, cond, List, [], ◌∷◌, ◌++◌, length, map, filter, Option, Some, None, option_map, option_and_then, Ok, Err, ◌≢◌, ne_eqb, append_assoc, append-nil, arith, le-leb}
use Rattle.std.proofs.lemmas.Bool.{false≢true, eq-eqb, leb-true, not-true, and_from, and_parts}
use Rattle.std.proofs.lemmas.List.Folds.{list_all-append}
use Rattle.std.proofs.lemmas.List.Sums.{sum_by-append, sum_by-cons}
use Rattle.std.proofs.lemmas.List.Splits.{slice_split-cons_yes, slice_split-cons_no}
use Rattle.std.specs.Prelude.{◌==◌, ◌&&◌, ◌||◌, nat_lt, nat_le, sum_by, codes}
use Rattle.std.specs.List.{list_all, flat_map, slice_split, onto_first}
use Rattle.vocab.specs.Name.{is_digit}
use Rattle.cnf.specs.Signed.{Signed}
use Rattle.cnf.specs.Sat.{Clause}
use Rattle.cnf.specs.Fresh.{is_over}
use Rattle.verdicts.specs.Numbers.{number_text, is_number, number_within}
use Rattle.verdicts.proofs.NumberLaws.{number_digits, text_is_number, number_again}
use Rattle.clause_text.specs.declared.faults.CnfFault.TheVariants as fault
use Rattle.clause_text.specs.Words.{WordedLine, is_blank, is_comment, words_in_line, Token, Ends, Says, token_of, minus_token, plain_token}
use Rattle.clause_text.specs.Dimacs.{signed_text, clause_text, dimacs_text}
use Rattle.clause_text.specs.ReadDimacs.{header_of, placed_words, at_word, is_full_for, clauses_from, with_variables, after_header, read_lines, read_dimacs}
use Rattle.clause_text.specs.Left.{saying}
use Rattle.clause_text.proofs.WordLemmas.{is_end, keeps, said_first, unsaid_first}
use Rattle.clause_text.proofs.ReadingLemmas.{lt_false}
use Rattle.std.proofs.lemmas.List.{length_push}
use Rattle.lists.proofs.TestLaws.{all_weaker}

-- ---- bytes

-- a byte of a word
abbrev is_plain : ℕ → Bool
is_plain c = not (is_blank c) && not (is_end c)

digit_plain : (c : ℕ) → is_digit c ≡ true → is_plain c ≡ true
digit_plain c h =
    let low : 48 ≤ c = leb-true 48 c (and_parts (nat_le 48 c) (nat_le c 57) h).0 in
    let tab : c ≢ 9 = omega (arith, low) in
    let ret : c ≢ 13 = omega (arith, low) in
    let space : c ≢ 32 = omega (arith, low) in
    let line : c ≢ 10 = omega (arith, low) in
    rw (ne_eqb c 9 tab, ne_eqb c 13 ret, ne_eqb c 32 space, ne_eqb c 10 line) refl

abbrev pub some_bytes : List ℕ → Bool
some_bytes [] = false
some_bytes (c ∷ cs) = true

pub number_plain : (n : ℕ) → list_all is_plain (number_text n) ≡ true
number_plain n = all_weaker is_digit is_plain digit_plain (number_text n) (number_digits n)

pub number_some : (n : ℕ) → some_bytes (number_text n) ≡ true
number_some n = by_text (number_text n) (text_is_number n)
  where
    by_text : (text : List ℕ) → is_number text ≡ true → some_bytes text ≡ true
    by_text [] h = h
    by_text (c ∷ cs) h = refl

pub literal_plain : (l : Signed) → list_all is_plain (signed_text l) ≡ true
literal_plain l = by_sign l.positive
  where
    by_sign : (t : Bool) → list_all is_plain (cond t (number_text l.variable) (45 ∷ number_text l.variable)) ≡ true
    by_sign true = number_plain l.variable
    by_sign false = number_plain l.variable

pub literal_some : (l : Signed) → some_bytes (signed_text l) ≡ true
literal_some l = by_sign l.positive
  where
    by_sign : (t : Bool) → some_bytes (cond t (number_text l.variable) (45 ∷ number_text l.variable)) ≡ true
    by_sign true = number_some l.variable
    by_sign false = refl

-- ---- parts

module _ (p : ℕ → Bool) where
  pub split_off : (part : List ℕ) (c : ℕ) (rest : List ℕ) → list_all (λ b. not (p b)) part ≡ true → p c ≡ true → slice_split p (part ++ c ∷ rest) ≡ part ∷ slice_split p rest
  split_off [] c rest h e = slice_split-cons_yes p c rest e
  split_off (b ∷ part) c rest h e =
      slice_split-cons_no p b (part ++ c ∷ rest) (not-true (p b) (and_parts (not (p b)) (list_all (λ b. not (p b)) part) h).0)
      ∙ ap (onto_first b) (split_off part c rest (and_parts (not (p b)) (list_all (λ b. not (p b)) part) h).1 e)

  split_last : (part : List ℕ) → list_all (λ b. not (p b)) part ≡ true → slice_split p part ≡ part ∷ []
  split_last [] h = refl
  split_last (b ∷ part) h =
      slice_split-cons_no p b part (not-true (p b) (and_parts (not (p b)) (list_all (λ b. not (p b)) part) h).0)
      ∙ ap (onto_first b) (split_last part (and_parts (not (p b)) (list_all (λ b. not (p b)) part) h).1)

plain_word : (text : List ℕ) → list_all is_plain text ≡ true → list_all (λ b. not (is_blank b)) text ≡ true
plain_word text h = all_weaker is_plain (λ b. not (is_blank b)) (λ c e. (and_parts (not (is_blank c)) (not (is_end c)) e).0) text h

pub plain_line : (text : List ℕ) → list_all is_plain text ≡ true → list_all (λ b. not (is_end b)) text ≡ true
plain_line text h = all_weaker is_plain (λ b. not (is_end b)) (λ c e. (and_parts (not (is_blank c)) (not (is_end c)) e).1) text h

-- a word with a blank after it
pub one_word : (word rest : List ℕ) → some_bytes word ≡ true → list_all is_plain word ≡ true → words_in_line (word ++ 32 ∷ rest) ≡ word ∷ words_in_line rest
one_word [] rest some plain = absurd (false≢true some)
one_word (c ∷ x) rest some plain =
    ap (filter (λ (w : List ℕ). not (length w == 0))) (split_off is_blank (c ∷ x) 32 rest (plain_word (c ∷ x) plain) refl)
    ∙ keeps c x (slice_split is_blank rest)

-- a word alone
pub last_word : (word : List ℕ) → some_bytes word ≡ true → list_all is_plain word ≡ true → words_in_line word ≡ word ∷ []
last_word [] some plain = absurd (false≢true some)
last_word (c ∷ x) some plain =
    ap (filter (λ (w : List ℕ). not (length w == 0))) (split_last is_blank (c ∷ x) (plain_word (c ∷ x) plain))
    ∙ keeps c x []

-- ---- clauses

pub clause_front : (l : Signed) (ls : Clause) → clause_text (l ∷ ls) ≡ signed_text l ++ 32 ∷ clause_text ls
clause_front l ls =
    let more : List ℕ = flat_map (λ (l : Signed). signed_text l ++ 32 ∷ []) ls in
    append_assoc (signed_text l ++ 32 ∷ []) more (48 ∷ []) ∙ append_assoc (signed_text l) (32 ∷ []) (more ++ 48 ∷ [])

clause_words : (clause : Clause) → words_in_line (clause_text clause) ≡ map signed_text clause ++ (48 ∷ []) ∷ []
clause_words [] = refl
clause_words (l ∷ ls) =
    ap words_in_line (clause_front l ls) ∙ one_word (signed_text l) (clause_text ls) (literal_some l) (literal_plain l) ∙ ap (λ (ws : List (List ℕ)). signed_text l ∷ ws) (clause_words ls)

pub clause_line : (clause : Clause) → list_all (λ b. not (is_end b)) (clause_text clause) ≡ true
clause_line [] = refl
clause_line (l ∷ ls) =
    ap (list_all (λ b. not (is_end b))) (clause_front l ls)
    ∙ list_all-append (λ b. not (is_end b)) (signed_text l) (32 ∷ clause_text ls)
    ∙ and_from (list_all (λ b. not (is_end b)) (signed_text l)) (list_all (λ b. not (is_end b)) (clause_text ls)) (plain_line (signed_text l) (literal_plain l)) (clause_line ls)

-- ---- words of clauses

-- a word of digits has no sign
unsigned : (v : ℕ) (text : List ℕ) → some_bytes text ≡ true → list_all is_digit text ≡ true → token_of v text ≡ plain_token (number_within 0 v text)
unsigned v [] some digits = absurd (false≢true some)
unsigned v (c ∷ cs) some digits =
    let low : 48 ≤ c = leb-true 48 c (and_parts (nat_le 48 c) (nat_le c 57) (and_parts (is_digit c) (list_all is_digit cs) digits).0).0 in
    let sign : c ≢ 45 = omega (arith, low) in
    ap (λ (t : Bool). cond t (minus_token (number_within 0 v cs)) (plain_token (number_within 0 v (c ∷ cs)))) (ne_eqb c 45 sign)

pub literal_token : (v : ℕ) (l : Signed) → (nat_le 1 l.variable && nat_le l.variable v) ≡ true → token_of v (signed_text l) ≡ Some (Says l)
literal_token v l within = by_sign l.positive refl
  where
    some : l.variable ≢ 0
    some = let low : 1 ≤ l.variable = leb-true 1 l.variable (and_parts (nat_le 1 l.variable) (nat_le l.variable v) within).0 in omega (arith, low)

    few : l.variable ≤ v
    few = leb-true l.variable v (and_parts (nat_le 1 l.variable) (nat_le l.variable v) within).1

    by_sign : (t : Bool) → l.positive ≡ t → token_of v (cond t (number_text l.variable) (45 ∷ number_text l.variable)) ≡ Some (Says l)
    by_sign true is =
        unsigned v (number_text l.variable) (number_some l.variable) (number_digits l.variable)
        ∙ ap plain_token (number_again 0 v l.variable (omega arith) few)
        ∙ ap (λ (t : Bool). cond t (Some Ends) (Some (Says (record { variable = l.variable; positive = true })))) (ne_eqb l.variable 0 some)
        ∙ ap (λ (t : Bool). Some (Says (record { variable = l.variable; positive = t }))) (sym is)
    by_sign false is =
        ap minus_token (number_again 0 v l.variable (omega arith) few)
        ∙ ap (λ (t : Bool). cond t None (Some (Says (record { variable = l.variable; positive = false })))) (ne_eqb l.variable 0 some)
        ∙ ap (λ (t : Bool). Some (Says (record { variable = l.variable; positive = t }))) (sym is)

pub end_token : (v : ℕ) → token_of v (48 ∷ []) ≡ Some Ends
end_token v = let low : 0 ≤ v = omega arith in ap (λ (t : Bool). plain_token (cond t (Some 0) None)) (le-leb 0 v low)

module _ (v count n : ℕ) (whole : Clause) (done : List Clause) (rest : List (ℕ × List ℕ)) (room : is_full_for done whole ≡ false) where
  -- the words of a clause end it
  take_clause : (c begun : Clause) → whole ≡ begun ++ c → is_over v c ≡ true
      → clauses_from v count (map (λ (w : List ℕ). (n, w)) (map signed_text c ++ (48 ∷ []) ∷ []) ++ rest) done begun ≡ clauses_from v count rest (done ++ whole ∷ []) []
  take_clause [] begun same over =
      ap (λ (t : Option Token). at_word n done begun t (clauses_from v count rest)) (end_token v)
      ∙ ap (λ (b : Clause). cond (is_full_for done b) (Err fault.Full) (clauses_from v count rest (done ++ b ∷ []) [])) (sym (same ∙ append-nil begun))
      ∙ ap (λ (t : Bool). cond t (Err fault.Full) (clauses_from v count rest (done ++ whole ∷ []) [])) room
  take_clause (l ∷ ls) begun same over =
      ap (λ (t : Option Token). at_word n done begun t (clauses_from v count (map (λ (w : List ℕ). (n, w)) (map signed_text ls ++ (48 ∷ []) ∷ []) ++ rest)))
      (literal_token v l (and_parts (nat_le 1 l.variable && nat_le l.variable v) (is_over v ls) over).0)
      ∙ take_clause ls (begun ++ l ∷ []) (same ∙ sym (append_assoc begun (l ∷ []) ls)) (and_parts (nat_le 1 l.variable && nat_le l.variable v) (is_over v ls) over).1

-- ---- lines of clauses

-- the lines of clauses, with what stands behind the last line end
abbrev lines_of : List Clause → List (List ℕ)
lines_of [] = [] ∷ []
lines_of (c ∷ cs) = clause_text c ∷ lines_of cs

body_lines : (clauses : List Clause) → slice_split is_end (flat_map (λ (c : Clause). clause_text c ++ 10 ∷ []) clauses) ≡ lines_of clauses
body_lines [] = refl
body_lines (c ∷ cs) =
    let more : List ℕ = flat_map (λ (c : Clause). clause_text c ++ 10 ∷ []) cs in
    ap (slice_split is_end) (append_assoc (clause_text c) (10 ∷ []) more)
    ∙ split_off is_end (clause_text c) 10 more (clause_line c) refl
    ∙ ap (λ (ls : List (List ℕ)). clause_text c ∷ ls) (body_lines cs)

pub digits_say : (text rest : List ℕ) → some_bytes text ≡ true → list_all is_digit text ≡ true → is_comment (text ++ rest) ≡ false
digits_say [] rest some digits = absurd (false≢true some)
digits_say (c ∷ cs) rest some digits =
    let high : c ≤ 57 = leb-true c 57 (and_parts (nat_le 48 c) (nat_le c 57) (and_parts (is_digit c) (list_all is_digit cs) digits).0).1 in
    let other : c ≢ 99 = omega (arith, high) in
    ne_eqb c 99 other

literal_says : (l : Signed) (rest : List ℕ) → is_comment (signed_text l ++ rest) ≡ false
literal_says l rest = by_sign l.positive
  where
    by_sign : (t : Bool) → is_comment (cond t (number_text l.variable) (45 ∷ number_text l.variable) ++ rest) ≡ false
    by_sign true = digits_say (number_text l.variable) rest (number_some l.variable) (number_digits l.variable)
    by_sign false = refl

clause_says : (c : Clause) → (not (is_comment (clause_text c)) && not (length (words_in_line (clause_text c)) == 0)) ≡ true
clause_says c = and_from (not (is_comment (clause_text c))) (not (length (words_in_line (clause_text c)) == 0)) (ap not (comment c)) (ap (λ (ws : List (List ℕ)). not (length ws == 0)) (clause_words c) ∙ some c)
  where
    comment : (c : Clause) → is_comment (clause_text c) ≡ false
    comment [] = refl
    comment (l ∷ ls) = ap is_comment (clause_front l ls) ∙ literal_says l (32 ∷ clause_text ls)

    some : (c : Clause) → not (length (map signed_text c ++ (48 ∷ []) ∷ []) == 0) ≡ true
    some [] = refl
    some (l ∷ ls) =
        let more : suc (length (map signed_text ls ++ (48 ∷ []) ∷ [])) ≢ 0 = omega arith in
        ap not (ne_eqb (suc (length (map signed_text ls ++ (48 ∷ []) ∷ []))) 0 more)

room_for : (done : List Clause) (c : Clause) → length done + 1 ≤ 4000000 → sum_by length done + length c ≤ 60000000 → is_full_for done c ≡ false
room_for done c few short =
    ap (λ (t : Bool). t || nat_lt 60000000 (sum_by length done + length c)) (lt_false 4000000 (length done + 1) (λ h. omega (arith, few, h)))
    ∙ lt_false 60000000 (sum_by length done + length c) (λ h. omega (arith, short, h))

sum_more : (done : List Clause) (c : Clause) → sum_by length (done ++ c ∷ []) ≡ sum_by length done + length c
sum_more done c =
    let one : sum_by length (c ∷ []) ≡ length c + 0 = sum_by-cons length c [] in
    let all : sum_by length (done ++ c ∷ []) ≡ sum_by length done + sum_by length (c ∷ []) = sum_by-append length done (c ∷ []) in
    omega (arith, one, all)

module _ (v count : ℕ) where
  body_read : (n : ℕ) (cs done : List Clause) → list_all (is_over v) cs ≡ true → length done + length cs ≤ 4000000 → sum_by length done + sum_by length cs ≤ 60000000 → count ≡ length done + length cs
      → clauses_from v count (placed_words (saying n (lines_of cs))) done [] ≡ Ok (done ++ cs)
  body_read n [] done over few short is =
      let all : length done ≡ count = omega (arith, is) in
      ap (λ (t : Bool). cond t (Ok done) (Err (fault.Count (length done)))) (and_from (length done == count) true (eq-eqb (length done) count all) refl)
      ∙ ap (λ (cs : List Clause). Ok cs) (sym (append-nil done))
  body_read n (c ∷ cs) done over few short is =
      let more : length (done ++ c ∷ []) ≡ length done + 1 = length_push done c in
      let sum : sum_by length (done ++ c ∷ []) ≡ sum_by length done + length c = sum_more done c in
      let here : sum_by length (c ∷ cs) ≡ length c + sum_by length cs = sum_by-cons length c cs in
      let few' : length (done ++ c ∷ []) + length cs ≤ 4000000 = omega (arith, more, few) in
      let short' : sum_by length (done ++ c ∷ []) + sum_by length cs ≤ 60000000 = omega (arith, sum, here, short) in
      let is' : count ≡ length (done ++ c ∷ []) + length cs = omega (arith, more, is) in
      let one : length done + 1 ≤ 4000000 = omega (arith, few) in
      let fits : sum_by length done + length c ≤ 60000000 = omega (arith, here, short) in
      ap (λ (ls : List WordedLine). clauses_from v count (placed_words ls) done []) (said_first n (clause_text c) (lines_of cs) (clause_says c))
      ∙ ap (λ (ws : List (List ℕ)). clauses_from v count (map (λ (w : List ℕ). (n, w)) ws ++ placed_words (saying (n + 1) (lines_of cs))) done []) (clause_words c)
      ∙ take_clause v count n c done (placed_words (saying (n + 1) (lines_of cs))) (room_for done c one fits) c [] refl (and_parts (is_over v c) (list_all (is_over v) cs) over).0
      ∙ body_read (n + 1) cs (done ++ c ∷ []) (and_parts (is_over v c) (list_all (is_over v) cs) over).1 few' short' is'
      ∙ ap (λ (all : List Clause). Ok all) (append_assoc done (c ∷ []) cs)

-- ---- the header

regrouped : (a b c d e f g h : List ℕ) → ((((((a ++ b) ++ c) ++ d) ++ e) ++ f) ++ g) ++ h ≡ a ++ (b ++ (c ++ (d ++ (e ++ (f ++ (g ++ h))))))
regrouped a b c d e f g h = simp append_assoc

module _ (head : List ℕ) (v : ℕ) (clauses : List Clause) where
  abbrev body : List ℕ
  body = flat_map (λ (c : Clause). clause_text c ++ 10 ∷ []) clauses

  abbrev header : List ℕ
  header = codes "p" ++ 32 ∷ (codes "cnf" ++ 32 ∷ (number_text v ++ 32 ∷ number_text (length clauses)))

  header_words : words_in_line header ≡ codes "p" ∷ codes "cnf" ∷ number_text v ∷ number_text (length clauses) ∷ []
  header_words =
      one_word (codes "p") (codes "cnf" ++ 32 ∷ (number_text v ++ 32 ∷ number_text (length clauses))) refl refl
      ∙ ap (λ (ws : List (List ℕ)). codes "p" ∷ ws) (one_word (codes "cnf") (number_text v ++ 32 ∷ number_text (length clauses)) refl refl
      ∙ ap (λ (ws : List (List ℕ)). codes "cnf" ∷ ws) (one_word (number_text v) (number_text (length clauses)) (number_some v) (number_plain v)
      ∙ ap (λ (ws : List (List ℕ)). number_text v ∷ ws) (last_word (number_text (length clauses)) (number_some (length clauses)) (number_plain (length clauses)))))

  grouped : dimacs_text head v clauses ≡ codes "c bench export 1" ++ 10 ∷ ((codes "c " ++ head) ++ 10 ∷ (header ++ 10 ∷ body))
  grouped =
      regrouped (codes "c bench export 1\nc ") head (codes "\np cnf ") (number_text v) (codes " ") (number_text (length clauses)) (codes "\n") body
      ∙ ap (λ (rest : List ℕ). codes "c bench export 1\nc " ++ (head ++ (codes "\np cnf " ++ rest))) (sym (append_assoc (number_text v) (32 ∷ number_text (length clauses)) (10 ∷ body)))

  header_line : list_all (λ b. not (is_end b)) header ≡ true
  header_line =
      list_all-append (λ b. not (is_end b)) (number_text v) (32 ∷ number_text (length clauses))
      ∙ and_from _ _ (plain_line (number_text v) (number_plain v)) (plain_line (number_text (length clauses)) (number_plain (length clauses)))

  text_lines : list_all (λ b. not (is_end b)) head ≡ true → slice_split is_end (dimacs_text head v clauses) ≡ codes "c bench export 1" ∷ (codes "c " ++ head) ∷ header ∷ lines_of clauses
  text_lines one_line =
      ap (slice_split is_end) grouped
      ∙ split_off is_end (codes "c bench export 1") 10 ((codes "c " ++ head) ++ 10 ∷ (header ++ 10 ∷ body)) refl refl
      ∙ ap (λ (ls : List (List ℕ)). codes "c bench export 1" ∷ ls) (split_off is_end (codes "c " ++ head) 10 (header ++ 10 ∷ body) one_line refl
      ∙ ap (λ (ls : List (List ℕ)). (codes "c " ++ head) ∷ ls) (split_off is_end header 10 body header_line refl
      ∙ ap (λ (ls : List (List ℕ)). header ∷ ls) (body_lines clauses)))

  header_says : (not (is_comment header) && not (length (words_in_line header) == 0)) ≡ true
  header_says = ap (λ (ws : List (List ℕ)). not (length ws == 0)) header_words

  sizes_again : v ≤ 10000000 → length clauses ≤ 4000000 → header_of (words_in_line header) ≡ Some (v, length clauses)
  sizes_again few short =
      let fits : length clauses ≤ 4294967295 = omega (arith, short) in
      ap header_of header_words
      ∙ ap (λ (read : Option ℕ). option_and_then (λ (variables : ℕ). option_map (λ (count : ℕ). (variables, count)) (number_within 0 4294967295 (number_text (length clauses)))) read) (number_again 0 10000000 v (omega arith) few)
      ∙ ap (λ (read : Option ℕ). option_map (λ (count : ℕ). (v, count)) read) (number_again 0 4294967295 (length clauses) (omega arith) fits)

  -- the clauses are read as they were written
  pub written_is_read : list_all (λ b. not (is_end b)) head ≡ true → v ≤ 10000000 → length clauses ≤ 4000000 → sum_by length clauses ≤ 60000000 → list_all (is_over v) clauses ≡ true
      → read_dimacs (dimacs_text head v clauses) ≡ Ok (record { variables = v; clauses = clauses })
  written_is_read one_line few short light over =
      let few' : 0 + length clauses ≤ 4000000 = omega (arith, short) in
      let light' : 0 + sum_by length clauses ≤ 60000000 = omega (arith, light) in
      let is : length clauses ≡ 0 + length clauses = omega arith in
      ap (λ (ls : List (List ℕ)). read_lines (saying 1 ls)) (text_lines one_line)
      ∙ ap read_lines (unsaid_first 1 (codes "c bench export 1") ((codes "c " ++ head) ∷ header ∷ lines_of clauses) refl
      ∙ unsaid_first 2 (codes "c " ++ head) (header ∷ lines_of clauses) refl
      ∙ said_first 3 header (lines_of clauses) header_says)
      ∙ ap (λ (sizes : Option (ℕ × ℕ)). after_header sizes (saying 4 (lines_of clauses))) (sizes_again few short)
      ∙ ap (with_variables v) (body_read v (length clauses) 4 clauses [] over few' light' is)
