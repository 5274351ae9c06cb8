-- What is written of a derivation is read again.
use Rattle.std.proofs.Common.{◌≡◌, refl, sym, ap, ap₂, ◌∙◌, ℕ, suc, ◌+◌, ◌≤◌, Bool, true, false, not, cond, List, [], ◌∷◌, ◌++◌, length, map, Option, Some, option_map, option_and_then, Ok, ◌≢◌, ne_eqb, append_assoc, arith}
use Rattle.std.proofs.lemmas.Bool.{false≢true, leb-true, and_from, and_parts}
use Rattle.std.proofs.lemmas.List.Folds.{list_all-append}
use Rattle.std.specs.Prelude.{◌==◌, ◌&&◌, ◌||◌, nat_le, codes}
use Rattle.std.specs.List.{list_all, flat_map, slice_split}
use Rattle.std.specs.Str.{bytes_eq}
use Rattle.vocab.specs.Name.{is_digit}
use Rattle.cnf.specs.Signed.{Signed}
use Rattle.cnf.specs.Sat.{Clause}
use Rattle.cnf.specs.Fresh.{is_over}
use Rattle.cnf.specs.declared.derivations.Line.{Line}
use Rattle.cnf.specs.declared.derivations.Step.{Step}
use Rattle.cnf.specs.declared.derivations.Step.TheVariants.{Add, Drop}
use Rattle.verdicts.specs.Numbers.{number_text, number_within}
use Rattle.verdicts.proofs.NumberLaws.{number_digits, number_again}
use Rattle.clause_text.specs.declared.steps.Told.{Told}
use Rattle.clause_text.specs.declared.steps.Told.TheVariants.{Read}
use Rattle.clause_text.specs.Words.{is_comment, words_in_line, Token}
use Rattle.clause_text.specs.Dimacs.{signed_text, clause_text}
use Rattle.clause_text.specs.Lrat.{hints_text, step_text, lrat_text}
use Rattle.clause_text.specs.ReadLrat.{most_id, id_of, hint_of, hints_of, after_token, literals_read, added_clause, adding, dropping, ids_of, told, before_rest, steps_of, read_lrat}
use Rattle.clause_text.specs.Left.{saying}
use Rattle.clause_text.specs.Laws.{is_id, adds_in_range, placed_from}
use Rattle.clause_text.proofs.WordLemmas.{is_end, said_first}
use Rattle.clause_text.proofs.RoundLemmas.{some_bytes, number_plain, number_some, literal_some, literal_plain, split_off, one_word, plain_line, clause_front, clause_line, literal_token, end_token, digits_say}

-- ---- the words of a line

clause_words_then : (clause : Clause) (rest : List ℕ) → words_in_line (clause_text clause ++ 32 ∷ rest) ≡ map signed_text clause ++ (48 ∷ []) ∷ words_in_line rest
clause_words_then [] rest = one_word (48 ∷ []) rest refl refl
clause_words_then (l ∷ ls) rest =
    ap (λ (text : List ℕ). words_in_line (text ++ 32 ∷ rest)) (clause_front l ls)
    ∙ ap words_in_line (append_assoc (signed_text l) (32 ∷ clause_text ls) (32 ∷ rest))
    ∙ one_word (signed_text l) (clause_text ls ++ 32 ∷ rest) (literal_some l) (literal_plain l)
    ∙ ap (λ (ws : List (List ℕ)). signed_text l ∷ ws) (clause_words_then ls rest)

hints_front : (h : ℕ) (hs : List ℕ) → hints_text (h ∷ hs) ≡ number_text h ++ 32 ∷ hints_text hs
hints_front h hs =
    let more : List ℕ = flat_map (λ (id : ℕ). number_text id ++ 32 ∷ []) hs in
    append_assoc (number_text h ++ 32 ∷ []) more (48 ∷ []) ∙ append_assoc (number_text h) (32 ∷ []) (more ++ 48 ∷ [])

hint_words : (hints : List ℕ) → words_in_line (hints_text hints) ≡ map number_text hints ++ (48 ∷ []) ∷ []
hint_words [] = refl
hint_words (h ∷ hs) =
    ap words_in_line (hints_front h hs) ∙ one_word (number_text h) (hints_text hs) (number_some h) (number_plain h) ∙ ap (λ (ws : List (List ℕ)). number_text h ∷ ws) (hint_words hs)

hint_line : (hints : List ℕ) → list_all (λ b. not (is_end b)) (hints_text hints) ≡ true
hint_line [] = refl
hint_line (h ∷ hs) =
    ap (list_all (λ b. not (is_end b))) (hints_front h hs)
    ∙ list_all-append (λ b. not (is_end b)) (number_text h) (32 ∷ hints_text hs)
    ∙ and_from (list_all (λ b. not (is_end b)) (number_text h)) (list_all (λ b. not (is_end b)) (hints_text hs)) (plain_line (number_text h) (number_plain h)) (hint_line hs)

-- ---- ids, hints and literals

id_again : (n : ℕ) → is_id n ≡ true → id_of (number_text n) ≡ Some n
id_again n within =
    let low : 1 ≤ n = leb-true 1 n (and_parts (nat_le 1 n) (nat_le n most_id) within).0 in
    let high : n ≤ most_id = leb-true n most_id (and_parts (nat_le 1 n) (nat_le n most_id) within).1 in
    number_again 1 most_id n low high

-- a hint of digits has no sign
plain_hint : (text : List ℕ) → some_bytes text ≡ true → list_all is_digit text ≡ true → hint_of text ≡ option_map (λ (id : ℕ). (false, id)) (id_of text)
plain_hint [] some digits = absurd (false≢true some)
plain_hint (c ∷ cs) some digits =
    let low : 48 ≤ c = leb-true 48 c (and_parts (nat_le 48 c) (nat_le c 57) (and_parts (is_digit c) (list_all is_digit cs) digits).0).0 in
    let sign : c ≢ 45 = omega (arith, low) in
    ap (λ (t : Bool). cond t (option_map (λ (id : ℕ). (true, id)) (id_of cs)) (option_map (λ (id : ℕ). (false, id)) (id_of (c ∷ cs)))) (ne_eqb c 45 sign)

hint_again : (n : ℕ) → is_id n ≡ true → hint_of (number_text n) ≡ Some (false, n)
hint_again n within = plain_hint (number_text n) (number_some n) (number_digits n) ∙ ap (option_map (λ (id : ℕ). (false, id))) (id_again n within)

one_hint : (word : List ℕ) (tail : List (List ℕ)) (next : List ℕ) (rest : List (List ℕ)) (id : ℕ) (ids : List ℕ) → tail ≡ next ∷ rest → hint_of word ≡ Some (false, id) → hints_of tail ≡ Some (false, ids) → hints_of (word ∷ tail) ≡ Some (false, id ∷ ids)
one_hint word tail next rest id ids is here more =
    ap (λ (ws : List (List ℕ)). hints_of (word ∷ ws)) is
    ∙ ap (λ (hint : Option (Bool × ℕ)). option_and_then (λ (hint : Bool × ℕ). option_map (λ (hints : Bool × List ℕ). (hint.0 || hints.0, hint.1 ∷ hints.1)) (hints_of (next ∷ rest))) hint) here
    ∙ ap (λ (hints : Option (Bool × List ℕ)). option_map (λ (hints : Bool × List ℕ). (false || hints.0, id ∷ hints.1)) hints) (ap hints_of (sym is) ∙ more)

hints_again : (hints : List ℕ) → list_all is_id hints ≡ true → hints_of (map number_text hints ++ (48 ∷ []) ∷ []) ≡ Some (false, hints)
hints_again [] within = refl
hints_again (h ∷ []) within = one_hint (number_text h) ((48 ∷ []) ∷ []) (48 ∷ []) [] h [] refl (hint_again h (and_parts (is_id h) true within).0) refl
hints_again (h ∷ k ∷ ks) within =
    one_hint (number_text h) (map number_text (k ∷ ks) ++ (48 ∷ []) ∷ []) (number_text k) (map number_text ks ++ (48 ∷ []) ∷ []) h (k ∷ ks) refl
    (hint_again h (and_parts (is_id h) (list_all is_id (k ∷ ks)) within).0) (hints_again (k ∷ ks) (and_parts (is_id h) (list_all is_id (k ∷ ks)) within).1)

literals_again : (v : ℕ) (clause : Clause) (rest : List (List ℕ)) → is_over v clause ≡ true → literals_read v (map signed_text clause ++ (48 ∷ []) ∷ rest) ≡ Some (clause, rest)
literals_again v [] rest over = ap (λ (t : Option Token). after_token t rest (literals_read v rest)) (end_token v)
literals_again v (l ∷ ls) rest over =
    ap (λ (t : Option Token). after_token t (map signed_text ls ++ (48 ∷ []) ∷ rest) (literals_read v (map signed_text ls ++ (48 ∷ []) ∷ rest)))
    (literal_token v l (and_parts (nat_le 1 l.variable && nat_le l.variable v) (is_over v ls) over).0)
    ∙ ap (λ (found : Option (Clause × List (List ℕ))). option_map (λ (found : Clause × List (List ℕ)). (l ∷ found.0, found.1)) found) (literals_again v ls rest (and_parts (nat_le 1 l.variable && nat_le l.variable v) (is_over v ls) over).1)

-- a literal is not the word `d`
digits_no_d : (text : List ℕ) → some_bytes text ≡ true → list_all is_digit text ≡ true → bytes_eq text (codes "d") ≡ false
digits_no_d [] some digits = absurd (false≢true some)
digits_no_d (c ∷ cs) some digits =
    let high : c ≤ 57 = leb-true c 57 (and_parts (nat_le 48 c) (nat_le c 57) (and_parts (is_digit c) (list_all is_digit cs) digits).0).1 in
    let other : c ≢ 100 = omega (arith, high) in
    ap (λ (t : Bool). t && bytes_eq cs []) (ne_eqb c 100 other)

literal_no_d : (l : Signed) → bytes_eq (signed_text l) (codes "d") ≡ false
literal_no_d l = by_sign l.positive
  where
    by_sign : (t : Bool) → bytes_eq (cond t (number_text l.variable) (45 ∷ number_text l.variable)) (codes "d") ≡ false
    by_sign true = digits_no_d (number_text l.variable) (number_some l.variable) (number_digits l.variable)
    by_sign false = refl

-- ---- lines

module _ (v id : ℕ) (clause : Clause) (hints : List ℕ) where
  abbrev pub added_line : List ℕ
  added_line = number_text id ++ 32 ∷ (clause_text clause ++ 32 ∷ hints_text hints)

  abbrev after_id : List (List ℕ)
  after_id = map signed_text clause ++ (48 ∷ []) ∷ (map number_text hints ++ (48 ∷ []) ∷ [])

  added_words : words_in_line added_line ≡ number_text id ∷ after_id
  added_words =
      one_word (number_text id) (clause_text clause ++ 32 ∷ hints_text hints) (number_some id) (number_plain id)
      ∙ ap (λ (ws : List (List ℕ)). number_text id ∷ ws) (clause_words_then clause (hints_text hints)
      ∙ ap (λ (ws : List (List ℕ)). map signed_text clause ++ (48 ∷ []) ∷ ws) (hint_words hints))

  added_one_line : list_all (λ b. not (is_end b)) added_line ≡ true
  added_one_line =
      list_all-append (λ b. not (is_end b)) (number_text id) (32 ∷ (clause_text clause ++ 32 ∷ hints_text hints))
      ∙ and_from (list_all (λ b. not (is_end b)) (number_text id)) (list_all (λ b. not (is_end b)) (clause_text clause ++ 32 ∷ hints_text hints)) (plain_line (number_text id) (number_plain id))
      (list_all-append (λ b. not (is_end b)) (clause_text clause) (32 ∷ hints_text hints)
      ∙ and_from (list_all (λ b. not (is_end b)) (clause_text clause)) (list_all (λ b. not (is_end b)) (hints_text hints)) (clause_line clause) (hint_line hints))

  added_says : (not (is_comment added_line) && not (length (words_in_line added_line) == 0)) ≡ true
  added_says =
      let more : suc (length after_id) ≢ 0 = omega arith in
      and_from (not (is_comment added_line)) (not (length (words_in_line added_line) == 0))
      (ap not (digits_say (number_text id) (32 ∷ (clause_text clause ++ 32 ∷ hints_text hints)) (number_some id) (number_digits id)))
      (ap (λ (ws : List (List ℕ)). not (length ws == 0)) added_words ∙ ap not (ne_eqb (suc (length after_id)) 0 more))

  by_second : (clause' : Clause) (rest : List (List ℕ)) → told v (number_text id ∷ (map signed_text clause' ++ (48 ∷ []) ∷ rest)) ≡ adding (id_of (number_text id)) (literals_read v (map signed_text clause' ++ (48 ∷ []) ∷ rest))
  by_second [] rest = refl
  by_second (l ∷ ls) rest =
      ap (λ (t : Bool). cond t (dropping (number_within 0 most_id (number_text id)) (ids_of (map signed_text ls ++ (48 ∷ []) ∷ rest))) (adding (id_of (number_text id)) (literals_read v (map signed_text (l ∷ ls) ++ (48 ∷ []) ∷ rest)))) (literal_no_d l)

  told_again : is_id id ≡ true → is_over v clause ≡ true → list_all is_id hints ≡ true → told v (words_in_line added_line) ≡ Read (Add id clause hints)
  told_again fits over within =
      ap (told v) added_words ∙ by_second clause (map number_text hints ++ (48 ∷ []) ∷ [])
      ∙ ap₂ adding (id_again id fits) (literals_again v clause (map number_text hints ++ (48 ∷ []) ∷ []) over)
      ∙ ap (added_clause id clause) (hints_again hints within)

  regrouped : (rest : List ℕ) → step_text (Add id clause hints) ++ rest ≡ added_line ++ 10 ∷ rest
  regrouped rest = same (number_text id) (clause_text clause) (hints_text hints)
    where
      same : (a b c : List ℕ) → (((a ++ 32 ∷ b) ++ 32 ∷ c) ++ 10 ∷ []) ++ rest ≡ (a ++ 32 ∷ (b ++ 32 ∷ c)) ++ 10 ∷ rest
      same a b c = simp append_assoc

module _ (v : ℕ) where
  step_read : (n : ℕ) (step : Step) (lines : List Line) → adds_in_range v step ≡ true → steps_of v (saying (n + 1) (slice_split is_end (lrat_text lines))) ≡ Ok (placed_from (n + 1) lines)
      → steps_of v (saying n (slice_split is_end (step_text step ++ lrat_text lines))) ≡ Ok (record { at = n; step = step } ∷ placed_from (n + 1) lines)
  step_read n (Drop ids) lines here later = absurd (false≢true here)
  step_read n (Add id clause hints) lines here later =
      let fits : is_id id ≡ true = (and_parts (is_id id) (is_over v clause && list_all is_id hints) here).0 in
      let rest : (is_over v clause && list_all is_id hints) ≡ true = (and_parts (is_id id) (is_over v clause && list_all is_id hints) here).1 in
      ap (λ (text : List ℕ). steps_of v (saying n (slice_split is_end text))) (regrouped v id clause hints (lrat_text lines))
      ∙ ap (λ (ls : List (List ℕ)). steps_of v (saying n ls)) (split_off is_end (added_line v id clause hints) 10 (lrat_text lines) (added_one_line v id clause hints) refl)
      ∙ ap (steps_of v) (said_first n (added_line v id clause hints) (slice_split is_end (lrat_text lines)) (added_says v id clause hints))
      ∙ ap (λ (t : Told). before_rest n t (steps_of v (saying (n + 1) (slice_split is_end (lrat_text lines)))))
      (told_again v id clause hints fits (and_parts (is_over v clause) (list_all is_id hints) rest).0 (and_parts (is_over v clause) (list_all is_id hints) rest).1)
      ∙ ap (before_rest n (Read (Add id clause hints))) later

  lines_read : (n : ℕ) (lines : List Line) → list_all (λ (line : Line). adds_in_range v line.step) lines ≡ true → steps_of v (saying n (slice_split is_end (lrat_text lines))) ≡ Ok (placed_from n lines)
  lines_read n [] within = refl
  lines_read n (line ∷ lines) within =
      step_read n line.step lines (and_parts (adds_in_range v line.step) (list_all (λ (line : Line). adds_in_range v line.step) lines) within).0
      (lines_read (n + 1) lines (and_parts (adds_in_range v line.step) (list_all (λ (line : Line). adds_in_range v line.step) lines) within).1)

-- the lines are read as they were written
pub written_lines_are_read : (v : ℕ) (lines : List Line) → list_all (λ (line : Line). adds_in_range v line.step) lines ≡ true → read_lrat v (lrat_text lines) ≡ Ok (placed_from 1 lines)
written_lines_are_read v lines within = lines_read v 1 lines within
