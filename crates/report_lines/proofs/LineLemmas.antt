-- What is held of a line, by the parts that are read of it.
use Rattle.std.proofs.Common.{◌≡◌, ◌≢◌, refl, sym, ap, ap₂, ◌∙◌, ℕ, ◌^◌, ◌<◌, Bool, true, false, cond, Option, Some, None, option_map, option_and_then, List, [], ◌∷◌, arith, inl, inr, decimal}
use Rattle.std.specs.Prelude.{codes}
use Rattle.std.specs.Option.{option_or}
use Rattle.std.specs.Str.{bytes_eq}
use Rattle.std.proofs.lemmas.List.Splits.{join_with_byte-slice_split}
use Rattle.std.proofs.lemmas.Slice.Eq.{bytes_eq-Decides}
use Rattle.lists.proofs.TextLaws.{differs}
use Rattle.vocab.specs.declared.kinds.Kind.{Kind}
use Rattle.vocab.specs.declared.kinds.Kind.TheVariants.{Choice, Ranking, Sets}
use Rattle.vocab.specs.declared.literals.Literal.{Literal}
use Rattle.meaning.specs.Texts.{kind_text}
use Rattle.vocab.specs.Name.{is_name}
use Rattle.vocab.specs.Study.{Question}
use Rattle.meaning.specs.declared.stories.Reason.{Reason}
use Rattle.verdicts.specs.Numbers.{number_text, read_number, saturated}
use Rattle.verdicts.specs.Texts.{joined_words, words_of, kinds, named_by, read_kind, read_literal}
use Rattle.verdicts.specs.Lines.{Line, Title, KindIs, AbsentIs, SaysPossible, SaysImpossible, SaysUndecided, Heading, So, Clash, WithRule, WithOpen, End}
use Rattle.verdicts.specs.Reading.{keyed, one_word, no_word, read_version, read_absent, verdict_word, read_heading, read_named, read_witness, read_reason, read_so}
use Rattle.verdicts.proofs.WordLaws.{named_in, text_named}
use Rattle.verdicts.proofs.PrintLaws.{named_nothing, decimal_is}
use Rattle.verdicts.proofs.LineLaws.{keyed_is, one_is, map_is, none_is}
use Rattle.report_lines.specs.declared.lines.Line.{Line as HeldLine}
use Rattle.report_lines.specs.declared.lines.Line.TheVariants as held
use Rattle.report_lines.specs.Held.{held_reason, held_line}
use Rattle.report_lines.proofs.WordLemmas.{keyed_then, keyed_one_then}
use Rattle.lists.proofs.Members.{IsIn}

-- ---- after a key

module _ {A B : Type 0} (h : A → B) where
  pub keyed_told : (key : List ℕ) (go : List (List ℕ) → Option A) (words rest : List (List ℕ)) (r : Option B) → keyed key (λ ws. Some ws) words ≡ Some rest → r ≡ option_map h (go rest) → r ≡ option_map h (keyed key go words)
  keyed_told key go words rest r e t = t ∙ sym (ap (option_map h) (keyed_then key go words ∙ ap (option_and_then go) e))

  pub word_told : (key : List ℕ) (read : List ℕ → Option A) (words : List (List ℕ)) (w : List ℕ) (r : Option B) → keyed key (one_word (λ w. Some w)) words ≡ Some w → r ≡ option_map h (read w) → r ≡ option_map h (keyed key (one_word read) words)
  word_told key read words w r e t = t ∙ sym (ap (option_map h) (keyed_one_then key read words ∙ ap (option_and_then read) e))

  -- the second of two, where the first gives nothing
  pub or_told : (o p : Option A) (r : Option B) → None ≡ option_map h o → r ≡ option_map h p → r ≡ option_map h (option_or o p)
  or_told None p r e t = t
  or_told (Some a) p r e t = absurd (cc)

  nothing_told : (o : Option A) → ((a : A) → o ≡ Some a → ⊥) → None ≡ option_map h o
  nothing_told None none = refl
  nothing_told (Some a) none = absurd (none a refl)

-- ---- lines of one text

whole : (text : List ℕ) → joined_words (words_of text) ≡ text
whole text = join_with_byte-slice_split 32 text

abbrev title_word : List ℕ → Option Line
title_word word = option_map Title (read_version word)

abbrev pub title_line : List (List ℕ) → Option Line
title_line words = keyed (codes "bench") (keyed (codes "report") (one_word title_word)) words

-- the first line of a version
abbrev title_text : ℕ → List ℕ
title_text version = joined_words (codes "bench" ∷ codes "report" ∷ number_text version ∷ [])

module _ {B : Type 0} (h : Line → B) (text : List ℕ) where
  pub is_first : bytes_eq text (codes "bench report 1") ≡ true → Some (h (Title 1)) ≡ option_map h (title_line (words_of text))
  is_first e = ap (λ t. option_map h (title_line (words_of t))) (sym ((bytes_eq-Decides text (codes "bench report 1")).0 e))

  pub is_second : bytes_eq text (codes "bench report 2") ≡ true → Some (h (Title 2)) ≡ option_map h (title_line (words_of text))
  is_second e = ap (λ t. option_map h (title_line (words_of t))) (sym ((bytes_eq-Decides text (codes "bench report 2")).0 e))

  pub no_title : bytes_eq text (codes "bench report 1") ≡ false → bytes_eq text (codes "bench report 2") ≡ false → None ≡ option_map h (title_line (words_of text))
  no_title a b = nothing_told h _ (λ l e.
      let first = keyed_is (codes "bench") (keyed (codes "report") (one_word title_word)) (words_of text) l e in
      let second = keyed_is (codes "report") (one_word title_word) first.0 l first.2 in
      let last = one_is title_word second.0 l second.2 in
      let version = map_is Title (read_version last.0) l last.2 in
      let words : words_of text ≡ codes "bench" ∷ codes "report" ∷ last.0 ∷ [] = first.1 ∙ ap (λ ws. codes "bench" ∷ ws) (second.1 ∙ ap (λ ws. codes "report" ∷ ws) last.1) in
      let named : last.0 ≡ number_text version.0 = text_named number_text (1 ∷ 2 ∷ []) last.0 version.0 version.1 in
      each version.0 (named_in number_text (1 ∷ 2 ∷ []) last.0 version.0 version.1)
      (sym (whole text) ∙ ap joined_words words ∙ ap (λ w. joined_words (codes "bench" ∷ codes "report" ∷ w ∷ [])) named))
    where
      each : (v : ℕ) → IsIn (1 ∷ 2 ∷ []) v → text ≢ title_text v
      each v (inl e) same = differs text (codes "bench report 1") a (same ∙ ap title_text (sym e))
      each v (inr (inl e)) same = differs text (codes "bench report 2") b (same ∙ ap title_text (sym e))
      each v (inr (inr i)) same = i

  pub no_end : bytes_eq text (codes "end") ≡ false → None ≡ option_map h (keyed (codes "end") (no_word End) (words_of text))
  no_end other = nothing_told h _ (λ l e.
      let first = keyed_is (codes "end") (no_word End) (words_of text) l e in
      let last = none_is End first.0 l first.2 in
      differs text (codes "end") other (sym (whole text) ∙ ap joined_words (first.1 ∙ ap (λ ws. codes "end" ∷ ws) last.0)))

-- ---- the kind

abbrev pub kind_line : List ℕ → Option Line
kind_line word = option_map KindIs (read_kind word)

module _ {B : Type 0} (h : Line → B) (word : List ℕ) where
  pub is_choice : bytes_eq word (codes "choice") ≡ true → Some (h (KindIs Choice)) ≡ option_map h (kind_line word)
  is_choice e = ap (λ w. option_map h (kind_line w)) (sym ((bytes_eq-Decides word (codes "choice")).0 e))

  pub is_ranking : bytes_eq word (codes "ranking") ≡ true → Some (h (KindIs Ranking)) ≡ option_map h (kind_line word)
  is_ranking e = ap (λ w. option_map h (kind_line w)) (sym ((bytes_eq-Decides word (codes "ranking")).0 e))

  pub is_sets : bytes_eq word (codes "sets") ≡ true → Some (h (KindIs Sets)) ≡ option_map h (kind_line word)
  is_sets e = ap (λ w. option_map h (kind_line w)) (sym ((bytes_eq-Decides word (codes "sets")).0 e))

  pub is_no_kind : bytes_eq word (codes "choice") ≡ false → bytes_eq word (codes "ranking") ≡ false → bytes_eq word (codes "sets") ≡ false → None ≡ option_map h (kind_line word)
  is_no_kind a b c = ap (λ o. option_map h (option_map KindIs o)) (sym (named_nothing kind_text kinds word each))
    where
      each : (k : Kind) → IsIn kinds k → word ≢ kind_text k
      each k (inl e) same = differs word (codes "choice") a (same ∙ ap kind_text (sym e))
      each k (inr (inl e)) same = differs word (codes "ranking") b (same ∙ ap kind_text (sym e))
      each k (inr (inr (inl e))) same = differs word (codes "sets") c (same ∙ ap kind_text (sym e))
      each k (inr (inr (inr i))) same = i

-- ---- whether voters may be absent

abbrev absent_text : Bool → List ℕ
absent_text absent = cond absent (codes "yes") (codes "no")

abbrev pub absent_line : List ℕ → Option Line
absent_line word = option_map AbsentIs (read_absent word)

module _ {B : Type 0} (h : Line → B) (word : List ℕ) where
  pub is_yes : bytes_eq word (codes "yes") ≡ true → Some (h (AbsentIs true)) ≡ option_map h (absent_line word)
  is_yes e = ap (λ w. option_map h (absent_line w)) (sym ((bytes_eq-Decides word (codes "yes")).0 e))

  pub is_no : bytes_eq word (codes "no") ≡ true → Some (h (AbsentIs false)) ≡ option_map h (absent_line word)
  is_no e = ap (λ w. option_map h (absent_line w)) (sym ((bytes_eq-Decides word (codes "no")).0 e))

  pub is_neither : bytes_eq word (codes "yes") ≡ false → bytes_eq word (codes "no") ≡ false → None ≡ option_map h (absent_line word)
  is_neither a b = ap (λ o. option_map h (option_map AbsentIs o)) (sym (named_nothing absent_text (true ∷ false ∷ []) word each))
    where
      each : (absent : Bool) → IsIn (true ∷ false ∷ []) absent → word ≢ absent_text absent
      each absent (inl e) same = differs word (codes "yes") a (same ∙ ap absent_text (sym e))
      each absent (inr (inl e)) same = differs word (codes "no") b (same ∙ ap absent_text (sym e))
      each absent (inr (inr i)) same = i

-- ---- the verdict

abbrev pub verdict_of : List ℕ → Option Line
verdict_of word = named_by verdict_word (SaysPossible ∷ SaysImpossible ∷ SaysUndecided ∷ []) word

module _ {B : Type 0} (h : Line → B) (word : List ℕ) where
  same_of : (other : List ℕ) → bytes_eq word other ≡ true → other ≡ word
  same_of other e = sym ((bytes_eq-Decides word other).0 e)

  pub is_impossible : bytes_eq word (codes "impossible") ≡ true → Some (h SaysImpossible) ≡ option_map h (verdict_of word)
  is_impossible e = ap (λ w. option_map h (verdict_of w)) (same_of (codes "impossible") e)

  pub is_undecided : bytes_eq word (codes "undecided") ≡ true → Some (h SaysUndecided) ≡ option_map h (verdict_of word)
  is_undecided e = ap (λ w. option_map h (verdict_of w)) (same_of (codes "undecided") e)

  pub is_no_verdict : bytes_eq word (codes "possible") ≡ false → bytes_eq word (codes "impossible") ≡ false → bytes_eq word (codes "undecided") ≡ false → None ≡ option_map h (verdict_of word)
  is_no_verdict a b c = ap (option_map h) (sym (named_nothing verdict_word (SaysPossible ∷ SaysImpossible ∷ SaysUndecided ∷ []) word each))
    where
      each : (l : Line) → IsIn (SaysPossible ∷ SaysImpossible ∷ SaysUndecided ∷ []) l → word ≢ verdict_word l
      each l (inl e) same = differs word (codes "possible") a (same ∙ ap verdict_word (sym e))
      each l (inr (inl e)) same = differs word (codes "impossible") b (same ∙ ap verdict_word (sym e))
      each l (inr (inr (inl e))) same = differs word (codes "undecided") c (same ∙ ap verdict_word (sym e))
      each l (inr (inr (inr i))) same = i

module _ (study : Question) where
  -- ---- headings

  printed : (n : ℕ) (word text : List ℕ) (b : Bool) → n < 2 ^ 64 → text ≡ decimal n → bytes_eq word text ≡ b → read_heading n word ≡ cond b (Some (Heading n)) None
  printed n word text b l e t = ap (λ c. cond c (Some (Heading n)) None) (ap (bytes_eq word) (sym (e ∙ decimal_is n l)) ∙ t)

  pub is_heading : (n : ℕ) (word text : List ℕ) → n < 2 ^ 64 → text ≡ decimal n → bytes_eq word text ≡ true → Some (held.Heading n) ≡ option_map (held_line study) (read_heading n word)
  is_heading n word text l e t =
      let small : n ≡ saturated n = omega (arith, l) in
      ap (λ k. Some (held.Heading k)) small ∙ sym (ap (option_map (held_line study)) (printed n word text true l e t))

  pub no_heading : (n : ℕ) (word text : List ℕ) → n < 2 ^ 64 → text ≡ decimal n → bytes_eq word text ≡ false → None ≡ option_map (held_line study) (read_heading n word)
  no_heading n word text l e t = sym (ap (option_map (held_line study)) (printed n word text false l e t))

  -- ---- witnesses

  module _ (name : List ℕ) where
    rule_of : (o : Option ℕ) (p : Option Line) (n : ℕ) → Some n ≡ option_map saturated o → Some (held.WithRule name n) ≡ option_map (held_line study) (option_or (option_map (WithRule name) o) p)
    rule_of None p n e = absurd (cc)
    rule_of (Some m) p n e = let same : n ≡ saturated m = cc in ap (λ k. Some (held.WithRule name k)) same

    open_of : (o p : Option ℕ) (n : ℕ) → None ≡ option_map saturated o → Some n ≡ option_map saturated p → Some (held.WithOpen name n) ≡ option_map (held_line study) (option_or (option_map (WithRule name) o) (option_map (WithOpen name) p))
    open_of (Some m) p n e t = absurd (cc)
    open_of None None n e t = absurd (cc)
    open_of None (Some m) n e t = let same : n ≡ saturated m = cc in ap (λ k. Some (held.WithOpen name k)) same

    neither_of : (o p : Option ℕ) → None ≡ option_map saturated o → None ≡ option_map saturated p → None ≡ option_map (held_line study) (option_or (option_map (WithRule name) o) (option_map (WithOpen name) p))
    neither_of (Some m) p e t = absurd (cc)
    neither_of None (Some m) e t = absurd (cc)
    neither_of None None e t = refl

    map_then : {A : Type 0} (f : ℕ → A) (read : List ℕ → Option ℕ) (o : Option (List ℕ)) → option_and_then (λ w. option_map f (read w)) o ≡ option_map f (option_and_then read o)
    map_then f read None = refl
    map_then f read (Some w) = refl

    counted : {A : Type 0} (f : ℕ → A) (key : List ℕ) (words : List (List ℕ)) → keyed key (one_word (λ w. option_map f (read_number w))) words ≡ option_map f (keyed key (one_word read_number) words)
    counted f key words =
        keyed_one_then key (λ w. option_map f (read_number w)) words ∙ map_then f read_number (keyed key (one_word (λ w. Some w)) words)
        ∙ sym (ap (option_map f) (keyed_one_then key read_number words))

    -- what is told of the words after the name
    named_told : (words : List (List ℕ)) → is_name name ≡ true
        → read_named name words ≡ option_or (option_map (WithRule name) (keyed (codes "rule") (one_word read_number) words)) (option_map (WithOpen name) (keyed (codes "open") (one_word read_number) words))
    named_told words h =
        ap (λ b. cond b (option_or (keyed (codes "rule") (one_word (λ w. option_map (WithRule name) (read_number w))) words) (keyed (codes "open") (one_word (λ w. option_map (WithOpen name) (read_number w))) words)) None) h
        ∙ ap₂ option_or (counted (WithRule name) (codes "rule") words) (counted (WithOpen name) (codes "open") words)

    told_after : (words rest more : List (List ℕ)) (r : Option HeldLine) → keyed (codes "without") (λ ws. Some ws) words ≡ Some rest → rest ≡ name ∷ more → is_name name ≡ true
        → r ≡ option_map (held_line study) (option_or (option_map (WithRule name) (keyed (codes "rule") (one_word read_number) more)) (option_map (WithOpen name) (keyed (codes "open") (one_word read_number) more)))
        → r ≡ option_map (held_line study) (keyed (codes "without") read_witness words)
    told_after words rest more r e cut h t = keyed_told (held_line study) (codes "without") read_witness words rest r e (t ∙ sym (ap (λ ws. option_map (held_line study) (read_witness ws)) cut ∙ ap (option_map (held_line study)) (named_told more h)))

    pub with_rule : (words rest more : List (List ℕ)) (n : ℕ) → keyed (codes "without") (λ ws. Some ws) words ≡ Some rest → rest ≡ name ∷ more → is_name name ≡ true → Some n ≡ option_map saturated (keyed (codes "rule") (one_word read_number) more)
        → Some (held.WithRule name n) ≡ option_map (held_line study) (keyed (codes "without") read_witness words)
    with_rule words rest more n e cut h t = told_after words rest more (Some (held.WithRule name n)) e cut h (rule_of _ _ n t)

    pub with_open : (words rest more : List (List ℕ)) (n : ℕ) → keyed (codes "without") (λ ws. Some ws) words ≡ Some rest → rest ≡ name ∷ more → is_name name ≡ true → None ≡ option_map saturated (keyed (codes "rule") (one_word read_number) more)
        → Some n ≡ option_map saturated (keyed (codes "open") (one_word read_number) more) → Some (held.WithOpen name n) ≡ option_map (held_line study) (keyed (codes "without") read_witness words)
    with_open words rest more n e cut h none t = told_after words rest more (Some (held.WithOpen name n)) e cut h (open_of _ _ n none t)

    pub with_neither : (words rest more : List (List ℕ)) → keyed (codes "without") (λ ws. Some ws) words ≡ Some rest → rest ≡ name ∷ more → is_name name ≡ true → None ≡ option_map saturated (keyed (codes "rule") (one_word read_number) more)
        → None ≡ option_map saturated (keyed (codes "open") (one_word read_number) more) → None ≡ option_map (held_line study) (keyed (codes "without") read_witness words)
    with_neither words rest more e cut h none t = told_after words rest more None e cut h (neither_of _ _ none t)

  -- ---- steps

  clash_of : (o : Option Reason) (r : Reason) → Some r ≡ option_map held_reason o → Some (held.Clash r) ≡ option_map (held_line study) (option_map Clash o)
  clash_of None r e = absurd (cc)
  clash_of (Some s) r e = let same : r ≡ held_reason s = cc in ap (λ k. Some (held.Clash k)) same

  no_clash_of : (o : Option Reason) → None ≡ option_map held_reason o → None ≡ option_map (held_line study) (option_map Clash o)
  no_clash_of None e = refl
  no_clash_of (Some s) e = absurd (cc)

  so_of : (l : Literal) (o : Option Reason) (r : Reason) → Some r ≡ option_map held_reason o → Some (held.So l r) ≡ option_map (held_line study) (option_map (So l) o)
  so_of l None r e = absurd (cc)
  so_of l (Some s) r e = let same : r ≡ held_reason s = cc in ap (λ k. Some (held.So l k)) same

  no_so_of : (l : Literal) (o : Option Reason) → None ≡ option_map held_reason o → None ≡ option_map (held_line study) (option_map (So l) o)
  no_so_of l None e = refl
  no_so_of l (Some s) e = absurd (cc)

  abbrev pub clash_line : List (List ℕ) → Option Line
  clash_line words = keyed (codes "clash") (keyed (codes "by") (λ ws. option_map Clash (read_reason study ws))) words

  clash_told : (words rest more : List (List ℕ)) (r : Option HeldLine) → keyed (codes "clash") (λ ws. Some ws) words ≡ Some rest → keyed (codes "by") (λ ws. Some ws) rest ≡ Some more
      → r ≡ option_map (held_line study) (option_map Clash (read_reason study more)) → r ≡ option_map (held_line study) (clash_line words)
  clash_told words rest more r e f t =
      keyed_told (held_line study) (codes "clash") (keyed (codes "by") (λ ws. option_map Clash (read_reason study ws))) words rest r e
      (keyed_told (held_line study) (codes "by") (λ ws. option_map Clash (read_reason study ws)) rest more r f t)

  pub a_clash : (words rest more : List (List ℕ)) (r : Reason) → keyed (codes "clash") (λ ws. Some ws) words ≡ Some rest → keyed (codes "by") (λ ws. Some ws) rest ≡ Some more → Some r ≡ option_map held_reason (read_reason study more)
      → Some (held.Clash r) ≡ option_map (held_line study) (clash_line words)
  a_clash words rest more r e f t = clash_told words rest more (Some (held.Clash r)) e f (clash_of (read_reason study more) r t)

  pub no_clash : (words rest more : List (List ℕ)) → keyed (codes "clash") (λ ws. Some ws) words ≡ Some rest → keyed (codes "by") (λ ws. Some ws) rest ≡ Some more → None ≡ option_map held_reason (read_reason study more)
      → None ≡ option_map (held_line study) (clash_line words)
  no_clash words rest more e f t = clash_told words rest more None e f (no_clash_of (read_reason study more) t)

  module _ (words rest more : List (List ℕ)) (word : List ℕ) (key : keyed (codes "so") (λ ws. Some ws) words ≡ Some rest) (cut : rest ≡ word ∷ more) where
    so_told : (r : Option HeldLine) → r ≡ option_map (held_line study) (read_so study (word ∷ more)) → r ≡ option_map (held_line study) (keyed (codes "so") (read_so study) words)
    so_told r t = keyed_told (held_line study) (codes "so") (read_so study) words rest r key (t ∙ sym (ap (λ ws. option_map (held_line study) (read_so study ws)) cut))

    after_literal : (l : Literal) (last : List (List ℕ)) (r : Option HeldLine) → Some l ≡ read_literal study.size word → keyed (codes "by") (λ ws. Some ws) more ≡ Some last
        → r ≡ option_map (held_line study) (option_map (So l) (read_reason study last)) → r ≡ option_map (held_line study) (keyed (codes "so") (read_so study) words)
    after_literal l last r named by t = so_told r (t
        ∙ sym (ap (λ o. option_map (held_line study) (option_and_then (λ l. option_map (So l) (keyed (codes "by") (read_reason study) more)) o)) (sym named)
        ∙ ap (λ o. option_map (held_line study) (option_map (So l) o)) (keyed_then (codes "by") (read_reason study) more ∙ ap (option_and_then (read_reason study)) by)))

    pub no_so_literal : None ≡ read_literal study.size word → None ≡ option_map (held_line study) (keyed (codes "so") (read_so study) words)
    no_so_literal none = so_told None (ap (λ o. option_map (held_line study) (option_and_then (λ l. option_map (So l) (keyed (codes "by") (read_reason study) more)) o)) none)

    pub a_so : (l : Literal) (last : List (List ℕ)) (r : Reason) → Some l ≡ read_literal study.size word → keyed (codes "by") (λ ws. Some ws) more ≡ Some last → Some r ≡ option_map held_reason (read_reason study last)
        → Some (held.So l r) ≡ option_map (held_line study) (keyed (codes "so") (read_so study) words)
    a_so l last r named by t = after_literal l last (Some (held.So l r)) named by (so_of l (read_reason study last) r t)

    pub no_so_reason : (l : Literal) (last : List (List ℕ)) → Some l ≡ read_literal study.size word → keyed (codes "by") (λ ws. Some ws) more ≡ Some last → None ≡ option_map held_reason (read_reason study last)
        → None ≡ option_map (held_line study) (keyed (codes "so") (read_so study) words)
    no_so_reason l last named by t = after_literal l last None named by (no_so_of l (read_reason study last) t)
