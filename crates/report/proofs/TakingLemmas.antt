-- What a line that is read says, and what it finds held.
use Rattle.std.proofs.Common.{◌≡◌, refl, sym, ap, ◌∙◌, subst, ℕ, ◌+◌, ◌<◌, Bool, true, false, cond, List, [], ◌∷◌, map, length, drop, Option, Some, None, Result, arith, option_map}
use Rattle.std.specs.Prelude.{nat_lt, nat_eq, codes}
use Rattle.std.specs.List.{list_all}
use Rattle.std.specs.Option.{unwrap_or}
use Rattle.std.specs.Str.{bytes_eq}
use Rattle.std.specs.Cmp.Lexicographic.{pointwise}
use Rattle.lists.specs.declared.memory.NoMemory.{NoMemory}
use Rattle.verdicts.specs.Numbers.{saturated}
use Rattle.vocab.specs.declared.kinds.Sort.TheVariants.{Profile}
use Rattle.vocab.specs.declared.literals.Literal.{Literal}
use Rattle.vocab.specs.Name.{is_name}
use Rattle.vocab.specs.Size.{ballot_places, sort_count, outcome_count}
use Rattle.vocab.specs.Study.{Question}
use Rattle.meaning.specs.declared.cores.Witness.{Witness}
use Rattle.meaning.specs.declared.stories.Reason.{Reason}
use Rattle.meaning.specs.Literals.{is_literal}
use Rattle.meaning.specs.Cores.{is_core_from}
use Rattle.verdicts.specs.declared.refusals.Refusal.{Refusal}
use Rattle.verdicts.specs.declared.refusals.Refusal.TheVariants.{Core}
use Rattle.verdicts.specs.Texts.{words_of}
use Rattle.verdicts.specs.Reading.{names}
use Rattle.verdicts.specs.Lines.{Line, Title, KindIs, VotersAre, AlternativesAre, BallotsAre, AbsentIs, AxiomsAre, SaysPossible, SaysImpossible, SaysUndecided, LimitIs, RuleOf, Row, CoreIs, LemmasAre, Heading, Suppose, So, Clash, WithRule, WithOpen, End}
use Rattle.verdicts.specs.Places.{Place, AtRow, AtCore, AtSuppose, AtStep, AtWitness, AtWitnessRow, Standing, wanted}
use Rattle.verdicts.specs.Faults.{unless_so, named_places, is_core, next_after}
use Rattle.verdicts.specs.Judge.{read_line, advance}
use Rattle.verdicts.proofs.LineLaws.{map_is, keyed_is, test_is}
use Rattle.verdicts.proofs.FitLaws.{Fits, wanted_fits}
use Rattle.verdicts.proofs.SoundLaws.{Holds}
use Rattle.verdicts.proofs.JudgeLaws.{not_long, good_holds, read_fits}
use Rattle.verdicts.proofs.RangeLaws.{good_in_range}
use Rattle.report_lines.specs.declared.lines.Line.{Line as HeldLine}
use Rattle.report_lines.specs.declared.lines.Line.TheVariants as held
use Rattle.report_lines.specs.declared.places.Place.TheVariants as place
use Rattle.report_lines.specs.Held.{held_reason, held_place, held_line, if_core}
use Rattle.report.specs.declared.judging.Judging.{Judging}
use Rattle.report.specs.Stands.{Stands, IsRead}
use Rattle.report.specs.Taken.{Takes, IsInStory, IsLine, IsNextRow}
use Rattle.report.proofs.TableLineLemmas.{is_witness_row}

module _ (study : Question) where
  -- what a line says, by what is held of it
  abbrev pub Said : HeldLine → Line → Type 0
  Said (held.Title version) w = w ≡ Title version
  Said (held.KindIs k) w = w ≡ KindIs k
  Said (held.VotersAre c) w = (n : ℕ) × (w ≡ VotersAre n) × (c ≡ saturated n)
  Said (held.AlternativesAre c) w = (n : ℕ) × (w ≡ AlternativesAre n) × (c ≡ saturated n)
  Said (held.BallotsAre b) w = (places : List ℕ) × (w ≡ BallotsAre places) × (b ≡ pointwise nat_eq places (ballot_places study.size))
  Said (held.AbsentIs absent) w = w ≡ AbsentIs absent
  Said (held.AxiomsAre b) w = (ns : List (List ℕ)) × (w ≡ AxiomsAre ns) × (b ≡ pointwise bytes_eq ns (map (λ a. a.name) study.axioms))
  Said held.SaysPossible w = w ≡ SaysPossible
  Said held.SaysImpossible w = w ≡ SaysImpossible
  Said held.SaysUndecided w = w ≡ SaysUndecided
  Said (held.LimitIs c) w = (n : ℕ) × (w ≡ LimitIs n)
  Said (held.RuleOf c) w = (n : ℕ) × (w ≡ RuleOf n) × (c ≡ saturated n)
  Said (held.Row p o) w = w ≡ Row p o
  Said held.CoreIs w = (ns : List (List ℕ)) × (w ≡ CoreIs ns)
  Said (held.LemmasAre c) w = (n : ℕ) × (w ≡ LemmasAre n) × (c ≡ saturated n)
  Said (held.Heading c) w = (n : ℕ) × (w ≡ Heading n)
  Said (held.Suppose l) w = w ≡ Suppose l
  Said (held.So l why) w = (reason : Reason) × (w ≡ So l reason) × (why ≡ held_reason reason)
  Said (held.Clash why) w = (reason : Reason) × (w ≡ Clash reason) × (why ≡ held_reason reason)
  Said (held.WithRule name c) w = (n : ℕ) × (w ≡ WithRule name n) × (c ≡ saturated n)
  Said (held.WithOpen name c) w = (n : ℕ) × (w ≡ WithOpen name n) × (c ≡ saturated n)
  Said held.End w = w ≡ End

  said : (w : Line) → Said (held_line study w) w
  said (VotersAre n) = (n, refl, refl)
  said (AlternativesAre n) = (n, refl, refl)
  said (BallotsAre places) = (places, refl, refl)
  said (AxiomsAre ns) = (ns, refl, refl)
  said (LimitIs n) = (n, refl)
  said (RuleOf n) = (n, refl, refl)
  said (CoreIs ns) = (ns, refl)
  said (LemmasAre n) = (n, refl, refl)
  said (Heading n) = (n, refl)
  said (So l r) = (r, refl, refl)
  said (Clash r) = (r, refl, refl)
  said (WithRule name n) = (n, refl, refl)
  said (WithOpen name n) = (n, refl, refl)
  said w = refl

  -- the line of which this is held
  pub said_of : (line h : HeldLine) (w : Line) → line ≡ h → line ≡ held_line study w → Said h w
  said_of line h w e f = subst (λ x. Said x w) (sym f ∙ e) (said w)

  -- a line that is taken is that one
  pub taken_as : (s : Standing) (w l : Line) (r : Judging) (result : Result (Option Refusal) NoMemory) → w ≡ l → Takes study s l r result → Takes study s w r result
  taken_as s w l r result e h = subst (λ x. Takes study s x r result) (sym e) h

  -- ---- what the grammar has at the place

  supposes : (p : Place) (n : ℕ) (l : Literal) → Fits study p n (Suppose l) → (p ≡ AtSuppose) × (is_literal study.size l ≡ true)
  supposes AtSuppose n l h = (refl, h)
  supposes p n l h = absurd h

  tells : (p : Place) (n : ℕ) (l : Literal) (r : Reason) → Fits study p n (So l r) → IsInStory p × (is_literal study.size l ≡ true)
  tells AtSuppose n l r h = (tt, h.0)
  tells AtStep n l r h = (tt, h.0)
  tells p n l r h = absurd h

  clashes : (p : Place) (n : ℕ) (r : Reason) → Fits study p n (Clash r) → IsInStory p
  clashes AtSuppose n r h = tt
  clashes AtStep n r h = tt
  clashes p n r h = absurd h

  has_rule : (p : Place) (n : ℕ) (name : List ℕ) (m : ℕ) → Fits study p n (WithRule name m) → p ≡ AtWitness
  has_rule AtWitness n name m h = refl
  has_rule p n name m h = absurd h

  has_open : (p : Place) (n : ℕ) (name : List ℕ) (m : ℕ) → Fits study p n (WithOpen name m) → p ≡ AtWitness
  has_open AtWitness n name m h = refl
  has_open p n name m h = absurd h

  -- the places of the lines of stories and witnesses
  pub at_suppose : (s : Standing) (text : List ℕ) (w : Line) (l : Literal) → read_line study s text ≡ Some w → w ≡ Suppose l → (s.place ≡ AtSuppose) × (is_literal study.size l ≡ true)
  at_suppose s text w l e same = supposes s.place (length s.earlier + 1) l (read_fits study s text (Suppose l) (e ∙ ap Some same))

  pub at_so : (s : Standing) (text : List ℕ) (w : Line) (l : Literal) (r : Reason) → read_line study s text ≡ Some w → w ≡ So l r → IsInStory s.place × (is_literal study.size l ≡ true)
  at_so s text w l r e same = tells s.place (length s.earlier + 1) l r (read_fits study s text (So l r) (e ∙ ap Some same))

  pub at_clash : (s : Standing) (text : List ℕ) (w : Line) (r : Reason) → read_line study s text ≡ Some w → w ≡ Clash r → IsInStory s.place
  at_clash s text w r e same = clashes s.place (length s.earlier + 1) r (read_fits study s text (Clash r) (e ∙ ap Some same))

  pub at_rule : (s : Standing) (text : List ℕ) (w : Line) (name : List ℕ) (n : ℕ) → read_line study s text ≡ Some w → w ≡ WithRule name n → s.place ≡ AtWitness
  at_rule s text w name n e same = has_rule s.place (length s.earlier + 1) name n (read_fits study s text (WithRule name n) (e ∙ ap Some same))

  pub at_open : (s : Standing) (text : List ℕ) (w : Line) (name : List ℕ) (n : ℕ) → read_line study s text ≡ Some w → w ≡ WithOpen name n → s.place ≡ AtWitness
  at_open s text w name n e same = has_open s.place (length s.earlier + 1) name n (read_fits study s text (WithOpen name n) (e ∙ ap Some same))

  -- the names of a core are the words after the first
  core_words : (p : Place) (n : ℕ) (words ns : List (List ℕ)) → wanted study p n words ≡ Some (CoreIs ns) → Fits study p n (CoreIs ns) → ns ≡ drop 1 words
  core_words AtCore n [] ns e h = absurd (cc)
  core_words AtCore n (word ∷ words) ns e h =
      let k = keyed_is (codes "core") (λ ws. option_map CoreIs (names ws)) (word ∷ words) (CoreIs ns) e in
      let m = map_is CoreIs (names k.0) (CoreIs ns) k.2 in
      let t = test_is (list_all is_name k.0) (Some k.0) m.0 m.1 in
      let all : k.0 ≡ m.0 = cc in
      let here : m.0 ≡ ns = cc in
      let rest : words ≡ k.0 = cc in
      sym here ∙ sym all ∙ sym rest
  core_words p n words ns e h = absurd h

  pub core_names : (s : Standing) (text : List ℕ) (w : Line) (ns : List (List ℕ)) → read_line study s text ≡ Some w → w ≡ CoreIs ns → ns ≡ drop 1 (words_of text)
  core_names s text w ns e same =
      let read = not_long (nat_lt 4096 (length text)) (wanted study s.place (length s.earlier + 1) (words_of text)) (CoreIs ns) (e ∙ ap Some same) in
      core_words s.place (length s.earlier + 1) (words_of text) ns read (wanted_fits study s.place (length s.earlier + 1) (words_of text) (CoreIs ns) read)

  -- names that are those of no core
  pub no_core : (o : Option (List ℕ)) → None ≡ if_core study o → Some Core ≡ unless_so (is_core (length study.axioms) o) Core
  no_core None e = refl
  no_core (Some core) e = by_test (is_core_from 0 (length study.axioms) core) e
    where
      by_test : (b : Bool) → None ≡ cond b (Some core) None → Some Core ≡ unless_so b Core
      by_test true e = absurd (cc)
      by_test false e = refl

  -- and those of one
  pub some_core : (o : Option (List ℕ)) (core : List ℕ) → Some core ≡ if_core study o
      → (None ≡ unless_so (is_core (length study.axioms) o) Core) × (core ≡ unwrap_or o [])
  some_core None core e = absurd (cc)
  some_core (Some places) core e = by_test (is_core_from 0 (length study.axioms) places) e
    where
      by_test : (b : Bool) → Some core ≡ cond b (Some places) None → (None ≡ unless_so b Core) × (core ≡ places)
      by_test true e = (refl, cc)
      by_test false e = absurd (cc)

  pub with_core : (r : Judging) (s : Standing) (core : List ℕ) (names : List (List ℕ)) → Stands study r s
      → core ≡ unwrap_or (named_places study.axioms names) []
      → Stands study (record r { place = place.AtLemmas; core = core }) (advance study s (CoreIs names))
  with_core r s core names h e = record {
    place = refl;
    version = h.version;
    rows = h.rows;
    core = e;
    count = h.count;
    earlier = h.earlier;
    alone = h.alone;
    few = h.few;
    suppose = h.suppose;
    size = h.size;
    known = h.known;
    witnesses = h.witnesses;
  }

  -- ---- what is held

  next_less : (core : List ℕ) (witnesses : List Witness) (k : ℕ) → next_after core witnesses ≡ Some k → length witnesses < length core
  next_less [] witnesses k e = absurd (cc)
  next_less (c ∷ core) [] k e = omega arith
  next_less (c ∷ core) (w ∷ witnesses) k e = omega (arith, next_less core witnesses k e)

  row_found : (r : Judging) (s : Standing) (p o n : ℕ) (q : Place) → Stands study r s → s.place ≡ q → Fits study q n (Row p o) → Holds study q s → list_all (λ k. nat_lt k (length study.axioms)) s.core ≡ true → IsNextRow study r o
  row_found r s p o n AtRow h at fits holds core = record {
    rows = subst (λ rows. list_all (λ o. nat_lt o (outcome_count study.size.kind study.size.alternatives)) rows ≡ true) (sym h.rows) holds.0;
    more = subst (λ rows. length rows < sort_count study.size Profile) (sym h.rows) (holds.1 (let some : 0 < sort_count study.size Profile = omega (arith, fits.0) in some));
    fits = fits.1;
    core = subst (λ core. list_all (λ k. nat_lt k (length study.axioms)) core ≡ true) (sym h.core) core;
    next = λ e. let same : AtRow ≡ AtWitnessRow = is_witness_row AtRow (sym e ∙ h.place ∙ ap held_place at) in absurd (cc);
  }
  row_found r s p o n AtWitnessRow h at fits holds core = record {
    rows = subst (λ rows. list_all (λ o. nat_lt o (outcome_count study.size.kind study.size.alternatives)) rows ≡ true) (sym h.rows) holds.1.0;
    more = subst (λ rows. length rows < sort_count study.size Profile) (sym h.rows) (holds.1.1 (let some : 0 < sort_count study.size Profile = omega (arith, fits.0) in some));
    fits = fits.1;
    core = subst (λ core. list_all (λ k. nat_lt k (length study.axioms)) core ≡ true) (sym h.core) core;
    next = λ e. let same : length r.core ≡ length s.core = ap length h.core in omega (arith, h.witnesses, same, next_less s.core s.witnesses holds.2 holds.3);
  }
  row_found r s p o n q h at fits holds core = absurd fits

  pub holds_rows : (r : Judging) (text : List ℕ) (line : HeldLine) (p o : ℕ) → line ≡ held.Row p o → IsRead study r → ((s : Standing) → Stands study r s → IsLine study s text line) → IsNextRow study r o
  holds_rows r text line p o e read lines =
      let s = read.standing in
      let l = lines s read.stands in
      let same : l.0 ≡ Row p o = said_of line (held.Row p o) l.0 e l.2 in
      row_found r s p o (length s.earlier + 1) s.place read.stands refl (read_fits study s text (Row p o) (l.1 ∙ ap Some same)) (good_holds study s read.lines read.good) (good_in_range study s read.lines read.good).core

  -- a literal that a line names is one of the size
  pub suppose_in : (r : Judging) (text : List ℕ) (line : HeldLine) (l : Literal) → line ≡ held.Suppose l → IsRead study r → ((s : Standing) → Stands study r s → IsLine study s text line) → is_literal study.size l ≡ true
  suppose_in r text line l e read lines =
      let w = lines read.standing read.stands in
      (at_suppose read.standing text w.0 l w.1 (said_of line (held.Suppose l) w.0 e w.2)).1

  pub so_in : (r : Judging) (text : List ℕ) (line : HeldLine) (l : Literal) (why : Reason) → line ≡ held.So l why → IsRead study r → ((s : Standing) → Stands study r s → IsLine study s text line) → is_literal study.size l ≡ true
  so_in r text line l why e read lines =
      let w = lines read.standing read.stands in
      let t = said_of line (held.So l why) w.0 e w.2 in
      (at_so read.standing text w.0 l t.0 w.1 t.1).1
