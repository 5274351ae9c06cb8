-- Lemmas that stand where they are used.
use Rattle.std.proofs.Common.{◌≡◌, ◌≢◌, refl, sym, ap, ◌∙◌, subst, ℕ, zero, suc, ◌+◌, ◌<◌, ◌≤◌, inl, inr, Bool, true, false, ◌&&◌, List, length, get_or, set, replicate, arith, Option, Some, None, eq-eqb, nat_lt}
use Rattle.std.specs.Prelude.{slice_get}
use Rattle.std.specs.List.{list_all}
use Rattle.std.proofs.lemmas.Bool.{and_parts, and_from, cases_eq, ltb-true}
use Rattle.std.proofs.lemmas.List.{length-set, length-replicate}
use Rattle.std.proofs.lemmas.Option.{slice_get_within, slice_get-get_or, get_or_from_slice_get}
use Rattle.meaning.specs.declared.stories.Lemma.{Lemma}
use Rattle.meaning.specs.declared.stories.Reason.{Reason}
use Rattle.meaning.specs.declared.stories.Reason.TheVariants.{Axiom as ByAxiom, Outcome as ByOutcome, Lemma as ByLemma}
use Rattle.tellings.specs.Tellings.{home_in, home_of, stands_in, is_home_shallow, is_shallow, greatest_depth, is_at, is_reached, names_lemma, namers, is_only, takes_in, AreHomes}
use Rattle.tellings.specs.declared.tellings.Placed.{Placed}
use Rattle.tellings.specs.declared.tellings.Telling.{Telling}
use Rattle.tellings.proofs.NamerLemmas.{step_names_only, last_names_only}
use Rattle.needed_facts.proofs.TestLemmas.{all_each}
use Rattle.premises.specs.declared.uses.Use.{Use}
use Rattle.premises.specs.declared.uses.Use.TheVariants.{Never}
use Rattle.premises.specs.Uses.{use_of, is_once, takes, AreUses, AreHomesFrom}
use Rattle.premises.proofs.UseLemmas.{get_set_other, get_set_same, get_replicate, once_is}

-- ---- homes

home_within : (homes : List (Option ℕ)) (j m : ℕ) → home_of homes j ≡ Some m → j < length homes
home_within homes j m h = cases (slice_get homes j) refl h
  where
    cases : (o : Option (Option ℕ)) → slice_get homes j ≡ o → home_in o ≡ Some m → j < length homes
    cases None e i = cc
    cases (Some home) e i = slice_get_within homes j home e

and_same : (b x y : Bool) → (b ≡ true → x ≡ y) → (b && x) ≡ (b && y)
and_same true x y h = h refl
and_same false x y h = refl

-- ---- a lemma more is placed

module _ (uses : List Use) (homes : List (Option ℕ)) (here next : ℕ) (after : here + 1 ≡ next) (placed : AreHomesFrom uses homes next) (home : Option ℕ) where
  abbrev new : List (Option ℕ)
  new = set homes here home

  kept : (j : ℕ) → j ≢ here → home_of new j ≡ home_of homes j
  kept j other = ap home_in (get_set_other homes here j home other)

  -- those that are placed stand within later ones
  later : (j m : ℕ) → next ≤ j → home_of homes j ≡ Some m → j < m
  later j m past h =
      let lt : j < length uses = let w = home_within homes j m h in omega (arith, w, placed.all) in
      let own : stands_in m (home_of homes j) ≡ true = rw (h, eq-eqb m m refl) refl in
      let used : Use = get_or uses j Never in
      let taken : takes homes used j m ≡ true = sym (placed.placed j m used past (slice_get-get_or uses j Never lt)) ∙ own in
      ltb-true j m (and_parts (nat_lt j m) (is_shallow homes greatest_depth m) (and_parts (nat_lt j m && is_shallow homes greatest_depth m) (is_once m used) taken).0).0

  stays_shallow : (n m : ℕ) → here < m → is_shallow new n m ≡ is_shallow homes n m
  stays_shallow zero m lt = refl
  stays_shallow (suc n) m lt = ap (is_home_shallow (is_shallow new n)) (kept m (λ e. absurd (omega (arith, lt, e)))) ∙ cases (stays_shallow n) (home_of homes m) refl
    where
      cases : ((k : ℕ) → here < k → is_shallow new n k ≡ is_shallow homes n k) → (o : Option ℕ) → home_of homes m ≡ o → is_home_shallow (is_shallow new n) o ≡ is_home_shallow (is_shallow homes n) o
      cases ih None e = refl
      cases ih (Some k) e = let up = later m k (omega (arith, lt, after)) e in ih k (omega (arith, lt, up))

  takes_kept : (used : Use) (j m : ℕ) → here ≤ j → takes homes used j m ≡ takes new used j m
  takes_kept used j m le =
      ap (λ (b : Bool). b && is_once m used)
      (and_same (nat_lt j m) (is_shallow homes greatest_depth m) (is_shallow new greatest_depth m)
      (λ lt. let up = ltb-true j m lt in sym (stays_shallow greatest_depth m (omega (arith, up, le)))))

  pub placed_more : (other : Use) → here < length uses → ((m : ℕ) → stands_in m home ≡ takes homes (get_or uses here other) here m) → AreHomesFrom uses new here
  placed_more other lt right = record {
    all = length-set homes here home ∙ placed.all;
    alone = λ j below. kept j (λ e. absurd (omega (arith, below, e))) ∙ placed.alone j (omega (arith, below, after));
    placed = λ j m its past at. elim (cases_eq j here) [
      | inl same ↦
          let this : slice_get uses here ≡ Some its = subst (λ (i : ℕ). slice_get uses i ≡ Some its) same at in
          let one : get_or uses here other ≡ its = get_or_from_slice_get uses here its other this in
          let own : home_of new here ≡ home = ap home_in (get_set_same homes here home (omega (arith, lt, placed.all))) in
          subst (λ (i : ℕ). stands_in m (home_of new i) ≡ takes new its i m) (sym same)
          (ap (stands_in m) own ∙ right m ∙ ap (λ (u : Use). takes homes u here m) one ∙ takes_kept its here m (omega arith))
      | inr apart ↦ ap (stands_in m) (kept j apart) ∙ placed.placed j m its (omega (arith, past, apart, after)) at ∙ takes_kept its j m past
    ];
  }

-- at first none is
pub none_placed : (uses : List Use) → AreHomesFrom uses (replicate (length uses) None) (length uses)
none_placed uses = record {
  all = length-replicate (length uses) None;
  alone = λ j lt. ap home_in (get_replicate (length uses) j None lt);
  placed = λ j m used past at. let within = slice_get_within uses j used at in absurd (omega (arith, past, within));
}

-- ---- all are placed

module _ (story : List Lemma) (tellings : List Telling) (uses : List Use) (homes : List (Option ℕ)) (counted : AreUses story tellings uses) (placed : AreHomesFrom uses homes 0) where
  within : (j m : ℕ) → j < length story → stands_in m (home_of homes j) ≡ takes_in homes (namers story tellings j) j m
  within j m lt =
      placed.placed j m (use_of (namers story tellings j)) (omega arith) (counted.each j lt)
      ∙ ap (λ (b : Bool). nat_lt j m && is_shallow homes greatest_depth m && b) (once_is m (namers story tellings j))

  -- where a lemma stands within another, that one alone names it
  only_home : (k h : ℕ) → home_of homes k ≡ Some h → is_only h (namers story tellings k) ≡ true
  only_home k h e =
      let lt : k < length story = let w = home_within homes k h e in omega (arith, w, placed.all, counted.all) in
      let own : stands_in h (home_of homes k) ≡ true = rw (e, eq-eqb h h refl) refl in
      let taken : takes_in homes (namers story tellings k) k h ≡ true = sym (within k h lt) ∙ own in
      (and_parts (nat_lt k h && is_shallow homes greatest_depth h) (is_only h (namers story tellings k)) taken).1

  reached : (m : ℕ) (reason : Reason) → ((k h : ℕ) → names_lemma k reason ≡ true → is_only h (namers story tellings k) ≡ true → m ≡ h) → is_reached homes m reason ≡ true
  reached m (ByAxiom k values) named = refl
  reached m (ByOutcome p) named = refl
  reached m (ByLemma k) named = cases (home_of homes k) refl
    where
      cases : (o : Option ℕ) → home_of homes k ≡ o → is_at o m ≡ true
      cases None e = refl
      cases (Some h) e = eq-eqb h m (sym (named k h (eq-eqb k k refl) (only_home k h e)))

  pub homes_are : AreHomes story tellings homes
  homes_are = record {
    all = placed.all ∙ counted.all;
    before = λ m lemma telling at there.
        and_from (list_all (λ (placed : Placed). is_reached homes m placed.step.reason) telling.passage.steps) (is_reached homes m lemma.last)
        (all_each (λ (placed : Placed). is_reached homes m placed.step.reason) telling.passage.steps
        (λ i step here. reached m step.step.reason (λ k h named only. step_names_only story tellings k m h i lemma telling step at there here named only)))
        (reached m lemma.last (λ k h named only. last_names_only story tellings k m h lemma telling at there named only));
    within = within;
  }
