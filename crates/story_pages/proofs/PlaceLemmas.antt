-- Where lemmas stand in a story.
use Rattle.std.proofs.Common.{◌≡◌, ◌==◌, refl, sym, ap, ◌∙◌, subst, ℕ, zero, suc, ◌+◌, ◌<◌, ◌≤◌, nat_lt, inl, inr, true, List, [], ◌++◌, ◌&&◌, codes, length, take, arith, Option, Some, None, slice_get, eq-eqb, true≢false, append_assoc, append-nil}
use Rattle.std.specs.List.{flat_map}
use Rattle.std.proofs.lemmas.Bool.{and_parts}
use Rattle.std.proofs.lemmas.Option.{slice_get_within}
use Rattle.lists.proofs.TestLaws.{all_get}
use Rattle.vocab.specs.Range.{below}
use Rattle.vocab.specs.Size.{Extent}
use Rattle.vocab.specs.Titled.{Titled}
use Rattle.meaning.specs.declared.stories.Reason.{Reason}
use Rattle.meaning.specs.declared.stories.Lemma.{Lemma}
use Rattle.tellings.specs.Tellings.{home_of, stands_in, names_lemma, namers, is_only, takes_in, is_home_shallow, is_shallow, greatest_depth, says_step, are_said, IsStoryTold}
use Rattle.tellings.specs.declared.tellings.Placed.{Placed}
use Rattle.tellings.specs.declared.tellings.Passage.{Passage}
use Rattle.tellings.specs.declared.tellings.Sentence.{Sentence}
use Rattle.tellings.specs.declared.tellings.Telling.{Telling}
use Rattle.tellings.specs.declared.tellings.StoryTelling.{StoryTelling}
use Rattle.tellings.proofs.NamerLemmas.{IsNaming, is_lemma, only_names, only_stands, used_once}
use Rattle.story_pages.specs.Ends.{end_html}
use Rattle.story_pages.specs.Forced.{list_html, forced_html}
use Rattle.story_pages.specs.Homes.{held_by, held_lemma_html, held_step, story_item, story_items, body_html, inner_html, inner_of, inner_at, outer_html, outer_at, lemma_at, story_html}
use Rattle.story_pages.specs.Laws.{StandsIn, StandsWhereUsed, IsLemmaWritten, ForcedFactsStand, LemmasStand, LemmasStandWhereUsed}
use Rattle.story_pages.specs.Lemmas.{claimed_html, title_html, suppose_html, columns_of, table_html}
use Rattle.story_pages.specs.Sentences.{sentence_at, item_at, items_html}
use Rattle.story_pages.proofs.StandLemmas.{whole, in_front, behind, between, within, in_map, in_below, is_some}

sentence_is_there : (size : Extent) (axioms : List Titled) (core : List ℕ) (earlier : List Lemma) (passage : Passage) (i : ℕ) (placed : Placed) →
    slice_get passage.steps i ≡ Some placed → are_said size axioms core earlier passage ≡ true → placed.sentence < length passage.sentences
sentence_is_there size axioms core earlier passage i placed at said =
    cases (slice_get passage.sentences placed.sentence) refl
    (all_get (λ placed. says_step size axioms core earlier (slice_get passage.sentences placed.sentence) placed.step) passage.steps i placed said at)
  where
    cases : (o : Option Sentence) → slice_get passage.sentences placed.sentence ≡ o → says_step size axioms core earlier o placed.step ≡ true →
        placed.sentence < length passage.sentences
    cases None e s = absurd (true≢false (sym s))
    cases (Some sentence) e s = slice_get_within passage.sentences placed.sentence sentence e

in_items : (size : Extent) (axioms : List Titled) (passage : Passage) (k : ℕ) → k < length passage.sentences →
    StandsIn (sentence_at size axioms passage k) (items_html size axioms passage)
in_items size axioms passage k lt =
    within sentence (item_at size axioms passage k) (items_html size axioms passage) (between sentence (codes "<li>") sentence (codes "</li>\n") (whole sentence))
    (in_below (item_at size axioms passage) (length passage.sentences) k lt)
  where
    sentence : List ℕ
    sentence = sentence_at size axioms passage k

pub forced_stand : ForcedFactsStand
forced_stand size axioms story told k lt =
    in_front sentence (forced_html size axioms told.forced) (flat_map (lemma_at size axioms story told) (below (length story)))
    (subst (λ t. StandsIn sentence t) (sym here)
    (between sentence opening (items_html size axioms told.forced) (codes "</ol></section>\n") (in_items size axioms told.forced k lt)))
  where
    sentence : List ℕ
    sentence = sentence_at size axioms told.forced k

    opening : List ℕ
    opening = codes "<section>\n<h3>Without any supposition</h3>\n<ol class=z>\n"

    here : forced_html size axioms told.forced ≡ list_html size axioms told.forced
    here = rw (is_some (length told.forced.sentences) (omega (arith, lt))) refl

module _ (size : Extent) (axioms : List Titled) (story : List Lemma) (told : StoryTelling) where
  abbrev page : List ℕ
  page = story_html size axioms story told

  abbrev forced : List Placed
  forced = told.forced.steps

  written_in : (j : ℕ) (lemma : Lemma) (telling : Telling) (one two : List ℕ) → IsLemmaWritten size axioms forced j lemma telling one → StandsIn one two → IsLemmaWritten size axioms forced j lemma telling two
  written_in j lemma telling one two w s = record {
    claimed = λ some. within (claimed_html size (j + 1) lemma.suppose) one two (w.claimed some) s;
    supposed = within (suppose_html size lemma.suppose) one two w.supposed s;
    sentences = λ k lt. within (sentence_at size axioms telling.passage k) one two (w.sentences k lt) s;
    ending = within (end_html size axioms lemma.last telling.end) one two w.ending s;
    table = within (table_html size forced lemma telling) one two w.table s;
  }

  -- ---- a lemma, where the text of those within it is this, by their places

  module _ (inner : ℕ → List ℕ) (j : ℕ) (lemma : Lemma) (telling : Telling) where
    abbrev last : List ℕ
    last = end_html size axioms lemma.last telling.end

    abbrev table : List ℕ
    table = table_html size forced lemma telling

    abbrev sentence : ℕ → List ℕ
    sentence k = sentence_at size axioms telling.passage k

    abbrev supposed : List ℕ
    supposed = suppose_html size lemma.suppose

    abbrev claimed_text : List ℕ
    claimed_text = claimed_html size (j + 1) lemma.suppose

    abbrev body : List ℕ
    body = body_html size axioms told inner j lemma telling

    abbrev listed : List ℕ
    listed = story_items size axioms told inner j telling

    abbrev item : ℕ → List ℕ
    item = story_item size axioms told inner j telling

    abbrev held : List ℕ
    held = held_lemma_html inner (held_by told.homes j lemma.last)

    abbrev held_first : ℕ → List ℕ
    held_first k = flat_map (held_step told inner j k) telling.passage.steps

    abbrev opened : List ℕ
    opened = codes "<ol>\n" ++ listed ++ codes "</ol>\n"

    item_in : (k : ℕ) → k < length telling.passage.sentences → StandsIn (item k) body
    item_in k lt =
        in_front (item k) (opened ++ held ++ codes "<div class=e>") last
        (in_front (item k) (opened ++ held) (codes "<div class=e>")
        (in_front (item k) opened held (between (item k) (codes "<ol>\n") listed (codes "</ol>\n") (in_below item (length telling.passage.sentences) k lt))))

    sentence_in : (k : ℕ) → k < length telling.passage.sentences → StandsIn (sentence k) body
    sentence_in k lt = within (sentence k) (item k) body (between (sentence k) (codes "<li>" ++ held_first k) (sentence k) (codes "</li>\n") (whole (sentence k))) (item_in k lt)

    last_in : StandsIn last body
    last_in = behind last (opened ++ held ++ codes "<div class=e>") last (whole last)

    -- the end, after the lemma that stands in front of it
    held_in_front : StandsIn (held ++ codes "<div class=e>" ++ last) body
    held_in_front = record {
      before = opened;
      after = [];
      is = ap (λ (l : List ℕ). l ++ last) (append_assoc opened held (codes "<div class=e>"))
          ∙ append_assoc opened (held ++ codes "<div class=e>") last
          ∙ ap (λ (l : List ℕ). opened ++ l) (sym (append-nil (held ++ codes "<div class=e>" ++ last)));
    }

    -- ---- between what stands in front of the body and what stands behind it

    module _ (front stop close : List ℕ) where
      abbrev framed : List ℕ
      framed = front ++ body ++ stop ++ table ++ close

      body_framed : StandsIn body framed
      body_framed = in_front body (front ++ body ++ stop ++ table) close (in_front body (front ++ body ++ stop) table (between body front body stop (whole body)))

      in_framed : (part : List ℕ) → StandsIn part front → StandsIn part framed
      in_framed part s = in_front part (front ++ body ++ stop ++ table) close (in_front part (front ++ body ++ stop) table (in_front part (front ++ body) stop (in_front part front body s)))

      framed_written : (0 < length lemma.suppose → StandsIn claimed_text front) → StandsIn supposed front → IsLemmaWritten size axioms forced j lemma telling framed
      framed_written claims supposes = record {
        claimed = λ some. in_framed claimed_text (claims some);
        supposed = in_framed supposed supposes;
        sentences = λ k lt. within (sentence k) body framed (sentence_in k lt) body_framed;
        ending = within last body framed last_in body_framed;
        table = between table (front ++ body ++ stop) table close (whole table);
      }

    -- within another lemma, and by itself

    abbrev claim : List ℕ
    claim = codes "<div class=c>" ++ columns_of size lemma.suppose ++ codes "<b>" ++ claimed_text ++ codes ".</b>\n"

    inner_written : IsLemmaWritten size axioms forced j lemma telling (inner_html size axioms told inner j lemma telling)
    inner_written =
        framed_written (claim ++ supposed) (codes ". This cannot be.</div>\n") (codes "</div>\n")
        (λ some.
        in_front claimed_text claim supposed
        (between claimed_text (codes "<div class=c>" ++ columns_of size lemma.suppose ++ codes "<b>") claimed_text (codes ".</b>\n") (whole claimed_text)))
        (behind supposed claim supposed (whole supposed))

    inner_body : StandsIn body (inner_html size axioms told inner j lemma telling)
    inner_body = body_framed (claim ++ supposed) (codes ". This cannot be.</div>\n") (codes "</div>\n")

    abbrev headline : List ℕ
    headline = title_html size (j + 1 == length told.lemmas) (j + 1) lemma.suppose

    abbrev title : List ℕ
    title = codes "<section>\n<h3>" ++ headline ++ codes "</h3>\n" ++ columns_of size lemma.suppose

    claimed_in_front : 0 < length lemma.suppose → StandsIn claimed_text title
    claimed_in_front some =
        in_front claimed_text (codes "<section>\n<h3>" ++ headline ++ codes "</h3>\n") (columns_of size lemma.suppose)
        (between claimed_text (codes "<section>\n<h3>") headline (codes "</h3>\n") (subst (λ t. StandsIn claimed_text t) (sym here) (whole claimed_text)))
      where
        here : headline ≡ claimed_text
        here = rw (is_some (length lemma.suppose) some) refl

    outer_written : IsLemmaWritten size axioms forced j lemma telling (outer_html size axioms told inner j lemma telling)
    outer_written =
        framed_written (title ++ supposed) (codes ".</div>\n") (codes "</section>\n") (λ some. in_front claimed_text title supposed (claimed_in_front some))
        (behind supposed title supposed (whole supposed))

    outer_body : StandsIn body (outer_html size axioms told inner j lemma telling)
    outer_body = body_framed (title ++ supposed) (codes ".</div>\n") (codes "</section>\n")

  -- ---- a lemma that stands within another

  held_is : (h j : ℕ) → home_of told.homes j ≡ Some h → (reason : Reason) → names_lemma j reason ≡ true → held_by told.homes h reason ≡ Some j
  held_is h j home reason e = subst (λ (r : Reason). held_by told.homes h r ≡ Some j) (sym (is_lemma j reason e)) (rw (home, eq-eqb h h refl) refl)

  module _ (inner : ℕ → List ℕ) (h j : ℕ) (user : Lemma) (how : Telling) (home : home_of told.homes j ≡ Some h) where
    -- by a step, in front of the sentence, and by the last reason, in front of the end
    step_held : (i : ℕ) (placed : Placed) → slice_get how.passage.steps i ≡ Some placed → names_lemma j placed.step.reason ≡ true → StandsIn (inner j) (held_first inner h user how placed.sentence)
    step_held i placed at named =
        subst (λ t. StandsIn t (held_first inner h user how placed.sentence)) here (in_map (held_step told inner h placed.sentence) how.passage.steps i placed at)
      where
        here : held_step told inner h placed.sentence placed ≡ inner j
        here = rw (eq-eqb placed.sentence placed.sentence refl, held_is h j home placed.step.reason named) refl

    last_held : names_lemma j user.last ≡ true → held inner h user how ≡ inner j
    last_held named = ap (held_lemma_html inner) (held_is h j home user.last named)

  -- the text of the lemma at a place, one level less
  pub one_less : (n m place : ℕ) → n ≡ suc m → inner_at size axioms story told n place ≡ inner_of size axioms told (inner_at size axioms story told m) place (slice_get story place) (slice_get told.lemmas place)
  one_less n m place is = ap (λ (k : ℕ). inner_at size axioms story told k place) is

  alone_in : (h : ℕ) → h < length story → home_of told.homes h ≡ None → StandsIn (outer_at size axioms story told h) page
  alone_in h lt e =
      behind (outer_at size axioms story told h) (forced_html size axioms told.forced) (flat_map at_place (below (length story)))
      (subst (λ t. StandsIn t (flat_map at_place (below (length story)))) here (in_below at_place (length story) h lt))
    where
      at_place : ℕ → List ℕ
      at_place = lemma_at size axioms story told

      here : lemma_at size axioms story told h ≡ outer_at size axioms story told h
      here = rw e refl

  -- the body of the lemma at a place stands on the page, with lemmas so deep within it, and so does all else that is told of it
  record Stands (j : ℕ) (lemma : Lemma) (telling : Telling) (n : ℕ) : Type 0 where
    depth : ℕ
    enough : greatest_depth < depth + n
    body_there : StandsIn (body_html size axioms told (inner_at size axioms story told depth) j lemma telling) page
    written_there : IsLemmaWritten size axioms forced j lemma telling page

  module _ (core : List ℕ) (right : IsStoryTold size axioms core story told) where
    said_in : (h : ℕ) (user : Lemma) (how : Telling) → slice_get story h ≡ Some user → slice_get told.lemmas h ≡ Some how → (i : ℕ) (placed : Placed) → slice_get how.passage.steps i ≡ Some placed →
        placed.sentence < length how.passage.sentences
    said_in h user how a b i placed at = sentence_is_there size axioms core (take h story) how.passage i placed at (right.each h user how a b).said

    -- the one that takes a lemma in has it before the sentence or the end that names it
    taken_in : (inner : ℕ → List ℕ) (h j : ℕ) (user : Lemma) (how : Telling) → home_of told.homes j ≡ Some h → slice_get story h ≡ Some user → slice_get told.lemmas h ≡ Some how →
        IsNaming j user how → StandsIn (inner j) (body_html size axioms told inner h user how)
    taken_in inner h j user how home a b naming = elim naming.by [
      | inl step ↦
          let k = step.1.sentence in
          within (inner j) (item inner h user how k) (body inner h user how)
          (in_front (inner j) (codes "<li>" ++ held_first inner h user how k ++ sentence inner h user how k) (codes "</li>\n")
          (in_front (inner j) (codes "<li>" ++ held_first inner h user how k) (sentence inner h user how k)
          (behind (inner j) (codes "<li>") (held_first inner h user how k) (step_held inner h j user how home step.0 step.1 step.2 step.3))))
          (item_in inner h user how k (said_in h user how a b step.0 step.1 step.2))
      | inr last' ↦
          let end = last inner h user how in
          subst (λ t. StandsIn t (body inner h user how)) (last_held inner h j user how home last')
          (within (held inner h user how) (held inner h user how ++ codes "<div class=e>" ++ end) (body inner h user how)
          (in_front (held inner h user how) (held inner h user how ++ codes "<div class=e>") end (in_front (held inner h user how) (held inner h user how) (codes "<div class=e>") (whole (held inner h user how))))
          (held_in_front inner h user how))
    ]

    -- a lemma with lemmas less deep within it than the one that it stands in
    inside : (j h : ℕ) (lemma : Lemma) (telling : Telling) (user : Lemma) (how : Telling) (n depth : ℕ) → slice_get story j ≡ Some lemma → slice_get told.lemmas j ≡ Some telling → slice_get story h ≡ Some user →
        slice_get told.lemmas h ≡ Some how → home_of told.homes j ≡ Some h → IsNaming j user how → n < suc greatest_depth → greatest_depth < depth + n →
        StandsIn (body_html size axioms told (inner_at size axioms story told depth) h user how) page → Stands j lemma telling (suc n)
    inside j h lemma telling user how n zero a b c d home naming few enough there = absurd (omega (arith, few, enough))
    inside j h lemma telling user how n (suc depth) a b c d home naming few enough there =
        let here : inner_at size axioms story told (suc depth) j ≡ inner_html size axioms told (inner_at size axioms story told depth) j lemma telling = rw (a, b) refl in
        let text : StandsIn (inner_html size axioms told (inner_at size axioms story told depth) j lemma telling) page =
        subst (λ t. StandsIn t page) here
        (within (inner_at size axioms story told (suc depth) j) (body_html size axioms told (inner_at size axioms story told (suc depth)) h user how) page
        (taken_in (inner_at size axioms story told (suc depth)) h j user how home c d naming) there) in
        record {
          depth = depth;
          enough = omega (arith, enough);
          body_there = within (body_html size axioms told (inner_at size axioms story told depth) j lemma telling) (inner_html size axioms told (inner_at size axioms story told depth) j lemma telling) page
              (inner_body (inner_at size axioms story told depth) j lemma telling) text;
          written_there = written_in j lemma telling (inner_html size axioms told (inner_at size axioms story told depth) j lemma telling) page
              (inner_written (inner_at size axioms story told depth) j lemma telling) text;
        }

    stands : (n j : ℕ) (lemma : Lemma) (telling : Telling) → n ≤ suc greatest_depth → slice_get story j ≡ Some lemma → slice_get told.lemmas j ≡ Some telling → is_shallow told.homes n j ≡ true → Stands j lemma telling n
    stands zero j lemma telling few a b h = absurd (true≢false (sym h))
    stands (suc n) j lemma telling few a b h = cases (stands n) (home_of told.homes j) refl h
      where
        cases : ((m : ℕ) (user : Lemma) (how : Telling) → n ≤ suc greatest_depth → slice_get story m ≡ Some user → slice_get told.lemmas m ≡ Some how → is_shallow told.homes n m ≡ true → Stands m user how n) →
            (o : Option ℕ) → home_of told.homes j ≡ o → is_home_shallow (is_shallow told.homes n) o ≡ true → Stands j lemma telling (suc n)
        cases ih None e s =
            let deep : ℕ → List ℕ = inner_at size axioms story told greatest_depth in
            let here : outer_at size axioms story told j ≡ outer_html size axioms told deep j lemma telling = rw (a, b) refl in
            let text : StandsIn (outer_html size axioms told deep j lemma telling) page = subst (λ t. StandsIn t page) here (alone_in j (slice_get_within story j lemma a) e) in
            record {
              depth = greatest_depth;
              enough = omega arith;
              body_there = within (body_html size axioms told deep j lemma telling) (outer_html size axioms told deep j lemma telling) page (outer_body deep j lemma telling) text;
              written_there = written_in j lemma telling (outer_html size axioms told deep j lemma telling) page (outer_written deep j lemma telling) text;
            }
        cases ih (Some m) e s =
            let own : stands_in m (home_of told.homes j) ≡ true = rw (e, eq-eqb m m refl) refl in
            let taken : takes_in told.homes (namers story told.lemmas j) j m ≡ true = sym (right.placed.within j m (slice_get_within story j lemma a)) ∙ own in
            let only = (and_parts (nat_lt j m && is_shallow told.homes greatest_depth m) (is_only m (namers story told.lemmas j)) taken).1 in
            let user = only_stands story told.lemmas j m only in
            let up = ih m user.0 user.1 (omega (arith, few)) user.2 user.3 s in
            inside j m lemma telling user.0 user.1 n up.depth a b user.2 user.3 e (only_names story told.lemmas j m user.0 user.1 user.2 user.3 only) (omega (arith, few)) up.enough up.body_there

    -- no lemma stands deeper
    all_shallow : (j : ℕ) (lemma : Lemma) → slice_get story j ≡ Some lemma → is_shallow told.homes (suc greatest_depth) j ≡ true
    all_shallow j lemma a = cases (home_of told.homes j) refl
      where
        cases : (o : Option ℕ) → home_of told.homes j ≡ o → is_home_shallow (is_shallow told.homes greatest_depth) o ≡ true
        cases None e = refl
        cases (Some m) e =
            let own : stands_in m (home_of told.homes j) ≡ true = rw (e, eq-eqb m m refl) refl in
            let taken : takes_in told.homes (namers story told.lemmas j) j m ≡ true = sym (right.placed.within j m (slice_get_within story j lemma a)) ∙ own in
            (and_parts (nat_lt j m) (is_shallow told.homes greatest_depth m) (and_parts (nat_lt j m && is_shallow told.homes greatest_depth m) (is_only m (namers story told.lemmas j)) taken).0).1

    written : (j : ℕ) (lemma : Lemma) (telling : Telling) → slice_get story j ≡ Some lemma → slice_get told.lemmas j ≡ Some telling → IsLemmaWritten size axioms forced j lemma telling page
    written j lemma telling a b = (stands (suc greatest_depth) j lemma telling (omega arith) a b (all_shallow j lemma a)).written_there

    -- where a lemma is used once
    where_used : (j m : ℕ) (lemma : Lemma) (telling : Telling) (user : Lemma) (how : Telling) (depth : ℕ) → slice_get story j ≡ Some lemma → slice_get told.lemmas j ≡ Some telling → slice_get story m ≡ Some user → slice_get told.lemmas m ≡ Some how →
        home_of told.homes j ≡ Some m → greatest_depth < depth + greatest_depth → StandsIn (body_html size axioms told (inner_at size axioms story told depth) m user how) page →
        StandsWhereUsed size axioms forced j lemma telling user how page
    where_used j m lemma telling user how zero a b c d home enough there = absurd (omega (arith, enough))
    where_used j m lemma telling user how (suc depth) a b c d home enough there = record {
      text = inner_html size axioms told (inner_at size axioms story told depth) j lemma telling;
      written = inner_written (inner_at size axioms story told depth) j lemma telling;
      by_step = λ k placed at named. record {
        held = held_first inner m user how placed.sentence;
        first = subst (λ t. StandsIn t (held_first inner m user how placed.sentence)) here (step_held inner m j user how home k placed at named);
        item = within (item inner m user how placed.sentence) (body inner m user how) page (item_in inner m user how placed.sentence (said_in m user how c d k placed at)) there;
      };
      by_last = λ named.
          let own : held inner m user how ≡ inner_html size axioms told (inner_at size axioms story told depth) j lemma telling = last_held inner m j user how home named ∙ here in
          subst (λ t. StandsIn (t ++ codes "<div class=e>" ++ last inner m user how) page) own
          (within (held inner m user how ++ codes "<div class=e>" ++ last inner m user how) (body inner m user how) page (held_in_front inner m user how) there);
    }
      where
        inner : ℕ → List ℕ
        inner = inner_at size axioms story told (suc depth)

        here : inner j ≡ inner_html size axioms told (inner_at size axioms story told depth) j lemma telling
        here = rw (a, b) refl

pub stand : LemmasStand
stand size axioms core story told right j lemma telling a b = written size axioms story told core right j lemma telling a b

pub stand_where_used : LemmasStandWhereUsed
stand_where_used size axioms core story told right j m lemma telling user how a b c d names shallow =
    let home = used_once size axioms core story told right j m names shallow in
    let up = stands size axioms story told core right greatest_depth m user how (omega arith) c d shallow in
    where_used size axioms story told core right j m lemma telling user how up.depth a b c d home up.enough up.body_there
