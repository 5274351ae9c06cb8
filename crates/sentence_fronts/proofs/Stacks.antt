-- What a lexeme makes of a stack.
use Rattle.std.proofs.Common.{◌≡◌, Bool, true, false, not, ◌||◌, List, [], ◌∷◌, ◌++◌, length, take, refl, sym, ap, ◌∙◌, subst, Option, Some, None, append_assoc}
use Rattle.std.specs.List.{list_all}
use Rattle.std.proofs.Math.Seq.{take-append_seam}
use Rattle.std.proofs.lemmas.Bool.{and_from, and_parts}
use Rattle.vocab.specs.NamedTree.{NamedTree}
use Rattle.syntax.specs.declared.lexemes.Lexeme.{Lexeme}
use Rattle.syntax.specs.Grammar.{IsFormula, atom, equal}
use Rattle.syntax.proofs.Unique.{no_term_empty}
use Rattle.sentence_fronts.specs.declared.expected.Symbol.{Symbol}
use Rattle.sentence_fronts.specs.declared.expected.Symbol.TheVariants as symbol
use Rattle.sentence_fronts.specs.declared.lexeme_kinds.LexemeKind.{LexemeKind}
use Rattle.sentence_fronts.specs.declared.lexeme_kinds.LexemeKind.TheVariants as kind
use Rattle.sentence_fronts.specs.LexemeKinds.{kind_of}
use Rattle.sentence_fronts.specs.Expected.{Derives, a_formula, call_whole, no_call, a_term, Goes, Completes, expected_after, may_end, may_be_longer, is_closing, is_settled_above, is_settled, RefusesKind, Leads}
use Rattle.sentence_fronts.proofs.Moves.{moves, ends, ahead, one}
use Rattle.sentence_fronts.proofs.Backs.{GoesOn, one_of, back}
use Rattle.sentence_fronts.proofs.Hopes.{Hopes, hope}
use Rattle.std.proofs.lemmas.Option.{same_Some}

-- ---- stacks in two parts

goes_append : (below above : List Symbol) (ls mid rest : List Lexeme) → Goes above ls mid → Goes below mid rest → Goes (below ++ above) ls rest
goes_append [] above ls mid rest g e = subst (λ m. Goes above ls m) e g
goes_append (a ∷ below) above ls mid rest g h = (h.0, goes_append below above ls mid h.0 g h.1, h.2)

goes_split : (below above : List Symbol) (ls rest : List Lexeme) → Goes (below ++ above) ls rest → (mid : List Lexeme) × Goes above ls mid × Goes below mid rest
goes_split [] above ls rest g = (rest, g, refl)
goes_split (a ∷ below) above ls rest g = let s = goes_split below above ls g.0 g.1 in (s.0, s.1, (g.0, s.2, g.2))

top_split : (below : List Symbol) (top : Symbol) (ls : List Lexeme) → Completes (below ++ top ∷ []) ls → (mid : List Lexeme) × Derives top ls mid × Completes below mid
top_split below top ls g = let s = goes_split below (top ∷ []) ls [] g in (s.0, one_of top ls s.0 s.1, s.2)

top_join : (below : List Symbol) (top : Symbol) (ls mid : List Lexeme) → Derives top ls mid → Completes below mid → Completes (below ++ top ∷ []) ls
top_join below top ls mid d g = goes_append below (top ∷ []) ls mid [] (one d) g

-- ---- settled stacks

-- whether the last symbol is a closing one
is_floor : Bool → List Symbol → Bool
is_floor closing [] = closing
is_floor closing (a ∷ above) = is_floor (is_closing a) above

settled_split : (c : Bool) (xs ys : List Symbol) → is_settled_above c (xs ++ ys) ≡ true → (is_settled_above c xs ≡ true) × (is_settled_above (is_floor c xs) ys ≡ true)
unfolding is_floor
settled_split c [] ys h = (refl, h)
settled_split c (a ∷ xs) ys h =
    let p = and_parts (not (may_be_longer a) || c) (is_settled_above (is_closing a) (xs ++ ys)) h in
    let s = settled_split (is_closing a) xs ys p.1 in
    (and_from _ _ p.0 s.0, s.1)

settled_join : (c : Bool) (xs ys : List Symbol) → is_settled_above c xs ≡ true → is_settled_above (is_floor c xs) ys ≡ true → is_settled_above c (xs ++ ys) ≡ true
unfolding is_floor
settled_join c [] ys h k = k
settled_join c (a ∷ xs) ys h k =
    let p = and_parts (not (may_be_longer a) || c) (is_settled_above (is_closing a) xs) h in
    and_from _ _ p.0 (settled_join (is_closing a) xs ys p.1 k)

abbrev settled_after : Bool → Option (List Symbol) → Bool
settled_after c None = true
settled_after c (Some ps) = is_settled_above c ps

keeps : (a : Symbol) (k : LexemeKind) (c : Bool) → (not (may_be_longer a) || c) ≡ true → settled_after c (expected_after a k) ≡ true
keeps symbol.Formula kind.Quantifier c h = let e : c ≡ true = h in rw e refl
keeps symbol.Formula kind.Not c h = let e : c ≡ true = h in rw e refl
keeps symbol.Formula kind.Name c h = let e : c ≡ true = h in rw e refl
keeps symbol.Formula kind.Sort c h = let e : c ≡ true = h in rw e refl
keeps symbol.Formula kind.Voter c h = let e : c ≡ true = h in rw e refl
keeps symbol.Formula kind.Alt c h = let e : c ≡ true = h in rw e refl
keeps symbol.Formula kind.Ballot c h = let e : c ≡ true = h in rw e refl
keeps symbol.AfterName kind.Open c h = let e : c ≡ true = h in rw e refl
keeps symbol.AfterName kind.Equals c h = let e : c ≡ true = h in rw e refl
keeps symbol.AfterCall kind.Equals c h = let e : c ≡ true = h in rw e refl
keeps symbol.Term kind.Name c h = let e : c ≡ true = h in rw e refl
keeps symbol.Term kind.Sort c h = let e : c ≡ true = h in rw e refl
keeps symbol.Formula kind.Open c h = refl
keeps symbol.Joint kind.And c h = refl
keeps symbol.Joint kind.Or c h = refl
keeps symbol.Joint kind.Implies c h = refl
keeps symbol.Joint kind.Same c h = refl
keeps symbol.MoreAnds kind.And c h = refl
keeps symbol.MoreAnds kind.Close c h = refl
keeps symbol.MoreOrs kind.Or c h = refl
keeps symbol.MoreOrs kind.Close c h = refl
keeps symbol.Term kind.Voter c h = refl
keeps symbol.Term kind.Alt c h = refl
keeps symbol.Term kind.Ballot c h = refl
keeps symbol.MayCall kind.Open c h = refl
keeps symbol.MoreTerms kind.Comma c h = refl
keeps symbol.MoreTerms kind.Close c h = refl
keeps symbol.Variable kind.Name c h = refl
keeps symbol.Variable kind.Sort c h = refl
keeps symbol.Sort kind.Sort c h = refl
keeps symbol.Colon kind.Colon c h = refl
keeps symbol.Dot kind.Dot c h = refl
keeps symbol.Close kind.Close c h = refl
keeps symbol.Equals kind.Equals c h = refl
keeps _ _ c h = refl

-- ---- "(" and "=" after what may be longer

is_longer : LexemeKind → Bool
is_longer kind.Open = true
is_longer kind.Equals = true
is_longer _ = false

longer_at : (a : Symbol) (k : LexemeKind) (ps : List Symbol) → may_end a ≡ true → expected_after a k ≡ Some ps → is_longer k ≡ true
unfolding is_longer
longer_at symbol.AfterCall kind.Equals ps h e = refl
longer_at symbol.MayCall kind.Open ps h e = refl
longer_at _ _ ps h e = absurd cc

none_at : (a : Symbol) (k : LexemeKind) → is_closing a ≡ true → is_longer k ≡ true → expected_after a k ≡ None
unfolding is_longer
none_at symbol.Joint kind.Open h e = refl
none_at symbol.Joint kind.Equals h e = refl
none_at symbol.MoreAnds kind.Open h e = refl
none_at symbol.MoreAnds kind.Equals h e = refl
none_at symbol.MoreOrs kind.Open h e = refl
none_at symbol.MoreOrs kind.Equals h e = refl
none_at symbol.MoreTerms kind.Open h e = refl
none_at symbol.MoreTerms kind.Equals h e = refl
none_at symbol.Close kind.Open h e = refl
none_at symbol.Close kind.Equals h e = refl
none_at _ _ h e = absurd cc

closing_not_empty : (a : Symbol) → is_closing a ≡ true → may_end a ≡ true → ⊥
closing_not_empty symbol.AfterCall h e = cc
closing_not_empty symbol.MayCall h e = cc
closing_not_empty _ h e = cc

ending_longer : (a : Symbol) → may_end a ≡ true → may_be_longer a ≡ true
ending_longer symbol.AfterCall h = refl
ending_longer symbol.MayCall h = refl
ending_longer _ h = absurd cc

closing_stops : (a : Symbol) (l : Lexeme) (ls rest : List Lexeme) → is_closing a ≡ true → is_longer (kind_of l) ≡ true → Derives a (l ∷ ls) rest → ⊥
closing_stops a l ls rest h e d =
    elim (ahead d) [
      | moves ps p g ↦ (let n = none_at a (kind_of l) h e in cc)
      | ends t u ↦ closing_not_empty a h t
    ]

floor_stops : (xs : List Symbol) (l : Lexeme) (ls rest : List Lexeme) → is_floor false xs ≡ true → is_longer (kind_of l) ≡ true → Goes xs (l ∷ ls) rest → ⊥
unfolding is_floor
floor_stops [] l ls rest h e g = cc
floor_stops (a ∷ []) l ls rest h e g = closing_stops a l ls rest h e (one_of a (l ∷ ls) rest g)
floor_stops (a ∷ b ∷ xs) l ls rest h e g = floor_stops (b ∷ xs) l ls g.0 h e g.1

below_stops : (xs : List Symbol) (l : Lexeme) (ls : List Lexeme) → is_floor true xs ≡ true → is_longer (kind_of l) ≡ true → Completes xs (l ∷ ls) → ⊥
unfolding is_floor
below_stops [] l ls h e g = cc
below_stops (a ∷ xs) l ls h e g = floor_stops (a ∷ xs) l ls [] h e g

floor_of : (below : List Symbol) (top : Symbol) → is_settled (below ++ top ∷ []) ≡ true → (not (may_be_longer top) || is_floor true below) ≡ true
floor_of below top h =
    let s = settled_split true below (top ∷ []) h in
    (and_parts (not (may_be_longer top) || is_floor true below) true s.1).0

floor_below : (b c : Bool) → b ≡ true → (not b || c) ≡ true → c ≡ true
floor_below true c h k = k
floor_below false c h k = absurd cc

-- ---- the last symbol takes the lexeme

leads_top : (below ps : List Symbol) (top : Symbol) (k : LexemeKind) → is_settled (below ++ top ∷ []) ≡ true → expected_after top k ≡ Some ps → Leads (below ++ top ∷ []) k (below ++ ps)
leads_top below ps top k settled h = record {
  on = λ l rest e g.
      let s = top_split below top (l ∷ rest) g in
      let at : expected_after top (kind_of l) ≡ Some ps = ap (expected_after top) e ∙ h in
      elim (ahead s.1) [
        | moves qs q m ↦ goes_append below ps rest s.0 [] (subst (λ x. Goes x rest s.0) (same_Some _ _ (sym q ∙ at)) m) s.2
        | ends t u ↦ absurd (below_stops below l rest (floor_below (may_be_longer top) _ (ending_longer top t) (floor_of below top settled)) (longer_at top (kind_of l) ps t at) (subst (λ m. Completes below m) u s.2))
      ];
  back = λ l rest e g.
      let s = goes_split below ps rest [] g in
      let at : expected_after top (kind_of l) ≡ Some ps = ap (expected_after top) e ∙ h in
      top_join below top (l ∷ rest) s.0 (back top l rest s.0 (subst (λ x. GoesOn x rest s.0) (sym at) s.1)) s.2;
  some = λ ls g.
      let s = top_split below top ls g in
      let w : Hopes (Some ps) s.0 = subst (λ x. Hopes x s.0) h (hope top k s.0) in
      (w.0, goes_append below ps w.0 s.0 [] w.1 s.2);
  settled =
      let s = settled_split true below (top ∷ []) settled in
      let t : settled_after (is_floor true below) (Some ps) ≡ true = subst (λ x. settled_after (is_floor true below) x ≡ true) h (keeps top k (is_floor true below) (floor_of below top settled)) in
      settled_join true below ps s.0 t;
}

-- ---- symbols that stand for no lexeme

empty_at : (a : Symbol) → may_end a ≡ true → (ls : List Lexeme) → Derives a ls ls
empty_at symbol.AfterCall h ls = call_whole
empty_at symbol.MayCall h ls = no_call
empty_at _ h ls = absurd cc

-- What stands above the rest stands for no lexeme, before one of this kind.
pub record Passes (stack : List Symbol) (k : LexemeKind) (rest : List Symbol) : Type 0 where
  pub above : List Symbol
  pub whole : stack ≡ rest ++ above
  pub on : (l : Lexeme) (ls : List Lexeme) → kind_of l ≡ k → Completes stack (l ∷ ls) → Completes rest (l ∷ ls)
  pub back : (l : Lexeme) (ls : List Lexeme) → kind_of l ≡ k → Completes rest (l ∷ ls) → Completes stack (l ∷ ls)
  pub some : (ls : List Lexeme) → Completes stack ls → (ms : List Lexeme) × Completes rest ms
  pub settled : is_settled rest ≡ true

only_ends : (below : List Symbol) (top : Symbol) (k : LexemeKind) (l : Lexeme) (ls : List Lexeme) → expected_after top k ≡ None → kind_of l ≡ k → Completes (below ++ top ∷ []) (l ∷ ls) → (may_end top ≡ true) × Completes below (l ∷ ls)
only_ends below top k l ls h e g =
    let s = top_split below top (l ∷ ls) g in
    let at : expected_after top (kind_of l) ≡ None = ap (expected_after top) e ∙ h in
    elim (ahead s.1) [
      | moves qs q m ↦ absurd cc
      | ends t u ↦ (t, subst (λ m. Completes below m) u s.2)
    ]

pub passes_more : (stack rest below : List Symbol) (top : Symbol) (k : LexemeKind) → Passes stack k rest → rest ≡ below ++ top ∷ [] → expected_after top k ≡ None → may_end top ≡ true → Passes stack k below
passes_more stack rest below top k p e h t = record {
  above = top ∷ p.above;
  whole = p.whole ∙ ap (λ x. x ++ p.above) e ∙ append_assoc below (top ∷ []) p.above;
  on = λ l ls i g. (only_ends below top k l ls h i (subst (λ x. Completes x (l ∷ ls)) e (p.on l ls i g))).1;
  back = λ l ls i g. p.back l ls i (subst (λ x. Completes x (l ∷ ls)) (sym e) (top_join below top (l ∷ ls) (l ∷ ls) (empty_at top t (l ∷ ls)) g));
  some = λ ls g. (let n = p.some ls g in let s = top_split below top n.0 (subst (λ x. Completes x n.0) e n.1) in (s.0, s.2));
  settled = (settled_split true below (top ∷ []) (subst (λ x. is_settled x ≡ true) e p.settled)).0;
}

pub step_found : (stack rest below ps : List Symbol) (top : Symbol) (k : LexemeKind) → Passes stack k rest → rest ≡ below ++ top ∷ [] → expected_after top k ≡ Some ps → Leads stack k (take (length below) stack ++ ps)
step_found stack rest below ps top k p e h =
    let stays : take (length below) stack ≡ below = ap (take (length below)) (p.whole ∙ ap (λ x. x ++ p.above) e ∙ append_assoc below (top ∷ []) p.above) ∙ take-append_seam below (top ∷ p.above) in
    let leads = leads_top below ps top k (subst (λ x. is_settled x ≡ true) e p.settled) h in
    subst (λ x. Leads stack k (x ++ ps)) (sym stays) (record {
      on = λ l ls i g. leads.on l ls i (subst (λ x. Completes x (l ∷ ls)) e (p.on l ls i g));
      back = λ l ls i g. p.back l ls i (subst (λ x. Completes x (l ∷ ls)) (sym e) (leads.back l ls i g));
      some = λ ls g. (let n = p.some ls g in leads.some n.0 (subst (λ x. Completes x n.0) e n.1));
      settled = leads.settled;
    })

pub step_refused : (stack rest below : List Symbol) (top : Symbol) (k : LexemeKind) → Passes stack k rest → rest ≡ below ++ top ∷ [] → expected_after top k ≡ None → may_end top ≡ false → RefusesKind stack k
step_refused stack rest below top k p e h t l ls i g =
    let o = only_ends below top k l ls h i (subst (λ x. Completes x (l ∷ ls)) e (p.on l ls i g)) in
    let a = o.0 in
    cc

-- ---- where a sentence may end

pub complete_of : (stack : List Symbol) → list_all may_end stack ≡ true → Completes stack []
complete_of [] h = refl
complete_of (a ∷ above) h = let p = and_parts (may_end a) (list_all may_end above) h in ([], complete_of above p.1, empty_at a p.0 [])

no_formula : {f : NamedTree} {rest : List Lexeme} → IsFormula [] f rest → ⊥
no_formula (atom (equal d e)) = no_term_empty d

empty_derives : {a : Symbol} {rest : List Lexeme} → Derives a [] rest → (may_end a ≡ true) × (rest ≡ [])
empty_derives (a_formula d) = absurd (no_formula d)
empty_derives (a_term d) = absurd (no_term_empty d)
empty_derives call_whole = (refl, refl)
empty_derives no_call = (refl, refl)

all_end : (stack : List Symbol) (rest : List Lexeme) → Goes stack [] rest → (list_all may_end stack ≡ true) × (rest ≡ [])
all_end [] rest g = (refl, sym g)
all_end (a ∷ above) rest g =
    let s = all_end above g.0 g.1 in
    let d = empty_derives (subst (λ m. Derives a m rest) s.1 g.2) in
    (and_from _ _ d.0 s.0, d.1)

pub completes_ends : (stack : List Symbol) → Completes stack [] → list_all may_end stack ≡ true
completes_ends stack g = (all_end stack [] g).0
