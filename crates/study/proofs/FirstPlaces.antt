-- The first entry of a name.
use Rattle.std.proofs.Common.{◌≡◌, ◌<◌, map, ◌+◌, ℕ, zero, suc, nat_lt, lt-ltb, le-ltb, cond, get_or, take, List, [], ◌∷◌, length, Bool, true, false, ◌||◌, if◌then◌else◌, Option, None, Some, IfSome, refl, sym, ap, ◌∙◌, subst, arith}
use Rattle.std.specs.Cmp.Lexicographic.{bytes_decides}
use Rattle.std.specs.List.{list_any, position_from}
use Rattle.std.specs.Str.{bytes_eq}
use Rattle.axiom_library.specs.Library.{Entry, text_among}

abbrev names_of : List Entry → List (List ℕ)
names_of entries = map (λ e. e.name) entries

-- a place among the names is one among the entries
pub among_names : (entries : List Entry) (name : List ℕ) (first : ℕ) → position_from (λ n. bytes_eq n name) first (names_of entries) ≡ position_from (λ e. bytes_eq e.name name) first entries
among_names [] name first = refl
among_names (e ∷ entries) name first = ap (cond (bytes_eq e.name name) (Some first)) (among_names entries name (first + 1))

-- the first entry of a name stands at a place
pub record IsFirstAt (entries : List Entry) (name : List ℕ) (place : ℕ) : Type 0 where
  pub within : place < length entries
  pub text : (d : Entry) → text_among entries name ≡ Some (get_or entries place d).text
  pub named : (d : Entry) → (get_or entries place d).name ≡ name

stands_from : (entries : List Entry) (name : List ℕ) (first place : ℕ) → position_from (λ e. bytes_eq e.name name) first entries ≡ Some place → (k : ℕ) × (place ≡ first + k) × IsFirstAt entries name k
stands_from [] name first place h = absurd cc
stands_from (e ∷ entries) name first place h = by (bytes_eq e.name name) refl h (stands_from entries name (first + 1) place)
  where
    by : (b : Bool) → bytes_eq e.name name ≡ b → cond b (Some first) (position_from (λ e. bytes_eq e.name name) (first + 1) entries) ≡ Some place
        → (position_from (λ e. bytes_eq e.name name) (first + 1) entries ≡ Some place → (k : ℕ) × (place ≡ first + 1 + k) × IsFirstAt entries name k)
        → (k : ℕ) × (place ≡ first + k) × IsFirstAt (e ∷ entries) name k
    by true same h later =
        let here : first ≡ place = cc in
        (0, omega (arith, here), record { within = omega arith; text = λ d. rw same refl; named = λ d. (bytes_decides e.name name).0 same })
    by false other h later =
        let (k, at, stands) = later h in
        (suc k, omega (arith, at), record { within = omega (arith, stands.within); text = λ d. rw other (stands.text d); named = stands.named })

pub stands_there : (entries : List Entry) (name : List ℕ) (place : ℕ) → position_from (λ e. bytes_eq e.name name) 0 entries ≡ Some place → IsFirstAt entries name place
stands_there entries name place h =
    let (k, at, stands) = stands_from entries name 0 place h in
    subst (IsFirstAt entries name) (sym (at ∙ omega arith)) stands

-- a place that may be found is among them
pub stands_within : (entries : List Entry) (name : List ℕ) (found : Option ℕ) → found ≡ position_from (λ e. bytes_eq e.name name) 0 entries → IfSome found (λ place. place < length entries)
stands_within entries name None h = tt
stands_within entries name (Some place) h = (stands_there entries name place (sym h)).within

-- where no entry has the name, there is no text under it
pub none_under : (entries : List Entry) (name : List ℕ) (first : ℕ) → position_from (λ e. bytes_eq e.name name) first entries ≡ None → text_among entries name ≡ None
none_under [] name first h = refl
none_under (e ∷ entries) name first h = by (bytes_eq e.name name) h (none_under entries name (first + 1))
  where
    by : (b : Bool) → cond b (Some first) (position_from (λ e. bytes_eq e.name name) (first + 1) entries) ≡ None
        → (position_from (λ e. bytes_eq e.name name) (first + 1) entries ≡ None → text_among entries name ≡ None) → (if b then Some e.text else text_among entries name) ≡ None
    by true h later = absurd cc
    by false h later = later h

before_first : (entries : List Entry) (name : List ℕ) (first place count : ℕ) → position_from (λ e. bytes_eq e.name name) first entries ≡ Some place
    → nat_lt place (first + count) ≡ list_any (λ e. bytes_eq e.name name) (take count entries)
before_first [] name first place count h = absurd cc
before_first (e ∷ entries) name first place zero h =
    let (k, at, stands) = stands_from (e ∷ entries) name first place h in
    le-ltb place (first + 0) (omega (arith, at))
before_first (e ∷ entries) name first place (suc count) h = by (bytes_eq e.name name) h (before_first entries name (first + 1) place count)
  where
    by : (b : Bool) → cond b (Some first) (position_from (λ x. bytes_eq x.name name) (first + 1) entries) ≡ Some place
        → (position_from (λ x. bytes_eq x.name name) (first + 1) entries ≡ Some place → nat_lt place (first + 1 + count) ≡ list_any (λ x. bytes_eq x.name name) (take count entries))
        → nat_lt place (first + suc count) ≡ (b || list_any (λ x. bytes_eq x.name name) (take count entries))
    by true h later =
        let here : first ≡ place = cc in
        lt-ltb place (first + suc count) (omega (arith, here))
    by false h later = ap (nat_lt place) (omega arith) ∙ later h

before_none : (entries : List Entry) (name : List ℕ) (first count : ℕ) → position_from (λ e. bytes_eq e.name name) first entries ≡ None → false ≡ list_any (λ e. bytes_eq e.name name) (take count entries)
before_none [] name first zero h = refl
before_none [] name first (suc count) h = refl
before_none (e ∷ entries) name first zero h = refl
before_none (e ∷ entries) name first (suc count) h = by (bytes_eq e.name name) h (before_none entries name (first + 1) count)
  where
    by : (b : Bool) → cond b (Some first) (position_from (λ x. bytes_eq x.name name) (first + 1) entries) ≡ None
        → (position_from (λ x. bytes_eq x.name name) (first + 1) entries ≡ None → false ≡ list_any (λ x. bytes_eq x.name name) (take count entries))
        → false ≡ (b || list_any (λ x. bytes_eq x.name name) (take count entries))
    by true h later = absurd cc
    by false h later = later h

-- an entry before a place has the name exactly where the first of the name stands before it
pub stands_earlier : (entries : List Entry) (name : List ℕ) (place first : ℕ) → Some first ≡ position_from (λ e. bytes_eq e.name name) 0 entries → nat_lt first place ≡ list_any (λ e. bytes_eq e.name name) (take place entries)
stands_earlier entries name place first h = ap (nat_lt first) (omega arith) ∙ before_first entries name 0 first place (sym h)

pub stands_not : (entries : List Entry) (name : List ℕ) (place : ℕ) → None ≡ position_from (λ e. bytes_eq e.name name) 0 entries → false ≡ list_any (λ e. bytes_eq e.name name) (take place entries)
stands_not entries name place h = before_none entries name 0 place (sym h)
