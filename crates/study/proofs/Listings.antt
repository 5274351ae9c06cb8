-- What holds of each listing.
use Rattle.std.proofs.Common.{◌≡◌, ◌≤◌, ◌<◌, ◌+◌, ℕ, suc, get_or, take, drop, List, [], ◌∷◌, ◌++◌, length, Bool, true, false, ◌||◌, if◌then◌else◌, ℤ, pos, negsuc, nat_abs, nat_le, Result, Ok, Err, refl, sym, ap, ◌∙◌, subst, append_assoc}
use Rattle.std.proofs.lemmas.Bool.{false≢true, and_parts, and_from, or_parts, not_from_false, leb-true}
use Rattle.std.proofs.lemmas.List.{append-nil, take_more, drop_more}
use Rattle.std.proofs.lemmas.List.Folds.{list_any-append}
use Rattle.std.specs.List.{list_any}
use Rattle.std.specs.Str.{bytes_eq}
use Rattle.vocab.specs.declared.kinds.Kind.{Kind}
use Rattle.vocab.specs.SizeFault.{is_between}
use Rattle.axiom_library.specs.Library.{Entry}
use Rattle.study.specs.declared.drafts.Draft.{Draft}
use Rattle.study.specs.declared.faults.StudyFault.{StudyFault}
use Rattle.study.specs.declared.faults.StudyFault.TheVariants as fault
use Rattle.study.specs.declared.listing.Listing.{Listing}
use Rattle.study.specs.Ballots.{sized}
use Rattle.study.specs.Listing.{limit_of, few_of, text_under_name, named_entry, listed, is_in_both, once, listing_of, have_own_names, IsListing}
use Rattle.study.specs.Refusing.{and_then, refused_as}

-- the entries of names, after those before
abbrev pub listed_after : Kind → List Entry → List Entry → List (List ℕ) → Result (List Entry) StudyFault
listed_after kind own before [] = Ok before
listed_after kind own before (name ∷ names) = and_then (λ e. listed_after kind own (before ++ e ∷ []) names) (named_entry name (text_under_name kind own name))

more_entries : (before : List Entry) (e : Entry) (found : Result (List Entry) StudyFault)
    → and_then (λ entries. Ok ((before ++ e ∷ []) ++ entries)) found ≡ and_then (λ entries. Ok (before ++ entries)) (and_then (λ entries. Ok (e ∷ entries)) found)
more_entries before e (Err f) = refl
more_entries before e (Ok entries) = ap Ok (append_assoc before (e ∷ []) entries)

one_entry : (before : List Entry) (gather : List Entry → Result (List Entry) StudyFault) (found : Result (List Entry) StudyFault)
    → ((others : List Entry) → gather others ≡ and_then (λ entries. Ok (others ++ entries)) found) → (entry : Result Entry StudyFault)
    → and_then (λ e. gather (before ++ e ∷ [])) entry ≡ and_then (λ entries. Ok (before ++ entries)) (and_then (λ e. and_then (λ entries. Ok (e ∷ entries)) found) entry)
one_entry before gather found goes_on (Err f) = refl
one_entry before gather found goes_on (Ok e) = goes_on (before ++ e ∷ []) ∙ more_entries before e found

listed_each : (kind : Kind) (own : List Entry) (names : List (List ℕ)) (before : List Entry) → listed_after kind own before names ≡ and_then (λ entries. Ok (before ++ entries)) (listed kind own names)
listed_each kind own [] before = rw append-nil
listed_each kind own (name ∷ names) before =
    one_entry before (λ others. listed_after kind own others names) (listed kind own names) (listed_each kind own names) (named_entry name (text_under_name kind own name))

all_entries : (found : Result (List Entry) StudyFault) → and_then (λ entries. Ok ([] ++ entries)) found ≡ found
all_entries (Err f) = refl
all_entries (Ok entries) = refl

pub listed_all : (kind : Kind) (own : List Entry) (names : List (List ℕ)) → listed_after kind own [] names ≡ listed kind own names
listed_all kind own names = listed_each kind own names [] ∙ all_entries (listed kind own names)

-- a step that came through came from one that did
pub record CameFrom {A B E : Type 0} (f : A → Result B E) (r : Result A E) (y : B) : Type 0 where
  pub value : A
  pub first : r ≡ Ok value
  pub after : f value ≡ Ok y

pub came_from : {A B E : Type 0} (f : A → Result B E) (r : Result A E) (y : B) → and_then f r ≡ Ok y → CameFrom f r y
came_from f (Ok x) y e = record { value = x; first = refl; after = e }
came_from f (Err x) y e = absurd cc

pub ok_once : {A E : Type 0} {x y : A} → Path (Result A E) (Ok x) (Ok y) → x ≡ y
ok_once e = cc

-- a step that was refused in other words came through before
pub known : {A E F : Type 0} (f : E → F) (r : Result A E) (x : A) → refused_as f r ≡ Ok x → r ≡ Ok x
known f (Ok y) x h = ap Ok (ok_once h)
known f (Err e) x h = absurd (cc)

between : (z : ℤ) → is_between 1 z 1000000 ≡ true → (1 ≤ nat_abs z) × (nat_abs z ≤ 1000000)
between (pos n) within = let (from, to) = and_parts (nat_le 1 n) (nat_le n 1000000) within in (leb-true 1 n from, leb-true n 1000000 to)
between (negsuc n) within = absurd (false≢true within)

limit_within : (z : ℤ) (b : Bool) (c : ℕ) → is_between 1 z 1000000 ≡ b → (if b then Ok (nat_abs z) else Err (fault.Conflicts z)) ≡ Ok c → (1 ≤ c) × (c ≤ 1000000)
limit_within z true c within e = subst (λ n. (1 ≤ n) × (n ≤ 1000000)) (ok_once e) (between z within)
limit_within z false c within e = absurd cc

few_within : (names : List (List ℕ)) (b : Bool) (u : Unit {0}) → nat_le (length names) 40 ≡ b → (if b then Ok tt else Err (fault.Many (length names))) ≡ Ok u → length names ≤ 40
few_within names true u few e = leb-true (length names) 40 few
few_within names false u few e = absurd cc

listed_length : (kind : Kind) (own : List Entry) (names : List (List ℕ)) (entries : List Entry) → listed kind own names ≡ Ok entries → length entries ≡ length names
listed_length kind own [] entries e = ap length (sym (ok_once e))
listed_length kind own (name ∷ names) entries e =
    let one = came_from (λ e. and_then (λ entries. Ok (e ∷ entries)) (listed kind own names)) (named_entry name (text_under_name kind own name)) entries e in
    let rest = came_from (λ entries. Ok (one.value ∷ entries)) (listed kind own names) entries one.after in
    ap length (sym (ok_once rest.after)) ∙ ap suc (listed_length kind own names rest.value rest.first)

-- a name that those before have is that of none after
abbrev Seen : List Entry → Entry → Type 0
Seen earlier x = (name : List ℕ) → list_any (λ other. bytes_eq other.name name) earlier ≡ false → bytes_eq x.name name ≡ false

seen_more : (earlier : List Entry) (x e : Entry) → Seen earlier x → Seen (earlier ++ e ∷ []) x
seen_more earlier x e seen name none =
    let (front, back) = or_parts (list_any (λ other. bytes_eq other.name name) earlier) (list_any (λ other. bytes_eq other.name name) (e ∷ [])) (sym (list_any-append (λ other. bytes_eq other.name name) earlier (e ∷ [])) ∙ none) in
    seen name front

seen_last : (earlier : List Entry) (e : Entry) → Seen (earlier ++ e ∷ []) e
seen_last earlier e name none =
    let (front, back) = or_parts (list_any (λ other. bytes_eq other.name name) earlier) (list_any (λ other. bytes_eq other.name name) (e ∷ [])) (sym (list_any-append (λ other. bytes_eq other.name name) earlier (e ∷ [])) ∙ none) in
    let (same, rest) = or_parts (bytes_eq e.name name) false back in
    same

record NotTwice (kind : Kind) (own earlier : List Entry) (e : Entry) (entries : List Entry) : Type 0 where
  alone : list_any (λ other. bytes_eq other.name e.name) earlier ≡ false
  more : once kind own (earlier ++ e ∷ []) entries ≡ Ok tt

not_twice : (kind : Kind) (own earlier : List Entry) (e : Entry) (entries : List Entry) (stands both : Bool) → list_any (λ other. bytes_eq other.name e.name) earlier ≡ stands → is_in_both kind own e.name ≡ both
    → (if stands || both then Err (fault.Twice e.name) else once kind own (earlier ++ e ∷ []) entries) ≡ Ok tt → NotTwice kind own earlier e entries
not_twice kind own earlier e entries true both is in_both h = absurd cc
not_twice kind own earlier e entries false true is in_both h = absurd cc
not_twice kind own earlier e entries false false is in_both h = record { alone = is; more = h }

first_not_twice : (kind : Kind) (own earlier : List Entry) (e : Entry) (entries : List Entry) → once kind own earlier (e ∷ entries) ≡ Ok tt → NotTwice kind own earlier e entries
first_not_twice kind own earlier e entries h = not_twice kind own earlier e entries _ _ refl refl h

none_later : (kind : Kind) (own earlier entries : List Entry) (x : Entry) → Seen earlier x → once kind own earlier entries ≡ Ok tt → list_any (λ other. bytes_eq x.name other.name) entries ≡ false
none_later kind own earlier [] x seen h = refl
none_later kind own earlier (e ∷ entries) x seen h =
    let one = first_not_twice kind own earlier e entries h in
    rw (seen e.name one.alone) (none_later kind own (earlier ++ e ∷ []) entries x (seen_more earlier x e seen) one.more)

own_names : (kind : Kind) (own earlier entries : List Entry) → once kind own earlier entries ≡ Ok tt → have_own_names entries ≡ true
own_names kind own earlier [] h = refl
own_names kind own earlier (e ∷ entries) h =
    let one = first_not_twice kind own earlier e entries h in
    and_from _ _ (not_from_false _ (none_later kind own (earlier ++ e ∷ []) entries e (seen_last earlier e) one.more)) (own_names kind own (earlier ++ e ∷ []) entries one.more)

-- what is listed has names of its own, and is within the limits
pub listing_whole : (draft : Draft) (listing : Listing) → listing_of draft ≡ Ok listing → IsListing listing
unfolding listing_of
listing_whole draft listing e =
    let size = came_from _ (sized draft.head) listing e in
    let limit = came_from _ (limit_of draft.head.conflicts) listing size.after in
    let few = came_from _ (few_of draft.axioms) listing limit.after in
    let entries = came_from _ (listed draft.head.kind draft.sentences draft.axioms) listing few.after in
    let alone = came_from _ (once draft.head.kind draft.sentences [] entries.value) listing entries.after in
    let (some, most) = limit_within draft.head.conflicts (is_between 1 draft.head.conflicts 1000000) limit.value refl limit.first in
    let count : length entries.value ≤ 40 = subst (λ n. n ≤ 40) (sym (listed_length draft.head.kind draft.sentences draft.axioms entries.value entries.first)) (few_within draft.axioms (nat_le (length draft.axioms) 40) few.value refl few.first) in
    subst IsListing (ok_once alone.after) (record {
      own_names = own_names draft.head.kind draft.sentences [] entries.value alone.first;
      few_axioms = count;
      some_conflicts = some;
      few_conflicts = most;
    })

-- an entry at a place
once_at : (kind : Kind) (own entries : List Entry) (place : ℕ) (e : Entry) → place < length entries → e ≡ get_or entries place e
    → once kind own (take place entries) (drop place entries)
    ≡ (if list_any (λ other. bytes_eq other.name e.name) (take place entries) || is_in_both kind own e.name then Err (fault.Twice e.name) else once kind own (take (place + 1) entries) (drop (place + 1) entries))
once_at kind own entries place e within is = rw (take_more entries place e within, drop_more entries place e within, ← is) refl

-- its name is refused
pub once_stops : (kind : Kind) (own entries : List Entry) (place : ℕ) (e : Entry) (name : List ℕ) → place < length entries → e ≡ get_or entries place e → name ≡ e.name
    → (list_any (λ other. bytes_eq other.name name) (take place entries) || is_in_both kind own name) ≡ true
    → once kind own (take place entries) (drop place entries) ≡ Err (fault.Twice name)
once_stops kind own entries place e name within is same twice =
    once_at kind own entries place e within is
    ∙ subst (λ n. (if list_any (λ other. bytes_eq other.name n) (take place entries) || is_in_both kind own n then Err (fault.Twice n) else once kind own (take (place + 1) entries) (drop (place + 1) entries)) ≡ Err (fault.Twice name)) same (rw twice refl)

-- or it is not
pub once_goes_on : (kind : Kind) (own entries : List Entry) (place : ℕ) (e : Entry) (name : List ℕ) → place < length entries → e ≡ get_or entries place e → name ≡ e.name
    → (list_any (λ other. bytes_eq other.name name) (take place entries) || is_in_both kind own name) ≡ false
    → once kind own (take (place + 1) entries) (drop (place + 1) entries) ≡ once kind own (take place entries) (drop place entries)
once_goes_on kind own entries place e name within is same alone =
    let here = subst (λ n. (list_any (λ other. bytes_eq other.name n) (take place entries) || is_in_both kind own n) ≡ false) same alone in
    sym (once_at kind own entries place e within is ∙ rw here refl)
