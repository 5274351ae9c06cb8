-- Something comes after each lexeme that may come.
use Rattle.std.proofs.Common.{List, [], ◌∷◌, refl, codes, Option, Some, None}
use Rattle.vocab.specs.declared.kinds.Sort.TheVariants as sort
use Rattle.syntax.specs.declared.lexemes.Joint.TheVariants as joint
use Rattle.syntax.specs.declared.lexemes.Lexeme.{Lexeme}
use Rattle.syntax.specs.declared.lexemes.Lexeme.TheVariants as lexeme
use Rattle.syntax.specs.Grammar.{IsFree, variable, equal, atom, last_part}
use Rattle.sentence_fronts.specs.declared.expected.Symbol.{Symbol}
use Rattle.sentence_fronts.specs.declared.expected.Symbol.TheVariants as symbol
use Rattle.sentence_fronts.specs.declared.lexeme_kinds.LexemeKind.{LexemeKind}
use Rattle.sentence_fronts.specs.declared.lexeme_kinds.LexemeKind.TheVariants as kind
use Rattle.sentence_fronts.specs.Expected.{Derives, a_formula, name_equal, call_whole, a_joint, no_more_ands, no_more_ors, a_term, no_call, no_more_terms, a_variable, a_sort, a_colon, a_dot, a_close, an_equals, Goes, expected_after}
use Rattle.sentence_fronts.proofs.Moves.{one}

-- Some lexemes are what is expected there.
abbrev pub Hopes : Option (List Symbol) → List Lexeme → Type 0
Hopes None rest = Unit {0}
Hopes (Some ps) rest = (ls : List Lexeme) × Goes ps ls rest

abbrev x : Lexeme
x = lexeme.Word (codes "x")

free_x : IsFree (codes "x")
free_x = record { not_all = λ e. cc; not_some = λ e. cc }

term_of : (rest : List Lexeme) → Derives symbol.Term (x ∷ rest) rest
term_of rest = a_term (variable free_x)

pub formula_of : (rest : List Lexeme) → Derives symbol.Formula (x ∷ lexeme.Equals ∷ x ∷ rest) rest
formula_of rest = a_formula (atom (equal (variable free_x) (variable free_x)))

abbrev joint_lexemes : List Lexeme → List Lexeme
joint_lexemes rest = lexeme.Implies ∷ x ∷ lexeme.Equals ∷ x ∷ lexeme.Close ∷ rest

joint_of : (rest : List Lexeme) → Derives symbol.Joint (joint_lexemes rest) rest
joint_of rest = a_joint joint.Implies refl (last_part (atom (equal (variable free_x) (variable free_x))))

-- a formula, and then this
formula_then : (a : Symbol) (mid rest : List Lexeme) → Derives a mid rest → Hopes (Some (a ∷ symbol.Formula ∷ [])) rest
formula_then a mid rest d = (x ∷ lexeme.Equals ∷ x ∷ mid, (mid, one (formula_of mid), d))

-- a term, and then this
term_then : (a : Symbol) (mid rest : List Lexeme) → Derives a mid rest → Hopes (Some (a ∷ symbol.Term ∷ [])) rest
term_then a mid rest d = (x ∷ mid, (mid, one (term_of mid), d))

equal_hope : (rest : List Lexeme) → Hopes (Some (symbol.Term ∷ symbol.Equals ∷ [])) rest
equal_hope rest = (lexeme.Equals ∷ x ∷ rest, (x ∷ rest, one an_equals, term_of rest))

abbrev alt : Lexeme
alt = lexeme.Word (codes "alt")

binder_hope : (rest : List Lexeme) → Hopes (Some (symbol.Formula ∷ symbol.Dot ∷ symbol.Sort ∷ symbol.Colon ∷ symbol.Variable ∷ [])) rest
binder_hope rest =
    let m = x ∷ lexeme.Equals ∷ x ∷ rest in
    (x ∷ lexeme.Colon ∷ alt ∷ lexeme.Dot ∷ m, (m, (lexeme.Dot ∷ m, (alt ∷ lexeme.Dot ∷ m, (lexeme.Colon ∷ alt ∷ lexeme.Dot ∷ m, one (a_variable free_x), a_colon), a_sort sort.Alt refl), a_dot), formula_of rest))

call_hope : (rest : List Lexeme) → Hopes (Some (symbol.AfterCall ∷ symbol.MoreTerms ∷ symbol.Term ∷ [])) rest
call_hope rest = (x ∷ lexeme.Close ∷ rest, (rest, (lexeme.Close ∷ rest, one (term_of (lexeme.Close ∷ rest)), no_more_terms), call_whole))

name_hope : (rest : List Lexeme) → Hopes (Some (symbol.AfterName ∷ [])) rest
name_hope rest = (lexeme.Equals ∷ x ∷ rest, one (name_equal (variable free_x)))

pub hope : (a : Symbol) (k : LexemeKind) (rest : List Lexeme) → Hopes (expected_after a k) rest
hope symbol.Formula kind.Quantifier rest = binder_hope rest
hope symbol.Formula kind.Not rest = (x ∷ lexeme.Equals ∷ x ∷ rest, one (formula_of rest))
hope symbol.Formula kind.Open rest = formula_then symbol.Joint (joint_lexemes rest) rest (joint_of rest)
hope symbol.Formula kind.Name rest = name_hope rest
hope symbol.Formula kind.Sort rest = name_hope rest
hope symbol.Formula kind.Voter rest = equal_hope rest
hope symbol.Formula kind.Alt rest = equal_hope rest
hope symbol.Formula kind.Ballot rest = equal_hope rest
hope symbol.AfterName kind.Open rest = call_hope rest
hope symbol.AfterName kind.Equals rest = (x ∷ rest, one (term_of rest))
hope symbol.AfterCall kind.Equals rest = (x ∷ rest, one (term_of rest))
hope symbol.Joint kind.And rest = formula_then symbol.MoreAnds (lexeme.Close ∷ rest) rest no_more_ands
hope symbol.Joint kind.Or rest = formula_then symbol.MoreOrs (lexeme.Close ∷ rest) rest no_more_ors
hope symbol.Joint kind.Implies rest = formula_then symbol.Close (lexeme.Close ∷ rest) rest a_close
hope symbol.Joint kind.Same rest = formula_then symbol.Close (lexeme.Close ∷ rest) rest a_close
hope symbol.MoreAnds kind.And rest = formula_then symbol.MoreAnds (lexeme.Close ∷ rest) rest no_more_ands
hope symbol.MoreAnds kind.Close rest = (rest, refl)
hope symbol.MoreOrs kind.Or rest = formula_then symbol.MoreOrs (lexeme.Close ∷ rest) rest no_more_ors
hope symbol.MoreOrs kind.Close rest = (rest, refl)
hope symbol.Term kind.Name rest = (rest, one no_call)
hope symbol.Term kind.Sort rest = (rest, one no_call)
hope symbol.Term kind.Voter rest = (rest, refl)
hope symbol.Term kind.Alt rest = (rest, refl)
hope symbol.Term kind.Ballot rest = (rest, refl)
hope symbol.MayCall kind.Open rest = term_then symbol.MoreTerms (lexeme.Close ∷ rest) rest no_more_terms
hope symbol.MoreTerms kind.Comma rest = term_then symbol.MoreTerms (lexeme.Close ∷ rest) rest no_more_terms
hope symbol.MoreTerms kind.Close rest = (rest, refl)
hope symbol.Variable kind.Name rest = (rest, refl)
hope symbol.Variable kind.Sort rest = (rest, refl)
hope symbol.Sort kind.Sort rest = (rest, refl)
hope symbol.Colon kind.Colon rest = (rest, refl)
hope symbol.Dot kind.Dot rest = (rest, refl)
hope symbol.Close kind.Close rest = (rest, refl)
hope symbol.Equals kind.Equals rest = (rest, refl)
hope _ _ rest = tt
