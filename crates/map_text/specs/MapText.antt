-- The text of a map of the axioms of a study.
use Rattle.std.specs.Prelude.{ℕ, Bool, nat_lt, List, [], ◌∷◌, ◌++◌, codes, length, IsTrue}
use Rattle.std.specs.List.{list_all, flat_map}
use Rattle.vocab.specs.Study.{Question}
use Rattle.verdicts.specs.Lines.{name_at}
use Rattle.verdicts.specs.Report.{own_version}
use Rattle.report_text.specs.Pieces.{about_lines, lines_text}
use Rattle.texts.specs.Spelled.{spelled}
use Rattle.axiom_sets.specs.declared.maps.AxiomMap.{AxiomMap}
use Rattle.core_maps.specs.declared.answers.CoreMap.{CoreMap}
use Rattle.core_maps.specs.declared.answers.Ending.{Ending}
use Rattle.core_maps.specs.declared.answers.Ending.TheVariants.{Whole, Cut}

-- whether the map may lack sets
abbrev pub map_ending_text : Ending → List ℕ
map_ending_text Whole = []
map_ending_text Cut = codes "more\n"

module _ (study : Question) where
  -- the names of the axioms at some places, each with a blank before it
  abbrev pub names_text : List ℕ → List ℕ
  names_text set = spelled (λ _ k. 32 ∷ name_at study.axioms k) 0 set

  -- a line of a word and a set: the word, and the names of the axioms
  abbrev pub set_text : (word set : List ℕ) → List ℕ
  set_text word set = word ++ (names_text set ++ 10 ∷ [])

  -- lines of a word, one for each set
  abbrev pub sets_text : (word : List ℕ) → List (List ℕ) → List ℕ
  sets_text word sets = flat_map (set_text word) sets

  -- each place is the place of an axiom
  abbrev pub are_axiom_places : List ℕ → Bool
  are_axiom_places set = list_all (λ k. nat_lt k (length study.axioms)) set

  -- so it is in each set
  abbrev pub are_named : List (List ℕ) → Type 0
  are_named sets = IsTrue (list_all are_axiom_places sets)

  -- and in each set of a map
  pub record HasNames (sets : AxiomMap) : Type 0 where
    pub impossible : are_named sets.impossible
    pub possible : are_named sets.possible
    pub open_sets : are_named sets.open

-- the text of a map: what the study is, as in a report; the sets that no rule satisfies, those that some rule satisfies,
-- and those that are open, a line each; and whether there may be more
abbrev pub map_text : Question → CoreMap → List ℕ
map_text study map =
    (codes "bench cores 1\n" ++ lines_text study (about_lines study (own_version study)))
    ++ (sets_text study (codes "impossible") map.sets.impossible
    ++ (sets_text study (codes "possible") map.sets.possible
    ++ (sets_text study (codes "open") map.sets.open ++ (map_ending_text map.ending ++ codes "end\n"))))
