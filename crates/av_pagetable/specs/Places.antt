-- The tables of several processes, each in the place that has its process's number.
use Rattle.std.specs.Prelude.{ℕ, List, Option, Some, None, option_map, slice_index_or}
use Rattle.av_pagetable.specs.declared.pte.Pte.{Pte}
use Rattle.av_pagetable.specs.declared.pte.Pte.TheVariants.{Empty}

-- the table in the place of a process, if it has one
abbrev pub table_at : {X : Type 0} → List (Option X) → ℕ → Option X
table_at tables process = slice_index_or tables process None

-- the same as a function from page to entry
abbrev pub table_in : {X : Type 0} → (X → ℕ → Pte) → List (Option X) → ℕ → Option (ℕ → Pte)
table_in at tables process = option_map at (table_at tables process)

-- the entry of a page in a table that may be missing
abbrev pub at_page : Option (ℕ → Pte) → ℕ → Pte
at_page None page = Empty
at_page (Some table) page = table page

-- the entry of a process's page, Empty where there is none
abbrev pub entries_in : {X : Type 0} → (X → ℕ → Pte) → List (Option X) → ℕ → ℕ → Pte
entries_in at tables process page = at_page (table_in at tables process) page
