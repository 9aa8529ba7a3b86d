-- A pattern file and the store: what the reading checks answer, which pattern an accepted file has, what a store holds that a file was read into (FORMAT 1.8, 2.1).
use Rattle.std.specs.Prelude.{ℕ, List, [], ◌∷◌, Result}
use Rattle.errors.specs.Faults.{first}
use Rattle.errors.specs.declared.Refusal.{Refusal}
use Rattle.pattern.specs.Contents.{Content, Pattern, stored, stored_in}
use Rattle.pattern_file.specs.File.{file_content, file_faults, table_faults}

-- the first fault of the file, if any
abbrev pub check_of : List ℕ → Result Unit Refusal
check_of s = first (file_faults s)

-- the file's content in storage, with zeros past each count
abbrev pub pattern_of : List ℕ → Pattern
pattern_of s = stored (file_content s)

-- ---- a store

abbrev pub loaded_in : List Refusal → Pattern → Content → Pattern
loaded_in [] p c = stored_in p c
loaded_in (f ∷ fs) p c = p

-- the file's content, and past each count what was there; all as it was if the contents table is wrong
abbrev pub loaded : Pattern → List ℕ → Pattern
loaded p s = loaded_in (table_faults s) p (file_content s)
