-- The contents table entry by entry, and the three answers of `write`.
use Rattle.errors.specs.declared.CallError.TheVariants.{Refused, Unread}
use Rattle.std.specs.Prelude.{Err, Ok}
use Prim.Native.Nat.{◌*◌, ◌+◌, ◌<◌, ◌≤◌, ℕ}
use mathlib.Core.List.{List, [], ◌++◌, ◌∷◌}
use mathlib.Core.Path.{◌∙◌, ◌≡◌, refl}
use native.Mathlib.Nat.{zero-add}
use native.Mathlib.Omega.{arith}
use lib.ListN.{drop, get_or, length, take}
use lib.Seq.{sets, take_all}
use borrow.Author.Tests.{le-leb, lt-leb}
use Rattle.errors.specs.Faults.{first}
use Rattle.errors.specs.declared.Refusal.{Refusal}
use Rattle.lists.proofs.Flat.{get_d_tabulate}
use Rattle.lists.proofs.Laws.{length_tabulate, map_tabulate}
use Rattle.lists.proofs.Sets.{Laid, laid_all, laid_next, laid_room, laid_start}
use Rattle.lists.specs.Lists.{tabulate}
use Rattle.pattern.specs.Checks.{count_faults}
use Rattle.pattern_file.proofs.Places.{count_small, start_small}
use Rattle.pattern_file.proofs.Records.{entry_bytes}
use Rattle.pattern_file.specs.File.{start_of, table_bytes}
use Rattle.words.specs.Words.{bytes32}
use Rattle.store_write.specs.Writing.{write_answer, write_bytes, no_space}

-- ---- the contents table

-- offset and count of body b
abbrev entry : List ℕ → ℕ → ℕ × ℕ
entry ns b = (start_of ns b, get_or ns b 0)

abbrev pub entries : List ℕ → List (ℕ × ℕ)
entries ns = tabulate 7 (entry ns)

start_at_lem : (ns starts : List ℕ) (b : ℕ) → starts ≡ tabulate 8 (start_of ns) → b < 8 → get_or starts b 0 ≡ start_of ns b
start_at_lem ns starts b e h = rw e (get_d_tabulate 8 (start_of ns) b 0 h)

-- both fit four bytes
pub entry_fits : (ns starts : List ℕ) (b : ℕ) → starts ≡ tabulate 8 (start_of ns) → count_faults ns ≡ [] → length ns ≡ 7 → b < 7
    → (get_or starts b 0 < 4294967296) × (get_or ns b 0 < 4294967296)
entry_fits ns starts b e few seven h =
    (omega (arith, start_at_lem ns starts b e (omega arith), start_small ns few seven b h), count_small ns few b (omega arith))

pub entries_start : (ns l : List ℕ) → Laid entry_bytes 8 l 0 (entries ns) 7 l 0
entries_start ns l = laid_start entry_bytes 8 l 0 (entries ns) 7 (λ x. refl) (omega (arith, length_tabulate 7 (entry ns)))

module _ (ns l out : List ℕ) (b : ℕ) (s : Laid entry_bytes 8 l 0 (entries ns) 7 out b) where
  pub entries_room : 56 ≤ length l → b < 7 → 8 * b + 8 ≤ length out
  entries_room h m = omega (arith, laid_room entry_bytes 8 l 0 (entries ns) 7 out b s h m)

  pub entries_next : (starts out' : List ℕ) → starts ≡ tabulate 8 (start_of ns) → b < 7
      → out' ≡ sets out (8 * b) (bytes32 (get_or starts b 0) ++ bytes32 (get_or ns b 0))
      → Laid entry_bytes 8 l 0 (entries ns) 7 out' (b + 1)
  entries_next starts out' e h w =
      laid_next entry_bytes 8 l 0 (entries ns) 7 out b s out' (0, 0) h
      (w ∙ rw (start_at_lem ns starts b e (omega arith), get_d_tabulate 7 (entry ns) b (0, 0) h, zero-add (8 * b)))

  pub entries_all : 7 ≤ b → out ≡ sets l 0 (table_bytes ns)
  entries_all h =
      let full : take 7 (entries ns) ≡ entries ns = take_all 7 (entries ns) (omega (arith, length_tabulate 7 (entry ns))) in
      laid_all entry_bytes 8 l 0 (entries ns) 7 out b s h ∙ rw (full, map_tabulate entry_bytes 7 (entry ns))

-- ---- the answers

module _ (file out : List ℕ) where
  pub write_refused : (fs : List Refusal) (f : Refusal) → first fs ≡ Err f
      → ((Err (Unread f)) ≡ write_answer fs file out) × (out ≡ write_bytes fs file out)
  write_refused [] f e = absurd (let z : ◌≡◌ {A = ℕ} 0 1 = cc in omega arith)
  write_refused (g ∷ fs) f e = (cc, refl)

  module _ (fs : List Refusal) (ok : fs ≡ []) where
    pub write_short : (n : ℕ) → length out < length file → n ≡ length file → ((Err (Refused (no_space n))) ≡ write_answer fs file out) × (out ≡ write_bytes fs file out)
    write_short n h e = (rw (ok, lt-leb (length file) (length out) h, e), rw (ok, lt-leb (length file) (length out) h))

    pub write_whole : (n : ℕ) (out' : List ℕ) → length file ≤ length out → n ≡ length file → out' ≡ file ++ drop (length file) out
        → ((Ok n) ≡ write_answer fs file out) × (out' ≡ write_bytes fs file out)
    write_whole n out' h e w = (rw (ok, le-leb (length file) (length out) h, e), rw (ok, le-leb (length file) (length out) h) w)
