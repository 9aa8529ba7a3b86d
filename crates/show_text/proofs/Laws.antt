-- Lines written one after the other, and the text of a file by the branches of the code.
use Rattle.std.specs.Prelude.{Err, Ok}
use Prim.Native.Nat.{◌+◌, ◌<◌, ℕ}
use mathlib.Core.List.{List, [], ◌++◌, ◌∷◌}
use mathlib.Core.Path.{◌∙◌, ◌≡◌, ap, refl, sym}
use native.Mathlib.Numerals.{add-one}
use native.Mathlib.Omega.{arith}
use lib.Ieee.{binary64, of_bits}
use lib.ListN.{length, length-replicate, replicate}
use lib.Seq.{length-sets}
use Rattle.errors.proofs.Laws.{none_left}
use Rattle.errors.specs.Faults.{first}
use Rattle.errors.specs.declared.Refusal.{Refusal}
use Rattle.lists.proofs.Flat.{tabulate_ext}
use Rattle.lists.proofs.Laws.{flat_append, tabulate_suc}
use Rattle.lists.proofs.Parts.{flat_one}
use Rattle.lists.proofs.Sets.{Put, put_then}
use Rattle.lists.specs.Lists.{flat, tabulate}
use Rattle.output.specs.Text.{refusal_line}
use Rattle.pattern.proofs.Counts.{Full}
use Rattle.pattern.specs.Checks.{content_faults, pattern_faults}
use Rattle.pattern.specs.Contents.{Content, Pattern, content}
use Rattle.pattern_file.specs.File.{file_content, file_faults, table_faults}
use Rattle.show_text.specs.PatternText.{file_text, pattern_text, text_of}
use Rattle.store.proofs.View.{held_full}
use Rattle.store_read.proofs.Fresh.{blank}
use Rattle.store_read.proofs.Laws.{loaded_content, loaded_faults}
use Rattle.store_read.specs.Loading.{loaded}

-- the same lines, counted in two ways
pub lines_same : {m n : ℕ} → m ≡ n → (f g : ℕ → List ℕ) → ((k : ℕ) → k < n → f k ≡ g k) → flat (tabulate m f) ≡ flat (tabulate n g)
lines_same {n = n} e f g same = rw e (ap flat (tabulate_ext n f g same))

module _ (f : ℕ → List ℕ) where
  flat_more : (k : ℕ) → flat (tabulate (k + 1) f) ≡ flat (tabulate k f) ++ f k
  flat_more k = rw (add-one k, tabulate_suc k f, flat_append (tabulate k f) (f k ∷ []), flat_one (f k))

  -- the lines of k records are written, and the next begins at place `end`
  pub record Listing (l : List ℕ) (at : ℕ) (out : List ℕ) (end k : ℕ) : Type 0 where
    pub long : length out ≡ length l
    pub so_far : Put l at (flat (tabulate k f)) out end

  pub listing_start : (l : List ℕ) (at : ℕ) → Listing l at l at 0
  unfolding flat tabulate
  listing_start l at = record { long = refl; so_far = (refl, omega arith) }

  module _ {l : List ℕ} {at : ℕ} {out : List ℕ} {end k : ℕ} (s : Listing l at out end k) where
    pub listing_next : {line : List ℕ} → line ≡ f k → (out' : List ℕ) (end' : ℕ) → Put out end line out' end' → Listing l at out' end' (k + 1)
    listing_next {line} is out' end' p =
        record {
          long = ap length p.0 ∙ length-sets out end line ∙ s.long;
          so_far = rw (flat_more k, ← is) (put_then l at (flat (tabulate k f)) line out out' end end' s.so_far p);
        }

    -- all n of them
    pub listing_all : (n : ℕ) → k ≡ n → Put l at (flat (tabulate n f)) out end
    listing_all n e = rw e at s.so_far

-- ---- the text of a file, by the branches of the code

pub refused_is : (fs : List Refusal) (c : Content) {f : Refusal} → first fs ≡ Err f → text_of fs c ≡ refusal_line f
refused_is [] c h = cc
refused_is (g ∷ fs) c h = cc

-- a store of zeros, after an accepted file was read into it
module _ (s : List ℕ) (q : Pattern) (done : q ≡ loaded blank s) (ok : file_faults s ≡ []) where
  full : Full blank
  full = held_full (replicate 12312 0) (replicate 2048 (of_bits binary64 0)) (length-replicate {A = ℕ} 12312 0)

  table : first (table_faults s) ≡ Ok tt
  table = ap first (none_left (table_faults s) (content_faults (file_content s)) ok)

  pub read_right : pattern_faults q ≡ []
  read_right = loaded_faults s blank q full done table ∙ ok

  pub read_text : pattern_text (content q) ≡ file_text s
  read_text = ap pattern_text (loaded_content s blank q full done table) ∙ ap (λ (fs : List Refusal). text_of fs (file_content s)) (sym ok)
